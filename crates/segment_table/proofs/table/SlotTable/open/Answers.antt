use Rattle.std.proofs.Common.{ℕ, ◌∙◌, List, set, ap}
use Rattle.segment_table.proofs.Stepping.{opens}
use Rattle.segment_table.proofs.table.SlotTable.open.Goals as goal

pub vacant-requires : goal.vacant-requires
vacant-requires g c = opens c.args.segments c.as_slice.result.now (c.as_slice.ensures.value ∙ ap (λ (ws : List ℕ). set ws 0 c.args.segments) (c.in_ok-words.ensures.items_if_clones_equal (λ y same. same)))
