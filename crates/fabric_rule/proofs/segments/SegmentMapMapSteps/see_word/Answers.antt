use Rattle.std.proofs.Common.{ℕ, ◌+◌, ◌*◌, ◌/◌, ◌%◌, ◌∙◌, ap, ap₂, arith}
use Rattle.fabric_rule.proofs.SideSlots.{map_stands, map_there}
use Rattle.fabric_rule.proofs.segments.SegmentMapMapSteps.see_word.Goals as goal

pub word-requires : goal.word-requires
word-requires g c = omega (arith, c.requires.number, c.args.self.now.some.1)

pub load-requires-clause-word : goal.load-requires-clause-word
load-requires-clause-word g c =
    let map = c.args.self.now in
    c.word.ensures ∙ ap (λ (m : ℕ). m + 16 * (c.args.number / 10) + c.args.number % 10) map.words_is.0 ∙ map_stands map.table.now.table.shared.key map.segments c.args.number

pub load-requires-clause-there : goal.load-requires-clause-there
load-requires-clause-there g c =
    let map = c.args.self.now in
    map_there map.table.now.table.shared.key map.segments c.args.number c.requires.number

pub returns-clause-view : goal.returns-clause-view
returns-clause-view g c = let told = c.load.ensures.told in ap₂ (λ a b. (a, b)) told.noted told.slots
