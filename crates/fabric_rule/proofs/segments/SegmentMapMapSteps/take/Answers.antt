use Rattle.std.proofs.Common.{ℕ, ◌+◌, ◌*◌, ◌/◌, ◌%◌, ◌∙◌, ap, ap₂, sym, arith}
use Rattle.fabric_rule.proofs.SideSlots.{gained_slots, map_stands}
use Rattle.fabric_rule.proofs.segments.SegmentMapMapSteps.take.Goals as goal

pub word-word-requires : goal.word-word-requires
word-word-requires g c = omega (arith, c.requires.chunk, c.args.self.now.some.1)

pub claim_bit-requires-clause-word : goal.claim_bit-requires-clause-word
claim_bit-requires-clause-word g c =
    let map = c.args.self.now in
    c.word-word.ensures ∙ ap (λ (m : ℕ). m + 16 * (c.args.chunk / 64 / 10) + c.args.chunk / 64 % 10) map.words_is.0 ∙ map_stands map.table.now.table.shared.key map.segments (c.args.chunk / 64)

pub claim_bit-requires-clause-may : goal.claim_bit-requires-clause-may
claim_bit-requires-clause-may g c =
    record { busy = c.requires.may.busy; own = c.requires.may.own; there = c.requires.chunk; opened = omega (arith, c.requires.open) }

pub returns-clause-gained : goal.returns-clause-gained
returns-clause-gained g c gained =
    let told = c.claim_bit.ensures.told in
    let map = c.args.self.now in
    ap₂ (λ a b. (a, b)) (told.won gained) (told.slot gained ∙ sym (gained_slots map.table.now.table.shared.key map.segments c.args.chunk c.args.seat.now.seat.me.1 c.requires.chunk))

pub returns-clause-missed : goal.returns-clause-missed
returns-clause-missed g c missed = let told = c.claim_bit.ensures.told in ap₂ (λ a b. (a, b)) (told.missed missed) (told.same_slots missed)
