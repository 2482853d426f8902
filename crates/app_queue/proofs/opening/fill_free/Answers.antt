use Rattle.std.proofs.Common.{ℕ, ◌+◌, ◌%◌, ◌<◌, ◌∙◌, inl, inr, ⊎_elim, List, length, slice_index, set, ap, arith, get_or-set_same, get_or-set_other}
use Rattle.std.proofs.lemmas.Bool.{cases_eq}
use Rattle.app_queue.proofs.opening.fill_free.Goals as goal

pub loop-slot-preserved : goal.loop-slot-preserved
loop-slot-preserved c =
    let slot : ℕ = c.loop-slot.slot in
    let words : List ℕ = c.loop-slot.words in
    let entry : ℕ = c.full_entry.result in
    let inside : 48 + slot < length words = omega arith in
    record {
      filled = λ value lt below. elim (cases_eq ((c.args.start + value) % c.args.size) slot) [
        | inl same ↦ ap (λ (j : ℕ). slice_index (set words (48 + slot) entry) (48 + j)) same ∙ get_or-set_same words (48 + slot) entry 0 inside ∙ c.full_entry.ensures value lt same
        | inr other ↦
            get_or-set_other words (48 + slot) (48 + (c.args.start + value) % c.args.size) entry 0 (λ is. other (omega (arith, is)))
            ∙ c.loop-slot.invariant.filled value lt (omega (arith, below, other))
      ];
      others = λ i out.
          get_or-set_other words (48 + slot) i entry 0 (λ is. ⊎_elim (λ low. absurd (omega (arith, is, low))) (λ high. absurd (omega (arith, is, high))) out)
          ∙ c.loop-slot.invariant.others i out;
    }
