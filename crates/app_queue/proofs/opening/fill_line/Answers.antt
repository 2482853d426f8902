use Rattle.std.proofs.Common.{ℕ, ◌+◌, ◌%◌, ◌<◌, ◌∙◌, inl, inr, ⊎_elim, List, length, slice_index, set, ap, arith, get_or-set_same, get_or-set_other}
use Rattle.std.proofs.lemmas.Bool.{cases_eq}
use Rattle.app_queue.proofs.opening.fill_line.Goals as goal

pub loop-slot-preserved : goal.loop-slot-preserved
loop-slot-preserved c =
    let n : ℕ = c.args.size in
    let slot : ℕ = c.loop-slot.slot in
    let words : List ℕ = c.loop-slot.words in
    let entry : ℕ = c.first_entry.result in
    let inside : 96 + n + slot < length words = omega arith in
    record {
      filled = λ place lt near below. elim (cases_eq (place % n) slot) [
        | inl same ↦ ap (λ (j : ℕ). slice_index (set words (96 + n + slot) entry) (96 + n + j)) same ∙ get_or-set_same words (96 + n + slot) entry 0 inside ∙ c.first_entry.ensures place lt near same ∙ omega arith
        | inr other ↦
            get_or-set_other words (96 + n + slot) (96 + n + place % n) entry 0 (λ is. other (omega (arith, is)))
            ∙ c.loop-slot.invariant.filled place lt near (omega (arith, below, other))
      ];
      others = λ i out.
          get_or-set_other words (96 + n + slot) i entry 0 (λ is. ⊎_elim (λ low. absurd (omega (arith, is, low))) (λ high. absurd (omega (arith, is, high))) out)
          ∙ c.loop-slot.invariant.others i out;
    }
