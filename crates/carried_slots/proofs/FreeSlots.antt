-- The slots of free chunks, through the steps of a table.
use Rattle.std.proofs.Common.{ℕ, ◌≡◌, ◌≢◌, ◌<◌, ◌≤◌, ⊎_elim, zero, suc, true, true≢false, List, map, length, replicate, refl, sym, ap, ◌∙◌, arith}
use Rattle.std.specs.Prelude.{Option, Some, None}
use Rattle.std.proofs.lemmas.Bool.{cases_eq}
use mathlib.Core.Option.{some, none}
use lib.ListN.{get_elem?}
use Rattle.atomic_table.specs.Table.{takes, homes_after}
use Rattle.atomic_table.proofs.Lists.{set_else}
use Rattle.unit_model.specs.Weights.{is_number, times}
use Rattle.chunk_map.specs.Words.{is_free, Takes, Frees}
use Rattle.carried_slots.specs.Acts.{takes_all, becomes}
use Rattle.carried_slots.specs.Carried.{content, numbers, but, IsDistinct}
use Rattle.carried_slots.specs.FreeSlots.{FreeSlots, FreeUncarried, SlotGained, SlotGiven}
use Rattle.carried_slots.specs.SlotLaws.{Becomes, Taken}
use Rattle.carried_slots.proofs.Lookups.{some_content, but_weighs, but_gone, among_itself, among_but}
use Rattle.carried_slots.proofs.Moving.{slots_become}

all_empty : {A : Type 0} (n k : ℕ) (a : A) → k < n → get_elem? (map some (replicate n a)) k ≡ some (some a)
all_empty zero k a lt = absurd (omega (arith, lt))
all_empty (suc n) zero a lt = refl
all_empty (suc n) (suc k) a lt = all_empty n k a (omega (arith, lt))

module _ {T : Type 0} where
  pub free_first : (chunks : ℕ) (word : ℕ → ℕ) → FreeSlots {T = T} chunks word (map some (replicate chunks None))
  free_first chunks word chunk lt free = all_empty chunks chunk None lt

  pub free_stay : (chunks : ℕ) (word word' : ℕ → ℕ) (homes homes' : List (mathlib.Core.Option.Option (Option T)))
      → ((chunk : ℕ) → chunk < chunks → is_free word' chunk ≡ true → (is_free word chunk ≡ true) × (get_elem? homes' chunk ≡ get_elem? homes chunk))
      → FreeSlots chunks word homes → FreeSlots chunks word' homes'
  free_stay chunks word word' homes homes' same holds chunk lt free = let was = same chunk lt free in was.1 ∙ holds chunk lt was.0

  pub free_become : (chunks : ℕ) (word : ℕ → ℕ) (homes : List (mathlib.Core.Option.Option (Option T))) (c t : List (ℕ × Option T))
      → FreeUncarried chunks word c → ((k : ℕ) → times k (numbers t) ≤ times k (numbers c)) → Becomes homes c t
      → FreeSlots chunks word homes → FreeSlots chunks word (homes_after homes c (becomes c t))
  free_become chunks word homes c t apart fewer turned holds chunk lt free =
      let none_here : times chunk (numbers c) ≡ 0 = apart chunk lt free in
      turned.others chunk (omega (arith, fewer chunk, none_here)) none_here ∙ holds chunk lt free

  pub free_taken_by : (chunks : ℕ) (word : ℕ → ℕ) (homes : List (mathlib.Core.Option.Option (Option T))) (c t : List (ℕ × Option T))
      → FreeUncarried chunks word t → Taken homes c t → FreeSlots chunks word homes → FreeSlots chunks word (homes_after homes c (takes_all t))
  free_taken_by chunks word homes c t apart taken holds chunk lt free = taken.others chunk (apart chunk lt free) ∙ holds chunk lt free

  pub slot_gained : (chunks : ℕ) (word word' : ℕ → ℕ) (homes : List (mathlib.Core.Option.Option (Option T))) (c : List (ℕ × Option T)) (chunk : ℕ) → chunk < chunks
      → Takes chunks word word' chunk → FreeSlots chunks word homes → SlotGained chunks word' homes c chunk
  slot_gained chunks word word' homes c chunk below it holds = record {
    valid = holds chunk below it.was;
    carried = refl;
    others = λ k ne. set_else homes chunk k none ne;
    free = λ k lt free.
        let ne : k ≢ chunk = λ is. true≢false (sym free ∙ ap (is_free word') is ∙ it.here) in
        set_else homes chunk k none ne ∙ holds k lt (sym (it.others k lt ne) ∙ free);
  }

  pub slot_given : (chunks : ℕ) (word word' : ℕ → ℕ) (homes : List (mathlib.Core.Option.Option (Option T))) (c : List (ℕ × Option T)) (chunk : ℕ)
      → Frees chunks word word' chunk → IsDistinct c → ((k : ℕ) → 0 < times k (numbers c) → k < length homes) → content c chunk ≡ Some None
      → FreeUncarried chunks word c → FreeSlots chunks word homes → SlotGiven chunks word' homes c chunk
  slot_given chunks word word' homes c chunk it once within is_empty apart holds =
      let carried : 0 < times chunk (numbers c) = some_content c chunk None is_empty in
      let fewer : (k : ℕ) → times k (numbers (but chunk c)) ≤ times k (numbers c) = λ k. omega (arith, but_weighs (is_number k) c chunk carried) in
      let turned : Becomes homes c (but chunk c) = slots_become homes c (but chunk c) once (λ k. omega (arith, fewer k, once k)) (among_but c c chunk (among_itself c once)) within in
      record {
        turned = turned;
        free = λ k lt free. ⊎_elim
            (λ is. ap (get_elem? (homes_after homes c (becomes c (but chunk c)))) is ∙ turned.given chunk None (but_gone c chunk once carried) is_empty)
            (λ ne. free_become chunks word homes c (but chunk c) apart fewer turned holds k lt (sym (it.others k lt ne) ∙ free))
            (cases_eq k chunk);
      }
