-- What stands at the front of bytes that go on, by the laws of the reader.
use Rattle.std.proofs.Common.{ℕ, ◌≡◌, ◌≢◌, ◌<◌, ◌≤◌, refl, ap, ◌∙◌, List, [], ◌++◌, length, Bool, true, false, append-nil}
use Rattle.http_front.specs.Front.{head_begun}
use Rattle.http_front.specs.Message.{Message}
use Rattle.http_front.specs.NextUnit.{request, finished, wait, NextUnit, next_unit}

-- the laws that are used here
pub record UnitLaws : Type 0 where
  pub stays : (bytes more : List ℕ) (ended : Bool) (limit : ℕ) → ((next_unit bytes false limit).found ≢ wait)
      → next_unit (bytes ++ more) ended limit ≡ next_unit bytes false limit
  pub begun : (bytes more : List ℕ) → head_begun bytes ≡ true → head_begun (bytes ++ more) ≡ true
  pub due : (bytes more : List ℕ) (ended : Bool) (limit : ℕ) → head_begun bytes ≡ true
      → (next_unit (bytes ++ more) ended limit).continue_due ≡ (next_unit bytes false limit).continue_due
  pub unfinished : (bytes : List ℕ) (ended : Bool) (limit : ℕ) → head_begun bytes ≡ true → (next_unit bytes ended limit).found ≢ finished
  pub fits : (bytes : List ℕ) (ended : Bool) (limit : ℕ) (m : Message) (used : ℕ) → (next_unit bytes ended limit).found ≡ request m used
      → (0 < used) × (used ≤ length bytes)

module _ (laws : UnitLaws) (bytes more : List ℕ) where
  -- behind the end of the input nothing comes
  same_unit : (ended : Bool) (limit : ℕ) → more ≡ [] → ended ≡ true → next_unit (bytes ++ more) ended limit ≡ next_unit bytes true limit
  same_unit ended limit none over =
      (λ i. next_unit (bytes ++ none i) (over i) limit) ∙ ap (λ all. next_unit all true limit) (append-nil bytes)

  -- what is found stays
  pub unit_goes : (was ended : Bool) (limit : ℕ) → (was ≡ true → more ≡ []) → (was ≡ true → ended ≡ true)
      → (next_unit bytes was limit).found ≢ wait → next_unit (bytes ++ more) ended limit ≡ next_unit bytes was limit
  unit_goes false ended limit none over told = laws.stays bytes more ended limit told
  unit_goes true ended limit none over told = same_unit ended limit (none refl) (over refl)

  -- and so does whether `100 Continue` is due
  pub due_goes : (was ended : Bool) (limit : ℕ) → (was ≡ true → more ≡ []) → (was ≡ true → ended ≡ true) → head_begun bytes ≡ true
      → (next_unit (bytes ++ more) ended limit).continue_due ≡ (next_unit bytes was limit).continue_due
  due_goes false ended limit none over begun = laws.due bytes more ended limit begun
  due_goes true ended limit none over begun = ap (λ (u : NextUnit). u.continue_due) (same_unit ended limit (none refl) (over refl))
