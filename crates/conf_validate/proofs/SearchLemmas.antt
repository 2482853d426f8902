-- Look-ups of destinations by name, and the comparison of a name with bytes that come one by one.
use Rattle.std.proofs.Common.{◌≡◌, ℕ, ◌+◌, ◌<◌, ◌≤◌, Bool, true, false, List, [], ◌∷◌, length, drop, get_or, nat_lt, Option, Some, None, option_map, if◌then◌else◌, Less, Equal, Greater, refl, sym, ap, ◌∙◌}
use Rattle.std.proofs.lemmas.Bool.{ltb-false}
use Rattle.std.proofs.lemmas.List.{drop_all, drop_more}
use Rattle.std.proofs.lemmas.List.Folds.{find_at}
use Rattle.std.proofs.lemmas.Option.{slice_get-get_or, slice_get_past}
use Rattle.std.specs.Iterator.{AlwaysYields}
use Rattle.std.specs.List.{find, position_or_len, slice_get}
use Rattle.std.specs.Ordering.{nat_cmp, ordering_then}
use Rattle.std.specs.Str.{bytes_eq}
use Rattle.conf_validate.specs.Configuration.{goal_named}
use Rattle.unit_types.specs.Names.{index_of_name}
use Rattle.unit_types.proofs.NameLemmas.{compared}
use Rattle.conf_validate.specs.declared.conf.Destination.{Destination}

-- ---- destinations by name

abbrev has_name : List ℕ → Destination → Bool
has_name name d = bytes_eq d.name name

goal_is : (name : List ℕ) (ds : List Destination) → goal_named name ds ≡ option_map (λ (d : Destination). d.goal) (find (has_name name) ds)
goal_is name [] = refl
goal_is name (d ∷ ds) = by_first (bytes_eq d.name name) (goal_is name ds)
  where
    by_first : (b : Bool) → goal_named name ds ≡ option_map (λ (x : Destination). x.goal) (find (has_name name) ds)
        → (if b then Some d.goal else goal_named name ds) ≡ option_map (λ (x : Destination). x.goal) (if b then Some d else find (has_name name) ds)
    by_first true later = refl
    by_first false later = later

-- the place at which the name stands first, or behind them
abbrev first_place : List ℕ → List Destination → ℕ
first_place name ds = position_or_len (has_name name) ds

goal_at_place : (name : List ℕ) (ds : List Destination) (place : ℕ) → first_place name ds ≡ place
    → goal_named name ds ≡ option_map (λ (d : Destination). d.goal) (slice_get ds place)
goal_at_place name ds place is =
    goal_is name ds ∙ ap (option_map (λ (d : Destination). d.goal)) (find_at (has_name name) ds ∙ ap (slice_get ds) is)

pub goal_found : (name : List ℕ) (ds : List Destination) (i : ℕ) (e : Destination) → i < length ds → index_of_name (λ (d : Destination). d.name) name ds ≡ Some i → goal_named name ds ≡ Some (get_or ds i e).goal
goal_found name ds i e within is = by_within (nat_lt (first_place name ds) (length ds)) is
  where
    by_within : (b : Bool) → (if b then Some (first_place name ds) else None) ≡ Some i → goal_named name ds ≡ Some (get_or ds i e).goal
    by_within true same =
        let place : first_place name ds ≡ i = cc same in
        goal_at_place name ds i place ∙ ap (option_map (λ (d : Destination). d.goal)) (slice_get-get_or ds i e within)
    by_within false same = absurd (cc same)

pub goal_nowhere : (name : List ℕ) (ds : List Destination) → index_of_name (λ (d : Destination). d.name) name ds ≡ None → goal_named name ds ≡ None
goal_nowhere name ds is = by_within (nat_lt (first_place name ds) (length ds)) refl is
  where
    by_within : (b : Bool) → nat_lt (first_place name ds) (length ds) ≡ b → (if b then Some (first_place name ds) else None) ≡ None → goal_named name ds ≡ None
    by_within true is same = absurd (cc same)
    by_within false past same =
        goal_at_place name ds (first_place name ds) refl ∙ ap (option_map (λ (d : Destination). d.goal)) (slice_get_past ds (first_place name ds) (ltb-false (first_place name ds) (length ds) past))

-- ---- bytes that come one by one

module _ {S : Type 0} (steps : S → Option ℕ → S → Type 0) where
  none_left : (s t : S) (bytes : List ℕ) → AlwaysYields steps (λ b. b) s bytes → steps s None t → bytes ≡ []
  none_left s t [] yields ended = refl
  none_left s t (b ∷ bs) yields ended = absurd (yields.0 t ended)

  one_given : (s : S) (byte : ℕ) (t : S) (bytes : List ℕ) → AlwaysYields steps (λ b. b) s bytes → steps s (Some byte) t → (rest : List ℕ) × (bytes ≡ byte ∷ rest) × AlwaysYields steps (λ b. b) t rest
  one_given s byte t [] yields gave = absurd (yields byte t gave)
  one_given s byte t (b ∷ bs) yields gave =
      let given = yields.1 byte t gave in
      (bs, ap (λ x. x ∷ bs) (sym given.0), given.1)

  -- so many bytes of the name were the first of these
  abbrev pub Passed : List ℕ → List ℕ → ℕ → S → Type 0
  Passed name bytes at s = (left : List ℕ) × AlwaysYields steps (λ b. b) s left × (compared name bytes ≡ compared (drop at name) left)

  pub text_ends : (name bytes : List ℕ) (at : ℕ) (s t : S) → Passed name bytes at s → steps s None t → at < length name → compared name bytes ≡ Greater
  text_ends name bytes at s t passed ended within =
      passed.2 ∙ ap (λ (l : List ℕ). compared (drop at name) l) (none_left s t passed.0 passed.1 ended) ∙ ap (λ (l : List ℕ). compared l []) (drop_more name at 0 within)

  -- one byte more of both
  step_on : (name bytes left rest : List ℕ) (at byte : ℕ) → compared name bytes ≡ compared (drop at name) left → left ≡ byte ∷ rest → at < length name → compared name bytes ≡ ordering_then (nat_cmp (get_or name at 0) byte) (compared (drop (at + 1) name) rest)
  step_on name bytes left rest at byte so_far first within =
      so_far ∙ ap (λ (l : List ℕ). compared (drop at name) l) first ∙ ap (λ (l : List ℕ). compared l (byte ∷ rest)) (drop_more name at 0 within)

  pub is_less : (name bytes : List ℕ) (at byte : ℕ) (s t : S) → Passed name bytes at s → steps s (Some byte) t → at < length name → nat_cmp (get_or name at 0) byte ≡ Less → compared name bytes ≡ Less
  is_less name bytes at byte s t passed gave within c =
      let given = one_given s byte t passed.0 passed.1 gave in
      step_on name bytes passed.0 given.0 at byte passed.2 given.1 within ∙ rw c refl

  pub is_greater : (name bytes : List ℕ) (at byte : ℕ) (s t : S) → Passed name bytes at s → steps s (Some byte) t → at < length name → nat_cmp (get_or name at 0) byte ≡ Greater → compared name bytes ≡ Greater
  is_greater name bytes at byte s t passed gave within c =
      let given = one_given s byte t passed.0 passed.1 gave in
      step_on name bytes passed.0 given.0 at byte passed.2 given.1 within ∙ rw c refl

  pub is_same : (name bytes : List ℕ) (at byte : ℕ) (s t : S) → Passed name bytes at s → steps s (Some byte) t → at < length name → nat_cmp (get_or name at 0) byte ≡ Equal → Passed name bytes (at + 1) t
  is_same name bytes at byte s t passed gave within c =
      let given = one_given s byte t passed.0 passed.1 gave in
      (given.0, given.2, step_on name bytes passed.0 given.0 at byte passed.2 given.1 within ∙ rw c refl)

  pub name_ends : (name bytes : List ℕ) (at byte : ℕ) (s t : S) → Passed name bytes at s → steps s (Some byte) t → length name ≤ at → compared name bytes ≡ Less
  name_ends name bytes at byte s t passed gave past =
      let given = one_given s byte t passed.0 passed.1 gave in
      passed.2 ∙ ap (λ (l : List ℕ). compared (drop at name) l) given.1 ∙ ap (λ (l : List ℕ). compared l (byte ∷ given.0)) (drop_all at name past)

  pub both_end : (name bytes : List ℕ) (at : ℕ) (s t : S) → Passed name bytes at s → steps s None t → length name ≤ at → compared name bytes ≡ Equal
  both_end name bytes at s t passed ended past =
      passed.2 ∙ ap (λ (l : List ℕ). compared (drop at name) l) (none_left s t passed.0 passed.1 ended) ∙ ap (λ (l : List ℕ). compared l []) (drop_all at name past)
