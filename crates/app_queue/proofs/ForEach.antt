-- What holds of one queue or ring, and of all others, holds of each; and what two seats have.
use Rattle.std.proofs.Common.{ℕ, ◌≡◌, ◌≢◌, ◌<◌, ◌⊎◌, inl, inr, ⊎_elim, List, refl, sym, ◌∙◌, subst}
use Rattle.std.proofs.lemmas.Bool.{cases_eq}
use mathlib.Core.Option.{some}
use lib.ListN.{get_elem?}
use Rattle.atomic_table.proofs.Lists.{set_else}
use Rattle.app_queue.specs.declared.side.Side.{Side}
use Rattle.app_queue.specs.declared.side.Side.TheVariants.{Free, Line}
use Rattle.app_queue.specs.Queues.{IsOther}
use Rattle.app_queue.specs.SeatLaws.{AreTwo}

pub side_cases : (a b : Side) → (a ≡ b) ⊎ (a ≢ b)
side_cases Free Free = inl refl
side_cases Free Line = inr (λ is. cc)
side_cases Line Free = inr (λ is. cc)
side_cases Line Line = inl refl

pub at_queue : (P : ℕ → Type 0) (queues q : ℕ) → P q → ((r : ℕ) → r < queues → r ≢ q → P r) → (r : ℕ) → r < queues → P r
at_queue P queues q here others r lt = ⊎_elim (λ same. subst P (sym same) here) (λ other. others r lt other) (cases_eq r q)

pub at_ring : (P : ℕ → Side → Type 0) (queues q : ℕ) (side : Side) → P q side → ((r : ℕ) → r < queues → (other : Side) → IsOther q side r other → P r other) → (r : ℕ) → r < queues → (other : Side) → P r other
at_ring P queues q side here others r lt other =
    ⊎_elim
    (λ same. ⊎_elim
    (λ is. subst (λ (s : Side). P r s) (sym is) (subst (λ (m : ℕ). P m side) (sym same) here))
    (λ ne. others r lt other (inr ne))
    (side_cases other side))
    (λ ne. others r lt other (inl ne))
    (cases_eq r q)

-- the second of two views, before the first one changed
pub second_was : {V : Type 0} (views : List V) (k : ℕ) (v both : V) (other : ℕ) (o : V) → AreTwo views k v both other o → get_elem? views other ≡ some o
second_was views k v both other o two = sym (set_else views k other both two.apart) ∙ two.second
