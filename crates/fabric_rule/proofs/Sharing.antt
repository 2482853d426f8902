-- Lists that are shared out between two.
use Rattle.std.proofs.Common.{ℕ, zero, suc, ◌+◌, ◌≡◌, ◌≢◌, ◌==◌, inl, inr, Bool, true, false, cond, List, [], ◌∷◌, length, set, refl, sym, ap, subst, arith}
use Rattle.app_queue.specs.Arms.{Arm}
use Rattle.unit_model.specs.PartOrder.{Each}
use Rattle.unit_model.specs.Weights.{weigh}
use Rattle.unit_model.proofs.Weights.{weigh_ones}
use Rattle.fabric_rule.specs.Seats.{IsShared}
use Rattle.fabric_rule.specs.Views.{arm_from, arms_among}
use Rattle.fabric_rule.specs.declared.view.ArmNote.{ArmNote}

pub shared_weighs : {X : Type 0} (f : X → ℕ) (xs one other : List X) → IsShared xs one other → weigh f one + weigh f other ≡ weigh f xs
shared_weighs f [] one other both = omega (arith, ap (weigh f) both.0, ap (weigh f) both.1)
shared_weighs f (x ∷ xs) one other (inl (rest, is, more)) = omega (arith, ap (weigh f) is, shared_weighs f xs rest other more)
shared_weighs f (x ∷ xs) one other (inr (rest, is, more)) = omega (arith, ap (weigh f) is, shared_weighs f xs one rest more)

pub shared_long : {X : Type 0} (xs one other : List X) → IsShared xs one other → length one + length other ≡ length xs
shared_long xs one other both = omega (arith, shared_weighs (λ x. 1) xs one other both, weigh_ones one, weigh_ones other, weigh_ones xs)

pub shared_one : {X : Type 0} (P : X → Type 0) (xs one other : List X) → IsShared xs one other → Each P xs → Each P one
shared_one P [] one other both each = subst (Each P) (sym both.0) tt
shared_one P (x ∷ xs) one other (inl (rest, is, more)) each = subst (Each P) (sym is) (each.0, shared_one P xs rest other more each.1)
shared_one P (x ∷ xs) one other (inr (rest, is, more)) each = shared_one P xs one rest more each.1

pub shared_other : {X : Type 0} (P : X → Type 0) (xs one other : List X) → IsShared xs one other → Each P xs → Each P other
shared_other P [] one other both each = subst (Each P) (sym both.1) tt
shared_other P (x ∷ xs) one other (inl (rest, is, more)) each = shared_other P xs rest other more each.1
shared_other P (x ∷ xs) one other (inr (rest, is, more)) each = subst (Each P) (sym is) (each.0, shared_other P xs one rest more each.1)

-- all is with one of the two
pub all_stay : {X : Type 0} (xs : List X) → IsShared xs xs []
all_stay [] = (refl, refl)
all_stay (x ∷ xs) = inl (xs, refl, all_stay xs)

pub all_leave : {X : Type 0} (xs : List X) → IsShared xs [] xs
all_leave [] = (refl, refl)
all_leave (x ∷ xs) = inr (xs, refl, all_leave xs)

-- the last of two changes of one element stays
pub set_twice : {X : Type 0} (xs : List X) (i : ℕ) (x y : X) → set (set xs i x) i y ≡ set xs i y
set_twice [] i x y = refl
set_twice (z ∷ xs) zero x y = refl
set_twice (z ∷ xs) (suc i) x y = ap (λ (l : List _). z ∷ l) (set_twice xs i x y)

-- also where another one changed between
pub set_around : {X : Type 0} (xs : List X) (i j : ℕ) (x y z : X) → j ≢ i → set (set (set xs i x) j y) i z ≡ set (set xs i z) j y
set_around [] i j x y z apart = refl
set_around (w ∷ ws) zero zero x y z apart = absurd (apart refl)
set_around (w ∷ ws) zero (suc j) x y z apart = refl
set_around (w ∷ ws) (suc i) zero x y z apart = ap (λ (l : List _). y ∷ l) (set_twice ws i x z)
set_around (w ∷ ws) (suc i) (suc j) x y z apart = ap (λ (l : List _). w ∷ l) (set_around ws i j x y z (λ is. apart (ap suc is)))

-- ---- the arms of one queue

-- what an arm weighs where those of one queue alone do
abbrev pub among : ℕ → (Arm → ℕ) → ArmNote → ℕ
among queue g a = cond (a.queue == queue) (g (arm_from a)) 0

among_one : (b : Bool) (g : Arm → ℕ) (a : Arm) (rest : List Arm) → weigh g (cond b (a ∷ rest) rest) ≡ cond {A = ℕ} b (g a) 0 + weigh g rest
among_one true g a rest = refl
among_one false g a rest = omega arith

pub among_weighs : (queue : ℕ) (g : Arm → ℕ) (arms : List ArmNote) → weigh g (arms_among queue arms) ≡ weigh (among queue g) arms
among_weighs queue g [] = refl
among_weighs queue g (a ∷ rest) = omega (arith, among_one (a.queue == queue) g (arm_from a) (arms_among queue rest), among_weighs queue g rest)
