-- Splits and joins of views leave what is said of arms and their get places.
use Rattle.std.proofs.Common.{ℕ, zero, suc, ◌+◌, ◌≡◌, ◌<◌, ◌≤◌, ◌==◌, ◌⊎◌, inl, inr, ⊎_elim, List, [], ◌∷◌, ◌++◌, length, set, refl, sym, ap, ◌∙◌, subst, arith}
use Rattle.std.specs.Prelude.{◌&&◌}
use Rattle.std.proofs.lemmas.Bool.{cases_eq, cases_lt}
use Rattle.std.proofs.lemmas.Bool.Decides.{nat_tests}
use mathlib.Core.Option.{some, some-injective, some-ne-none}
use lib.ListN.{get_elem?}
use Rattle.atomic_table.proofs.Lists.{at_set, at_snoc, at_last, at_longer, set_here, set_else}
use Rattle.unit_model.specs.Sharing.{Holds}
use Rattle.unit_model.specs.Weights.{weigh, one_if}
use Rattle.unit_model.proofs.Views.{sum_split, sum_join}
use Rattle.app_queue.specs.Arms.{Arm, is_arm_at, WasArmed, IsStanding, IsFresh, ArmsOfQueue}
use Rattle.app_queue.specs.declared.side.Side.TheVariants.{Free}
use Rattle.app_queue.specs.SeatLaws.{AreTwo, PlacedSplitLaw, PlacedJoinLaw, halved, merged}
use Rattle.app_queue.proofs.ArmFrames.{is_there, some_weighs}
use Rattle.app_queue.proofs.ForEach.{second_was}

-- ---- which arms a list has

-- the list has the arm
abbrev pub HasArm : List Arm → Arm → Type 0
HasArm xs a = (j : ℕ) × (get_elem? xs j ≡ some a)

-- 1 where both are one arm
abbrev is_arm : Arm → Arm → ℕ
is_arm a b = one_if (b.item == a.item && b.place == a.place && b.stream == a.stream && b.run == a.run && b.part == a.part)

is_itself : (a : Arm) → is_arm a a ≡ 1
is_itself a = grind (arith, nat_tests)

same_arm : (a b : Arm) → 0 < is_arm a b → b ≡ a
same_arm a b pos = λ k. record { item = item_is k; place = place_is k; stream = stream_is k; run = run_is k; part = part_is k }
  where
    item_is : b.item ≡ a.item
    item_is = grind (arith, nat_tests)

    place_is : b.place ≡ a.place
    place_is = grind (arith, nat_tests)

    stream_is : b.stream ≡ a.stream
    stream_is = grind (arith, nat_tests)

    run_is : b.run ≡ a.run
    run_is = grind (arith, nat_tests)

    part_is : b.part ≡ a.part
    part_is = grind (arith, nat_tests)

has_weighs : (xs : List Arm) (a : Arm) → HasArm xs a → 0 < weigh (is_arm a) xs
has_weighs [] a (j, at) = absurd (some-ne-none a (sym at))
has_weighs (x ∷ xs) a (zero, at) = omega (arith, ap (is_arm a) (some-injective x a at), is_itself a)
has_weighs (x ∷ xs) a (suc j, at) = let more = has_weighs xs a (j, at) in omega (arith, more)

weighs_has : (xs : List Arm) (a : Arm) → 0 < weigh (is_arm a) xs → HasArm xs a
weighs_has xs a pos = let one = some_weighs (is_arm a) xs pos in (one.0, one.2 ∙ ap some (same_arm a one.1 one.3))

-- two lists that weigh, by any weight, what two others weigh have the arms of these
united_has : (xs ys zs ws : List Arm) → ((g : Arm → ℕ) → weigh g xs + weigh g ys ≡ weigh g zs + weigh g ws) → (b : Arm) → HasArm xs b ⊎ HasArm ys b → HasArm zs b ⊎ HasArm ws b
united_has xs ys zs ws same b here =
    elim (cases_lt 0 (weigh (is_arm b) zs)) [
      | inl in_z ↦ inl (weighs_has zs b in_z)
      | inr none ↦
          let some_there : 0 < weigh (is_arm b) xs + weigh (is_arm b) ys = ⊎_elim (λ h. let pos = has_weighs xs b h in omega (arith, pos)) (λ h. let pos = has_weighs ys b h in omega (arith, pos)) here in
          inr (weighs_has ws b (omega (arith, some_there, none, same (is_arm b))))
    ]

-- ---- other views

-- what is said of arms, over other views that have the same arms, and of which each says of what it holds what one did before
regrouped : {V : Type 0} (arms : V → List Arm) (held : (ℕ → ℕ) → V → ℕ) (got : V → ℕ → ℕ → Type 0) (n head : ℕ) (tag run part : ℕ → ℕ) (views views' : List V)
    → ((b : Arm) → WasArmed arms views' b → WasArmed arms views b) → ((b : Arm) → WasArmed arms views b → WasArmed arms views' b)
    → ((i p : ℕ) → weigh (λ w. weigh (is_arm_at i p) (arms w)) views' ≡ weigh (λ w. weigh (is_arm_at i p) (arms w)) views)
    → ((j : ℕ) (w : V) → get_elem? views' j ≡ some w → (i : ℕ) → Holds held i w → (p : ℕ) → got w i p → (k : ℕ) × (v : V) × (get_elem? views k ≡ some v) × Holds held i v × got v i p)
    → ArmsOfQueue arms held got n head tag run part views → ArmsOfQueue arms held got n head tag run part views'
regrouped arms held got n head tag run part views views' fewer more same from old = record {
  below = λ a was. old.below a (fewer a was);
  once = λ i p. let most : weigh (λ w. weigh (is_arm_at i p) (arms w)) views ≤ 1 = old.once i p in omega (arith, most, same i p);
  standing = λ i lt some_tag.
      let s : IsStanding arms tag run part views i = old.standing i lt some_tag in
      record {
        arm = s.arm;
        latest = record { was = more s.arm s.latest.was; greatest = λ b was is. s.latest.greatest b (fewer b was) is };
        of_item = s.of_item;
        has_tag = s.has_tag;
        has_run = s.has_run;
        has_part = s.has_part;
      };
  fresh = λ j w there i lt holds p is_got.
      let before = from j w there i holds p is_got in
      let f : IsFresh arms head tag views i p = old.fresh before.0 before.1 before.2 i lt before.3 p before.4 in
      record { below = f.below; untagged = f.untagged; above = λ b was is. f.above b (fewer b was) is };
}

arms_split : {V : Type 0} (arms : V → List Arm) (held : (ℕ → ℕ) → V → ℕ) (got : V → ℕ → ℕ → Type 0) (n head : ℕ) (tag run part : ℕ → ℕ) (views : List V) (k : ℕ) (v left right : V) → get_elem? views k ≡ some v
    → ((g : Arm → ℕ) → weigh g (arms left) + weigh g (arms right) ≡ weigh g (arms v))
    → ((i : ℕ) → Holds held i left → (p : ℕ) → got left i p → Holds held i v × got v i p) → ((i : ℕ) → Holds held i right → (p : ℕ) → got right i p → Holds held i v × got v i p)
    → ArmsOfQueue arms held got n head tag run part views → ArmsOfQueue arms held got n head tag run part (halved views k left right)
arms_split {V} arms held got n head tag run part views k v left right at sums got_left got_right =
    regrouped arms held got n head tag run part views (halved views k left right)
    (λ b (j, w, there, i, here). ⊎_elim
    (λ before. ⊎_elim
    (λ t. of_half b (inl (i, subst (λ (y : V). get_elem? (arms y) i ≡ some b) (sym t.1) here)))
    (λ t. (j, w, t.1, i, here))
    (at_set views k j left w before))
    (λ is. of_half b (inr (i, subst (λ (y : V). get_elem? (arms y) i ≡ some b) (sym is) here)))
    (at_snoc (set views k left) right w j there))
    (λ b (j, w, there, i, here). ⊎_elim
    (λ is. let one : w ≡ v = some-injective w v (sym there ∙ ap (get_elem? views) is ∙ at) in
    ⊎_elim
    (λ l. (k, left, at_longer (set views k left) (right ∷ []) k left (set_here views k left (is_there views k v at)), l.0, l.1))
    (λ r. (length (set views k left), right, at_last (set views k left) right (length (set views k left)) refl, r.0, r.1))
    (to_half b (i, subst (λ (y : V). get_elem? (arms y) i ≡ some b) one here)))
    (λ ne. (j, w, at_longer (set views k left) (right ∷ []) j w (set_else views k j left ne ∙ there), i, here))
    (cases_eq j k))
    (λ i p. sum_split (λ w. weigh (is_arm_at i p) (arms w)) views k v left right at (sums (is_arm_at i p)))
    (λ j w there i mine p is_got. ⊎_elim
    (λ before. ⊎_elim
    (λ t. let h = got_left i (subst (λ (y : V). Holds held i y) (sym t.1) mine) p (subst (λ (y : V). got y i p) (sym t.1) is_got) in (k, v, at, h.0, h.1))
    (λ t. (j, w, t.1, mine, is_got))
    (at_set views k j left w before))
    (λ is. let h = got_right i (subst (λ (y : V). Holds held i y) (sym is) mine) p (subst (λ (y : V). got y i p) (sym is) is_got) in (k, v, at, h.0, h.1))
    (at_snoc (set views k left) right w j there))
  where
    of_half : (b : Arm) → HasArm (arms left) b ⊎ HasArm (arms right) b → WasArmed arms views b
    of_half b here = ⊎_elim (λ h. (k, v, at, h.0, h.1)) (λ h. absurd (some-ne-none b (sym h.1))) (united_has (arms left) (arms right) (arms v) [] (λ g. omega (arith, sums g)) b here)

    to_half : (b : Arm) → HasArm (arms v) b → HasArm (arms left) b ⊎ HasArm (arms right) b
    to_half b here = united_has (arms v) [] (arms left) (arms right) (λ g. omega (arith, sums g)) b (inl here)

pub placed_split : (V : Type 0) (got : ℕ → V → ℕ → ℕ → Type 0) → PlacedSplitLaw V got
placed_split V got arms held shape w views k v left right at sums got_left got_right old q lt =
    arms_split (arms q) (held q) (got q) (shape.items q) (w.ring q Free).head (w.tag q) (w.run q) (w.part q) views k v left right at (sums q) (got_left q) (got_right q) (old q lt)

arms_join : {V : Type 0} (arms : V → List Arm) (held : (ℕ → ℕ) → V → ℕ) (got : V → ℕ → ℕ → Type 0) (n head : ℕ) (tag run part : ℕ → ℕ) (views : List V) (k other : ℕ) (v o both spent : V) → AreTwo views k v both other o
    → ((g : Arm → ℕ) → weigh g (arms both) + weigh g (arms spent) ≡ weigh g (arms v) + weigh g (arms o))
    → ((i p : ℕ) → Holds held i both → got both i p → (Holds held i v × got v i p) ⊎ (Holds held i o × got o i p)) → ((i : ℕ) → ¬ (Holds held i spent))
    → ArmsOfQueue arms held got n head tag run part views → ArmsOfQueue arms held got n head tag run part (merged views k both other spent)
arms_join {V} arms held got n head tag run part views k other v o both spent two sums got_both nothing =
    regrouped arms held got n head tag run part views (merged views k both other spent)
    (λ b (j, w, seen, i, here). ⊎_elim
    (λ t. of_one b (inr (i, subst (λ (y : V). get_elem? (arms y) i ≡ some b) (sym t.1) here)))
    (λ t. ⊎_elim
    (λ r. of_one b (inl (i, subst (λ (y : V). get_elem? (arms y) i ≡ some b) (sym r.1) here)))
    (λ r. (j, w, r.1, i, here))
    (at_set views k j both w t.1))
    (at_set (set views k both) other j spent w seen))
    (λ b (j, w, seen, i, here). ⊎_elim
    (λ is. let one : w ≡ v = some-injective w v (sym seen ∙ ap (get_elem? views) is ∙ two.first) in to_one b (inl (i, subst (λ (y : V). get_elem? (arms y) i ≡ some b) one here)))
    (λ ne. ⊎_elim
    (λ is. let one : w ≡ o = some-injective w o (sym seen ∙ ap (get_elem? views) is ∙ there) in to_one b (inr (i, subst (λ (y : V). get_elem? (arms y) i ≡ some b) one here)))
    (λ ne'. (j, w, set_else (set views k both) other j spent ne' ∙ set_else views k j both ne ∙ seen, i, here))
    (cases_eq j other))
    (cases_eq j k))
    (λ i p. sum_join (λ w. weigh (is_arm_at i p) (arms w)) views k other v o both spent two.first two.second (sums (is_arm_at i p)))
    (λ j w seen i mine p is_got. ⊎_elim
    (λ t. absurd (nothing i (subst (λ (y : V). Holds held i y) (sym t.1) mine)))
    (λ t. ⊎_elim
    (λ r. ⊎_elim (λ h. (k, v, two.first, h.0, h.1)) (λ h. (other, o, there, h.0, h.1)) (got_both i p (subst (λ (y : V). Holds held i y) (sym r.1) mine) (subst (λ (y : V). got y i p) (sym r.1) is_got)))
    (λ r. (j, w, r.1, mine, is_got))
    (at_set views k j both w t.1))
    (at_set (set views k both) other j spent w seen))
  where
    there : get_elem? views other ≡ some o
    there = second_was views k v both other o two

    at_k : get_elem? (merged views k both other spent) k ≡ some both
    at_k = set_else (set views k both) other k spent (λ is. two.apart (sym is)) ∙ set_here views k both (is_there views k v two.first)

    at_other : get_elem? (merged views k both other spent) other ≡ some spent
    at_other = set_here (set views k both) other spent (is_there (set views k both) other o two.second)

    of_one : (b : Arm) → HasArm (arms both) b ⊎ HasArm (arms spent) b → WasArmed arms views b
    of_one b here = ⊎_elim (λ h. (k, v, two.first, h.0, h.1)) (λ h. (other, o, there, h.0, h.1)) (united_has (arms both) (arms spent) (arms v) (arms o) sums b here)

    to_one : (b : Arm) → HasArm (arms v) b ⊎ HasArm (arms o) b → WasArmed arms (merged views k both other spent) b
    to_one b here = ⊎_elim (λ h. (k, both, at_k, h.0, h.1)) (λ h. (other, spent, at_other, h.0, h.1)) (united_has (arms v) (arms o) (arms both) (arms spent) (λ g. sym (sums g)) b here)

pub placed_join : (V : Type 0) (got : ℕ → V → ℕ → ℕ → Type 0) → PlacedJoinLaw V got
placed_join V got arms held shape w views k other v o both spent two sums got_both nothing old q lt =
    arms_join (arms q) (held q) (got q) (shape.items q) (w.ring q Free).head (w.tag q) (w.run q) (w.part q) views k other v o both spent two (sums q) (λ i p. got_both q i p) (nothing q) (old q lt)
