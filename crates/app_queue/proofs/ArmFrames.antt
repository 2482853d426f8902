-- What steps do to what is said of arms and their get places.
use Rattle.std.proofs.Common.{ℕ, zero, suc, ◌+◌, ◌≡◌, ◌≢◌, ◌≤◌, ◌<◌, ◌⊎◌, inl, inr, ⊎_elim, List, [], ◌∷◌, length, set, refl, sym, ap, ◌∙◌, subst, arith}
use Rattle.std.proofs.lemmas.Bool.{cases_eq, cases_lt}
use Rattle.std.proofs.lemmas.Bool.Decides.{nat_tests}
use mathlib.Core.Option.{some, some-injective, some-ne-none}
use lib.ListN.{get_elem?}
use Rattle.atomic_table.proofs.Lists.{at_set, set_here, set_else}
use Rattle.unit_model.specs.Sharing.{Holds}
use Rattle.unit_model.specs.Weights.{weigh}
use Rattle.unit_model.proofs.Sharing.{owned_once}
use Rattle.unit_model.proofs.Views.{sum_set}
use Rattle.app_queue.specs.declared.side.Side.TheVariants.{Free}
use Rattle.app_queue.specs.ArmLaws.{ArmsStayLaw, ArmsGetLaw, ArmsArmLaw, PlacedStayLaw, PlacedGetLaw, PlacedArmLaw}
use Rattle.app_queue.specs.Arms.{Arm, is_arm_at, WasArmed, IsLatest, IsStanding, IsFresh, ArmsOfQueue}
use Rattle.app_queue.proofs.ForEach.{at_queue}

pub is_there : {V : Type 0} (xs : List V) (k : ℕ) (x : V) → get_elem? xs k ≡ some x → k < length xs
is_there [] k x at = absurd (some-ne-none x (sym at))
is_there (y ∷ ys) zero x at = omega arith
is_there (y ∷ ys) (suc k) x at = let more : k < length ys = is_there ys k x at in omega arith

-- what weighs something in a list
pub some_weighs : {X : Type 0} (f : X → ℕ) (xs : List X) → 0 < weigh f xs → (j : ℕ) × (x : X) × (get_elem? xs j ≡ some x) × (0 < f x)
some_weighs f [] pos = absurd (omega (arith, pos))
some_weighs f (x ∷ xs) pos = elim (cases_lt 0 (f x)) [
  | inl lt ↦ (0, x, refl, lt)
  | inr le ↦ let more = some_weighs f xs (omega (arith, pos, le)) in (suc more.0, more.1, more.2, more.3)
]

is_arm_some : (i p : ℕ) (a : Arm) → 0 < is_arm_at i p a → (a.item ≡ i) × (a.place ≡ p)
is_arm_some i p a pos = (grind (arith, nat_tests), grind (arith, nat_tests))

is_arm_most : (i p : ℕ) (a : Arm) → is_arm_at i p a ≤ 1
is_arm_most i p a = grind (arith, nat_tests)

-- an arm that counts is one of a view's
counted_was : {V : Type 0} (arms : V → List Arm) (views : List V) (i p : ℕ) → 0 < weigh (λ v. weigh (is_arm_at i p) (arms v)) views → (b : Arm) × WasArmed arms views b × (b.item ≡ i) × (b.place ≡ p)
counted_was arms views i p pos =
    let at_view = some_weighs (λ v. weigh (is_arm_at i p) (arms v)) views pos in
    let at_arm = some_weighs (is_arm_at i p) (arms at_view.1) at_view.3 in
    let which = is_arm_some i p at_arm.1 at_arm.3 in
    (at_arm.1, (at_view.0, at_view.1, at_view.2, at_arm.0, at_arm.2), which.0, which.1)

module _ {V : Type 0} (arms : V → List Arm) (views : List V) (k : ℕ) (v u : V) (at : get_elem? views k ≡ some v) where
  -- where the seat's arms are the same, the arms of all are
  was_old : arms u ≡ arms v → (b : Arm) → WasArmed arms (set views k u) b → WasArmed arms views b
  was_old same b (j, w, there, i, in_list) =
      ⊎_elim
      (λ t. (k, v, at, i, subst (λ (l : List Arm). get_elem? l i ≡ some b) (ap arms (sym t.1) ∙ same) in_list))
      (λ t. (j, w, t.1, i, in_list))
      (at_set views k j u w there)

  was_new : arms u ≡ arms v → (b : Arm) → WasArmed arms views b → WasArmed arms (set views k u) b
  was_new same b (j, w, there, i, in_list) =
      ⊎_elim
      (λ is. let one : w ≡ v = some-injective w v (sym there ∙ ap (get_elem? views) is ∙ at) in
      (k, u, set_here views k u (is_there views k v at), i, subst (λ (l : List Arm). get_elem? l i ≡ some b) (ap arms one ∙ sym same) in_list))
      (λ ne. (j, w, set_else views k j u ne ∙ there, i, in_list))
      (cases_eq j k)

  -- where the seat armed one more
  was_one : (a : Arm) → arms u ≡ a ∷ arms v → (b : Arm) → WasArmed arms (set views k u) b → (b ≡ a) ⊎ WasArmed arms views b
  was_one a more b (j, w, there, i, in_list) =
      ⊎_elim
      (λ t. first_or i (subst (λ (l : List Arm). get_elem? l i ≡ some b) (ap arms (sym t.1) ∙ more) in_list))
      (λ t. inr (j, w, t.1, i, in_list))
      (at_set views k j u w there)
    where
      first_or : (i : ℕ) → get_elem? (a ∷ arms v) i ≡ some b → (b ≡ a) ⊎ WasArmed arms views b
      first_or zero in_list = inl (sym (some-injective a b in_list))
      first_or (suc i) in_list = inr (k, v, at, i, in_list)

  was_more : (a : Arm) → arms u ≡ a ∷ arms v → (b : Arm) → WasArmed arms views b → WasArmed arms (set views k u) b
  was_more a more b (j, w, there, i, in_list) =
      ⊎_elim
      (λ is. let one : w ≡ v = some-injective w v (sym there ∙ ap (get_elem? views) is ∙ at) in
      (k, u, set_here views k u (is_there views k v at), suc i, subst (λ (l : List Arm). get_elem? l (suc i) ≡ some b) (sym more) (subst (λ (y : V). get_elem? (arms y) i ≡ some b) one in_list)))
      (λ ne. (j, w, set_else views k j u ne ∙ there, i, in_list))
      (cases_eq j k)

  was_it : (a : Arm) → arms u ≡ a ∷ arms v → WasArmed arms (set views k u) a
  was_it a more = (k, u, set_here views k u (is_there views k v at), 0, ap (λ (l : List Arm). get_elem? l 0) more)

  -- an arm that was the latest is it still
  latest_stays : arms u ≡ arms v → (a : Arm) → IsLatest arms views a → IsLatest arms (set views k u) a
  latest_stays same a old = record { was = was_new same a old.was; greatest = λ b was is. old.greatest b (was_old same b was) is }

  same_count : arms u ≡ arms v → (i p : ℕ) → weigh (λ w. weigh (is_arm_at i p) (arms w)) (set views k u) ≡ weigh (λ w. weigh (is_arm_at i p) (arms w)) views
  same_count same i p = omega (arith, sum_set (λ w. weigh (is_arm_at i p) (arms w)) views k v u at, ap (weigh (is_arm_at i p)) same)

pub arms_stay : (V : Type 0) (got : V → ℕ → ℕ → Type 0) → ArmsStayLaw V got
arms_stay V got arms held n head head' tag tag' run run' part part' views k v u at rises words same fewer old = record {
  below = λ a was. let before : a.place < head = old.below a (was_old arms views k v u at same a was) in omega (arith, before, rises);
  once = λ i p. omega (arith, old.once i p, same_count arms views k v u at same i p);
  standing = λ i lt some_tag. ⊎_elim
      (λ none. absurd (some_tag none))
      (λ stay. let s : IsStanding arms tag run part views i = old.standing i lt (λ none. some_tag (stay.0 ∙ none)) in
      record { arm = s.arm; latest = latest_stays arms views k v u at same s.arm s.latest; of_item = s.of_item; has_tag = s.has_tag ∙ sym stay.0; has_run = s.has_run ∙ sym stay.1; has_part = s.has_part ∙ sym stay.2 })
      (words i lt);
  fresh = λ j w there i lt holds p is_got. ⊎_elim
      (λ t. let before = fewer i (subst (λ (y : V). Holds held i y) (sym t.1) holds) p (subst (λ (y : V). got y i p) (sym t.1) is_got) in
      still i lt p (old.fresh k v at i lt before.0 p before.1))
      (λ t. still i lt p (old.fresh j w t.1 i lt holds p is_got))
      (at_set views k j u w there);
}
  where
    still : (i : ℕ) → i < n → (p : ℕ) → IsFresh arms head tag views i p → IsFresh arms head' tag' (set views k u) i p
    still i lt p f = record {
      below = omega (arith, f.below, rises);
      untagged = ⊎_elim (λ none. none) (λ stay. stay.0 ∙ f.untagged) (words i lt);
      above = λ b was is. f.above b (was_old arms views k v u at same b was) is;
    }

pub arms_get : (V : Type 0) (got : V → ℕ → ℕ → Type 0) → ArmsGetLaw V got
arms_get V got arms held n head head' tag tag' run run' part part' views k v u at next words same one untagged fewer old = record {
  below = λ a was. let before : a.place < head = old.below a (was_old arms views k v u at same a was) in omega (arith, before, next);
  once = λ i p. omega (arith, old.once i p, same_count arms views k v u at same i p);
  standing = λ i lt some_tag.
      let stay = words i lt in
      let s : IsStanding arms tag run part views i = old.standing i lt (λ none. some_tag (stay.0 ∙ none)) in
      record { arm = s.arm; latest = latest_stays arms views k v u at same s.arm s.latest; of_item = s.of_item; has_tag = s.has_tag ∙ sym stay.0; has_run = s.has_run ∙ sym stay.1; has_part = s.has_part ∙ sym stay.2 };
  fresh = λ j w there i lt holds p is_got. ⊎_elim
      (λ t. ⊎_elim
      (λ it. record {
        below = omega (arith, it.1, next);
        untagged = (words i lt).0 ∙ ap tag it.0 ∙ untagged;
        above = λ b was is. let before : b.place < head = old.below b (was_old arms views k v u at same b was) in omega (arith, before, it.1);
      })
      (λ before. still i lt p (old.fresh k v at i lt before.0 p before.1))
      (fewer i (subst (λ (y : V). Holds held i y) (sym t.1) holds) p (subst (λ (y : V). got y i p) (sym t.1) is_got)))
      (λ t. still i lt p (old.fresh j w t.1 i lt holds p is_got))
      (at_set views k j u w there);
}
  where
    still : (i : ℕ) → i < n → (p : ℕ) → IsFresh arms head tag views i p → IsFresh arms head' tag' (set views k u) i p
    still i lt p f = record {
      below = omega (arith, f.below, next);
      untagged = (words i lt).0 ∙ f.untagged;
      above = λ b was is. f.above b (was_old arms views k v u at same b was) is;
    }

pub arms_arm : (V : Type 0) (got : V → ℕ → ℕ → Type 0) → ArmsArmLaw V got
arms_arm V got arms held elsewhere n head head' tag tag' run run' part part' views k v u at rises a lt_a mine is_got_a run_is part_is tag_is others words more fewer owned old = record {
  below = λ b was. ⊎_elim
      (λ is. let p : b.place ≡ a.place = ap (λ (c : Arm). c.place) is in omega (arith, p, here.below, rises))
      (λ before. let low : b.place < head = old.below b before in omega (arith, low, rises))
      (was_one arms views k v u at a more b was);
  once = λ i p. one_more i p;
  standing = λ i lt some_tag. ⊎_elim
      (λ is. record { arm = a; latest = the_latest; of_item = sym is; has_tag = sym tag_is ∙ ap tag' (sym is); has_run = run_is ∙ ap run (sym is) ∙ sym (words i lt).0; has_part = part_is ∙ ap part (sym is) ∙ sym (words i lt).1 })
      (λ ne. let s : IsStanding arms tag run part views i = old.standing i lt (λ none. some_tag (others i lt ne ∙ none)) in
      record {
        arm = s.arm;
        latest = record {
          was = was_more arms views k v u at a more s.arm s.latest.was;
          greatest = λ b was is. ⊎_elim (λ it. absurd (ne (sym (ap (λ (c : Arm). c.item) (sym it) ∙ is ∙ s.of_item)))) (λ before. s.latest.greatest b before is) (was_one arms views k v u at a more b was);
        };
        of_item = s.of_item;
        has_tag = s.has_tag ∙ sym (others i lt ne);
        has_run = s.has_run ∙ sym (words i lt).0;
        has_part = s.has_part ∙ sym (words i lt).1;
      })
      (cases_eq i a.item);
  fresh = λ j w there i lt holds p is_got. ⊎_elim
      (λ t. let before = fewer i (subst (λ (y : V). Holds held i y) (sym t.1) holds) p (subst (λ (y : V). got y i p) (sym t.1) is_got) in
      still i lt before.0 p (old.fresh k v at i lt before.1 p before.2))
      (λ t. ⊎_elim
      (λ is. absurd (owned_once held elsewhere n views k j v w (λ e. t.0 (sym e)) at t.1 a.item lt_a mine owned (subst (λ (m : ℕ). Holds held m w) is holds)))
      (λ ne. still i lt ne p (old.fresh j w t.1 i lt holds p is_got))
      (cases_eq i a.item))
      (at_set views k j u w there);
}
  where
    here : IsFresh arms head tag views a.item a.place
    here = old.fresh k v at a.item lt_a mine a.place is_got_a

    the_latest : IsLatest arms (set views k u) a
    the_latest = record {
      was = was_it arms views k v u at a more;
      greatest = λ b was is. ⊎_elim (λ it. let p : b.place ≡ a.place = ap (λ (c : Arm). c.place) it in omega (arith, p)) (λ before. let less : b.place < a.place = here.above b before is in omega (arith, less)) (was_one arms views k v u at a more b was);
    }

    still : (i : ℕ) → i < n → i ≢ a.item → (p : ℕ) → IsFresh arms head tag views i p → IsFresh arms head' tag' (set views k u) i p
    still i lt ne p f = record {
      below = omega (arith, f.below, rises);
      untagged = others i lt ne ∙ f.untagged;
      above = λ b was is. ⊎_elim (λ it. absurd (ne (sym (ap (λ (c : Arm). c.item) (sym it) ∙ is)))) (λ before. f.above b before is) (was_one arms views k v u at a more b was);
    }

    one_more : (i p : ℕ) → weigh (λ w. weigh (is_arm_at i p) (arms w)) (set views k u) ≤ 1
    one_more i p =
        let sums = sum_set (λ w. weigh (is_arm_at i p) (arms w)) views k v u at in
        let longer : weigh (is_arm_at i p) (arms u) ≡ is_arm_at i p a + weigh (is_arm_at i p) (arms v) = ap (weigh (is_arm_at i p)) more in
        elim (cases_lt 0 (is_arm_at i p a)) [
          | inl it ↦
              let which = is_arm_some i p a it in
              elim (cases_lt 0 (weigh (λ w. weigh (is_arm_at i p) (arms w)) views)) [
                | inl before ↦
                    let b = counted_was arms views i p before in
                    let less : b.0.place < a.place = here.above b.0 b.1 (b.2 ∙ sym which.0) in
                    absurd (omega (arith, less, b.3, which.1))
                | inr none ↦ omega (arith, sums, longer, none, is_arm_most i p a)
              ]
          | inr not_it ↦ omega (arith, sums, longer, not_it, old.once i p)
        ]

-- ---- any number of queues

pub placed_stay : (V : Type 0) (got : ℕ → V → ℕ → ℕ → Type 0) → PlacedStayLaw V got
placed_stay V got arms held shape w w' views k v u at rise words same before old q lt =
    arms_stay V (got q) (arms q) (held q) (shape.items q) (w.ring q Free).head (w'.ring q Free).head (w.tag q) (w'.tag q) (w.run q) (w'.run q) (w.part q) (w'.part q) views k v u at
    (rise q lt) (words q lt) (same q) (before q) (old q lt)

pub placed_get : (V : Type 0) (got : ℕ → V → ℕ → ℕ → Type 0) → PlacedGetLaw V got
placed_get V got arms held shape w w' views k v u at q one next rise tags runs parts same untagged fewer others old r lt =
    at_queue (λ p. p < shape.queues → ArmsOfQueue (arms p) (held p) (got p) (shape.items p) (w'.ring p Free).head (w'.tag p) (w'.run p) (w'.part p) (set views k u)) shape.queues q
    (λ here. arms_get V (got q) (arms q) (held q) (shape.items q) (w.ring q Free).head (w'.ring q Free).head (w.tag q) (w'.tag q) (w.run q) (w'.run q) (w.part q) (w'.part q) views k v u at
    next (λ i below_n. (tags q here i below_n, runs q here i below_n, parts q here i below_n)) (same q) one untagged fewer (old q here))
    (λ p there ne again. arms_stay V (got p) (arms p) (held p) (shape.items p) (w.ring p Free).head (w'.ring p Free).head (w.tag p) (w'.tag p) (w.run p) (w'.run p) (w.part p) (w'.part p) views k v u at
    (rise p there ne) (λ i below_n. inr (tags p there i below_n, runs p there i below_n, parts p there i below_n)) (same p) (others p there ne) (old p there))
    r lt lt

pub placed_arm : (V : Type 0) (got : ℕ → V → ℕ → ℕ → Type 0) → PlacedArmLaw V got
placed_arm V got arms held elsewhere shape w w' views k v u at q q_lt a lt_a mine is_got run_is part_is rise tags runs parts more same fewer others owned old r lt =
    at_queue (λ p. p < shape.queues → ArmsOfQueue (arms p) (held p) (got p) (shape.items p) (w'.ring p Free).head (w'.tag p) (w'.run p) (w'.part p) (set views k u)) shape.queues q
    (λ here. arms_arm V (got q) (arms q) (held q) (elsewhere q) (shape.items q) (w.ring q Free).head (w'.ring q Free).head (w.tag q) (w'.tag q) (w.run q) (w'.run q) (w.part q) (w'.part q) views k v u at
    (rise q here) a lt_a mine is_got run_is part_is tags.here.here tags.here.others (λ i below_n. (runs q here i below_n, parts q here i below_n)) more fewer owned (old q here))
    (λ p there ne again. arms_stay V (got p) (arms p) (held p) (shape.items p) (w.ring p Free).head (w'.ring p Free).head (w.tag p) (w'.tag p) (w.run p) (w'.run p) (w.part p) (w'.part p) views k v u at
    (rise p there) (λ i below_n. inr (tags.others p there ne i below_n, runs p there i below_n, parts p there i below_n)) (same p there ne) (others p there ne) (old p there))
    r lt lt
