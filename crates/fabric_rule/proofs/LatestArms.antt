-- The latest arm of an item is the same where views have the same arms, whichever of them has which.
use Rattle.std.proofs.Common.{ℕ, ◌≡◌, ◌≢◌, ◌≤◌, ◌<◌, ◌==◌, ◌&&◌, inl, inr, Bool, true, false, cond, if◌then◌else◌, nat_lt, List, [], ◌∷◌, refl, sym, ap, ◌∙◌, subst, arith, Some, None}
use Rattle.std.specs.Prelude.{Option}
use Rattle.std.proofs.lemmas.Bool.{cases_Bool, cases_lt, eq-eqb, le-ltb, lt-ltb, ne_eqb}
use Rattle.app_queue.specs.Arms.{is_arm_at}
use Rattle.unit_model.specs.Weights.{weigh, one_if}
use Rattle.unit_model.specs.declared.machine.Core.{Core}
use Rattle.unit_model.proofs.Weights.{weigh-append, weigh_le}
use Rattle.fabric_words.specs.Places.{queues_of}
use Rattle.fabric_rule.specs.Parts.{StreamsLatest}
use Rattle.fabric_rule.specs.Views.{all_arms, arms_at, later_arm, latest_arm, stream_of_arm}
use Rattle.fabric_rule.specs.declared.view.ArmNote.{ArmNote}
use Rattle.fabric_rule.specs.declared.view.FabricView.{FabricView}
use Rattle.fabric_rule.proofs.Sharing.{among, among_weighs}

-- 1 for an arm of the item with this get place, and the stream of such an arm
abbrev at_place : ℕ → ℕ → ℕ → ArmNote → ℕ
at_place queue item place = among queue (is_arm_at item place)

abbrev stream_at : ℕ → ℕ → ℕ → ArmNote → ℕ
stream_at queue item place a = cond (a.queue == queue) (cond (a.item == item && a.place == place) a.stream 0) 0

-- ---- one arm

chosen : (b c : Bool) (n : ℕ) → cond {A = ℕ} b (one_if c) 0 ≡ 0 → cond {A = ℕ} b (cond c n 0) 0 ≡ 0
chosen true true n is = absurd (omega (arith, is))
chosen true false n is = refl
chosen false c n is = refl

off_place : (b c d : Bool) → (b && c) ≡ false → cond {A = ℕ} b (one_if (c && d)) 0 ≡ 0
off_place true true d off = absurd (cc off)
off_place true false d off = refl
off_place false c d off = refl

here_place : (b c d : Bool) → (b && c) ≡ true → cond {A = ℕ} b (one_if (c && d)) 0 ≡ one_if d
here_place true true d here = refl
here_place true false d here = absurd (cc here)
here_place false c d here = absurd (cc here)

here_stream : (b c d : Bool) (n : ℕ) → (b && c) ≡ true → cond {A = ℕ} b (cond (c && d) n 0) 0 ≡ cond d n 0
here_stream true true d n here = refl
here_stream true false d n here = absurd (cc here)
here_stream false c d n here = absurd (cc here)

none_stream : (queue item place : ℕ) (arms : List ArmNote) → weigh (at_place queue item place) arms ≡ 0 → weigh (stream_at queue item place) arms ≡ 0
none_stream queue item place [] none = refl
none_stream queue item place (a ∷ rest) none =
    omega (arith, chosen (a.queue == queue) (a.item == item && a.place == place) a.stream (omega (arith, none)), none_stream queue item place rest (omega (arith, none)))

-- ---- the latest one

later_some : (x : ArmNote) (o : Option ArmNote) → later_arm x o ≡ None → ⊥
later_some x None is = absurd (cc is)
later_some x (Some y) is =
    elim (cases_Bool (nat_lt x.place y.place)) [
      | inl less ↦ let that : Some y ≡ None = subst (λ (t : Bool). (if t then Some y else Some x) ≡ None) less is in absurd (cc that)
      | inr more ↦ let that : Some x ≡ None = subst (λ (t : Bool). (if t then Some y else Some x) ≡ None) more is in absurd (cc that)
    ]

none_latest : (queue item : ℕ) (arms : List ArmNote) → latest_arm queue item arms ≡ None → (place : ℕ) → weigh (at_place queue item place) arms ≡ 0
none_latest queue item [] is place = refl
none_latest queue item (x ∷ xs) is place =
    elim (cases_Bool (x.queue == queue && x.item == item)) [
      | inl here ↦ absurd (later_some x (latest_arm queue item xs) (subst (λ (t : Bool). (if t then later_arm x (latest_arm queue item xs) else latest_arm queue item xs) ≡ None) here is))
      | inr off ↦
          let none : latest_arm queue item xs ≡ None = subst (λ (t : Bool). (if t then later_arm x (latest_arm queue item xs) else latest_arm queue item xs) ≡ None) off is in
          omega (arith, off_place (x.queue == queue) (x.item == item) (x.place == place) off, none_latest queue item xs none place)
    ]

-- It is one of the item's, with no other above it; and where no other has its place, the streams at its place are its own.
record IsTop (queue item : ℕ) (arms : List ArmNote) (a : ArmNote) : Type 0 where
  mine : 1 ≤ weigh (at_place queue item a.place) arms
  above : (place : ℕ) → a.place < place → weigh (at_place queue item place) arms ≡ 0
  stream : weigh (at_place queue item a.place) arms ≤ 1 → weigh (stream_at queue item a.place) arms ≡ a.stream

module _ (queue item : ℕ) (x : ArmNote) (xs : List ArmNote) (here : (x.queue == queue && x.item == item) ≡ true) where
  at_own : at_place queue item x.place x ≡ 1
  at_own = here_place (x.queue == queue) (x.item == item) (x.place == x.place) here ∙ ap one_if (eq-eqb x.place x.place refl)

  at_other : (place : ℕ) → x.place ≢ place → at_place queue item place x ≡ 0
  at_other place ne = here_place (x.queue == queue) (x.item == item) (x.place == place) here ∙ ap one_if (ne_eqb x.place place ne)

  stream_own : stream_at queue item x.place x ≡ x.stream
  stream_own = here_stream (x.queue == queue) (x.item == item) (x.place == x.place) x.stream here ∙ ap (λ (b : Bool). cond {A = ℕ} b x.stream 0) (eq-eqb x.place x.place refl)

  stream_other : (place : ℕ) → x.place ≢ place → stream_at queue item place x ≡ 0
  stream_other place ne = here_stream (x.queue == queue) (x.item == item) (x.place == place) x.stream here ∙ ap (λ (b : Bool). cond {A = ℕ} b x.stream 0) (ne_eqb x.place place ne)

  -- where those behind it have none above its place
  this_top : ((place : ℕ) → x.place < place → weigh (at_place queue item place) xs ≡ 0) → IsTop queue item (x ∷ xs) x
  this_top none = record {
    mine = omega (arith, at_own);
    above = λ place lt. omega (arith, at_other place (λ is. absurd (omega (arith, is, lt))), none place lt);
    stream = λ few. omega (arith, stream_own, none_stream queue item x.place xs (omega (arith, few, at_own)));
  }

  that_top : (y : ArmNote) → x.place < y.place → IsTop queue item xs y → IsTop queue item (x ∷ xs) y
  that_top y lt old =
      let off : at_place queue item y.place x ≡ 0 = at_other y.place (λ is. absurd (omega (arith, is, lt))) in
      record {
        mine = omega (arith, old.mine);
        above = λ place below. omega (arith, at_other place (λ is. absurd (omega (arith, is, lt, below))), old.above place below);
        stream = λ few. omega (arith, stream_other y.place (λ is. absurd (omega (arith, is, lt))), old.stream (omega (arith, few)));
      }

  top_here : (o : Option ArmNote) → latest_arm queue item xs ≡ o → ((y : ArmNote) → latest_arm queue item xs ≡ Some y → IsTop queue item xs y) → (a : ArmNote) → later_arm x o ≡ Some a → IsTop queue item (x ∷ xs) a
  top_here None last before a is =
      let same : x ≡ a = cc is in
      subst (IsTop queue item (x ∷ xs)) same (this_top (λ place lt. none_latest queue item xs last place))
  top_here (Some y) last before a is =
      let old : IsTop queue item xs y = before y last in
      elim (cases_Bool (nat_lt x.place y.place)) [
        | inl less ↦
            let that : Some y ≡ Some a = subst (λ (t : Bool). (if t then Some y else Some x) ≡ Some a) less is in
            let same : y ≡ a = cc that in
            subst (IsTop queue item (x ∷ xs)) same (that_top y (below x.place y.place less) old)
        | inr more ↦
            let that : Some x ≡ Some a = subst (λ (t : Bool). (if t then Some y else Some x) ≡ Some a) more is in
            let same : x ≡ a = cc that in
            subst (IsTop queue item (x ∷ xs)) same (this_top (λ place lt. old.above place (above x.place y.place place more lt)))
      ]
    where
      below : (m n : ℕ) → nat_lt m n ≡ true → m < n
      below m n is = elim (cases_lt m n) [
        | inl lt ↦ lt
        | inr le ↦ absurd (cc (is, le-ltb m n le))
      ]

      above : (m n k : ℕ) → nat_lt m n ≡ false → m < k → n < k
      above m n k is lt = elim (cases_lt m n) [
        | inl less ↦ absurd (cc (is, lt-ltb m n less))
        | inr le ↦ omega (arith, le, lt)
      ]

top : (queue item : ℕ) (arms : List ArmNote) (a : ArmNote) → latest_arm queue item arms ≡ Some a → IsTop queue item arms a
top queue item [] a is = absurd (cc is)
top queue item (x ∷ xs) a is =
    elim (cases_Bool (x.queue == queue && x.item == item)) [
      | inl here ↦ top_here queue item x xs here (latest_arm queue item xs) refl (λ y last. top queue item xs y last) a
          (subst (λ (t : Bool). (if t then later_arm x (latest_arm queue item xs) else latest_arm queue item xs) ≡ Some a) here is)
      | inr off ↦
          let old : IsTop queue item xs a = top queue item xs a (subst (λ (t : Bool). (if t then later_arm x (latest_arm queue item xs) else latest_arm queue item xs) ≡ Some a) off is) in
          let none : (place : ℕ) → at_place queue item place x ≡ 0 = λ place. off_place (x.queue == queue) (x.item == item) (x.place == place) off in
          record {
            mine = omega (arith, old.mine, none a.place);
            above = λ place lt. omega (arith, none place, old.above place lt);
            stream = λ few. omega (arith, none a.place, chosen (x.queue == queue) (x.item == item && x.place == a.place) x.stream (none a.place), old.stream (omega (arith, few, none a.place)));
          }
    ]

-- ---- two lists of the same arms

module _ (queue item : ℕ) (xs ys : List ArmNote) (same : (f : ArmNote → ℕ) → weigh f xs ≡ weigh f ys) (once : (place : ℕ) → weigh (at_place queue item place) xs ≤ 1) where
  same_stream : (o p : Option ArmNote) → latest_arm queue item xs ≡ o → latest_arm queue item ys ≡ p → stream_of_arm o ≡ stream_of_arm p
  same_stream None None one two = refl
  same_stream None (Some b) one two = absurd (omega (arith, (top queue item ys b two).mine, none_latest queue item xs one b.place, same (at_place queue item b.place)))
  same_stream (Some a) None one two = absurd (omega (arith, (top queue item xs a one).mine, none_latest queue item ys two a.place, same (at_place queue item a.place)))
  same_stream (Some a) (Some b) one two =
      let left : IsTop queue item xs a = top queue item xs a one in
      let right : IsTop queue item ys b = top queue item ys b two in
      let not_less : b.place ≤ a.place = elim (cases_lt a.place b.place) [
        | inl lt ↦ absurd (omega (arith, left.above b.place lt, right.mine, same (at_place queue item b.place)))
        | inr le ↦ le
      ] in
      let not_more : a.place ≤ b.place = elim (cases_lt b.place a.place) [
        | inl lt ↦ absurd (omega (arith, right.above a.place lt, left.mine, same (at_place queue item a.place)))
        | inr le ↦ le
      ] in
      let is : a.place ≡ b.place = omega (arith, not_less, not_more) in
      let here : weigh (stream_at queue item a.place) xs ≡ a.stream = left.stream (once a.place) in
      let there : weigh (stream_at queue item b.place) ys ≡ b.stream = right.stream (omega (arith, once b.place, same (at_place queue item b.place))) in
      sym here ∙ same (stream_at queue item a.place) ∙ ap (λ (p : ℕ). weigh (stream_at queue item p) ys) is ∙ there

  pub latest_stays : stream_of_arm (latest_arm queue item xs) ≡ stream_of_arm (latest_arm queue item ys)
  latest_stays = same_stream (latest_arm queue item xs) (latest_arm queue item ys) refl refl

-- ---- views

all_weigh : (f : ArmNote → ℕ) (views : List FabricView) → weigh f (all_arms views) ≡ weigh (λ (v : FabricView). weigh f v.arms) views
all_weigh f [] = refl
all_weigh f (v ∷ views) = omega (arith, weigh-append f v.arms (all_arms views), all_weigh f views)

pub streams_same : (core : Core) (views views' : List FabricView)
    → ((f : ArmNote → ℕ) → weigh (λ (v : FabricView). weigh f v.arms) views' ≡ weigh (λ (v : FabricView). weigh f v.arms) views)
    → ((queue : ℕ) → queue < queues_of core.shape → (item place : ℕ) → weigh (λ v. weigh (is_arm_at item place) (arms_at queue v)) views ≤ 1)
    → StreamsLatest core views → StreamsLatest core views'
streams_same core views views' same once old queue item there =
    old queue item there
    ∙ latest_stays queue item (all_arms views) (all_arms views') (λ f. omega (arith, all_weigh f views, all_weigh f views', same f))
    (λ place. omega (
      arith,
      all_weigh (at_place queue item place) views,
      weigh_le (λ (v : FabricView). weigh (at_place queue item place) v.arms) (λ (v : FabricView). weigh (is_arm_at item place) (arms_at queue v)) views (λ v. omega (arith, among_weighs queue (is_arm_at item place) v.arms)),
      once queue there.in_queues item place,
    ))
