-- Each step on a ring's table keeps its rule.
use Rattle.std.proofs.Common.{ℕ, ◌+◌, ◌/◌, ◌%◌, ◌^◌, ◌≡◌, ◌≢◌, ◌<◌, ◌≤◌, ◌==◌, inl, inr, ⊎_elim, eqb, List, [], ◌++◌, length, slice_index, set, refl, sym, ap, ◌∙◌, subst, arith, length-set, mod-lt}
use Rattle.std.proofs.lemmas.List.{set-get_or, append_assoc}
use Rattle.std.proofs.lemmas.Bool.{eqb-true}
use mathlib.Core.Option.{none}
use prog.Atomic.{either}
use lib.ListN.{get_elem?}
use Rattle.atomic_table.specs.Table.{State, Me, Act, keeps, step, stepped, Valid, carried_after, Splits, Joins}
use Rattle.atomic_table.proofs.Lists.{exchanged, set_else}
use Rattle.unit_model.specs.Weights.{weigh, is_number}
use Rattle.unit_model.specs.Sharing.{Holds, Owned}
use Rattle.unit_model.proofs.Sharing.{owned_split, owned_join}
use Rattle.unit_model.proofs.Views.{sum_split, sum_join}
use Rattle.unit_model.proofs.Weights.{weigh-append, weigh_push, weigh-without_first, weigh_le, is_number_same, is_number_other}
use Rattle.nncq_ring.specs.declared.view.RingView.{RingView}
use Rattle.nncq_ring.specs.declared.view.RingEvent.{RingEvent}
use Rattle.nncq_ring.specs.declared.view.RingEvent.TheVariants.{SawTail, SawHead, SawEntry, Pushed, Popped}
use Rattle.nncq_ring.specs.Words.{Words, entry_of, line_of, SetsEntry}
use Rattle.nncq_ring.specs.Notes.{Noted}
use Rattle.nncq_ring.specs.RingWords.{ring_words}
use Rattle.nncq_ring.specs.Shown.{ShowsFilled}
use Rattle.nncq_ring.specs.Views.{held_by, events_of, push_weight, pop_weight, pushes_of, pops_of, empty, does, without, together}
use Rattle.nncq_ring.specs.Rule.{RingHolds, Moved, Emptied, line_weight, SeesTail, SeesHead, SeesEntry, Puts, Takes, Helps}
use Rattle.nncq_ring.proofs.Noting.{begun_stays}
use Rattle.nncq_ring.proofs.RingParts.{part_splits, part_joins}
use Rattle.nncq_ring.proofs.RingStep.{RingAfter, tail_below, head_below, looked, was_tail, was_head, was_entry, entry_noted, was_empty, near, put, later_entry, took, later_head, helped, past}
use Rattle.nncq_ring.proofs.RingWords.{sets_entry, sets_head, sets_tail}
use Rattle.nncq_ring.proofs.Sharing.{moved_stays, moved_moves, emptied_stays, emptied_one}

-- ---- numbers held

is_at_most_one : (number x : ℕ) → is_number number x ≤ 1
is_at_most_one number x = ⊎_elim (λ same. omega (arith, ap (is_number number) same, is_number_same number)) (λ other. omega (arith, is_number_other number x other)) (Rattle.std.proofs.lemmas.Bool.cases_eq x number)

holds_some : (number : ℕ) (v : RingView) → Holds held_by number v → 0 < held_by (λ x. 1) v
holds_some number v mine = omega (arith, mine, weigh_le (is_number number) (λ x. 1) v.held (is_at_most_one number))

-- what is held without one number that is held
pub without_weighs : (f : ℕ → ℕ) (number : ℕ) (v : RingView) → Holds held_by number v → held_by f (without number v) + f number ≡ held_by f v
without_weighs f number v mine = weigh-without_first f (λ x. x == number) (f number) (λ x is. ap f (eqb-true x number is)) v.held mine

-- nothing is elsewhere than in the ring and with seats
abbrev none_else : (ℕ → ℕ) → ℕ
none_else f = 0

module _ (key : ℕ × ℕ) (slots id : ℕ) (v : RingView) (carried : List (ℕ × ℕ)) (s : State ℕ RingView) (holds : RingHolds key s) (at : get_elem? s.views id ≡ mathlib.Core.Option.some v) where
  -- what the exchange or the load of the word i, which becomes this, has to show
  abbrev pub After : ℕ → ℕ → (Me ℕ RingView → Type 0) → Type 0
  After i new told = (u : RingView) × (a : Act ℕ) × Valid s.homes carried a × RingHolds key (stepped s i new id carried u a) × told (u, carried_after carried a)

  abbrev pub now : Words
  now = ring_words 16 s.words

  room_for_all : 16 + 32 + key.0 ≤ length s.words
  room_for_all = omega (arith, holds.wide)

  owned : Owned held_by (λ f. line_weight key.0 now f + none_else f) key.0 s.views
  owned f = omega (arith, holds.owned f)

  abbrev Here : Words → RingView → Type 0
  Here w' u = RingAfter RingView key.0 events_of held_by none_else now s.views id v at holds.part holds.worn owned w' u

  -- the rule after a step that set the word i
  kept : (i new : ℕ) (u : RingView) → Here (ring_words 16 (set s.words i new)) u → Moved pushes_of pops_of key.0 (ring_words 16 (set s.words i new)) (set s.views id u)
      → Emptied pops_of key.1 (ring_words 16 (set s.words i new)) (set s.views id u) → RingHolds key (stepped s i new id carried u keeps)
  kept i new u here moved emptied = record {
    wide = length-set s.words i new ∙ holds.wide;
    part = here.0;
    begun = begun_stays key.0 key.1 now (ring_words 16 (set s.words i new)) holds.part.fine.size here.3 holds.begun;
    worn = here.1;
    owned = λ f. omega (arith, here.2 f);
    moved = moved;
    emptied = emptied;
  }

  -- ---- a look changes no word

  seen : (i : ℕ) (e : RingEvent) → Noted key.0 now e → ((f : ℕ → ℕ) → held_by f (does e v) ≡ held_by f v) → ((g : ℕ → ℕ → ℕ) → push_weight g e ≡ 0) → ((g : ℕ → ℕ → ℕ) → pop_weight g e ≡ 0)
      → RingHolds key (stepped s i (slice_index s.words i) id carried (does e v) keeps)
  seen i e noted same pushed popped =
      let u : RingView = does e v in
      let here : Here now u = looked RingView key.0 events_of held_by none_else now s.views id v at holds.part holds.worn owned u e refl same noted in
      let stays : RingHolds key (record { words = s.words; homes = s.homes; views = set s.views id u }) = record {
        wide = holds.wide;
        part = here.0;
        begun = holds.begun;
        worn = holds.worn;
        owned = λ f. omega (arith, here.2 f);
        moved = moved_stays pushes_of pops_of key.0 now now s.views id v u at refl (λ g. omega (arith, pushed g)) (λ g. omega (arith, popped g)) holds.moved;
        emptied = emptied_stays pops_of key.1 now now s.views id v u at refl (λ g. omega (arith, popped g)) holds.emptied;
      } in
      subst (λ (ws : List ℕ). RingHolds key (record { words = ws; homes = s.homes; views = set s.views id u })) (sym (set-get_or s.words i 0)) stays

  pub sees_tail : After 32 now.tail (SeesTail key.0 (step slots 32 0 0 none) (v, carried) now.tail)
  sees_tail = (
    does (SawTail now.tail) v,
    keeps,
    tt,
    seen 32 (SawTail now.tail) (omega arith) (λ f. refl) (λ g. refl) (λ g. refl),
    (
      refl,
      tail_below RingView key.0 events_of held_by none_else now s.views id v at holds.part holds.worn owned,
      refl,
      was_tail RingView key.0 events_of held_by none_else now s.views id v at holds.part holds.worn owned,
    ),
  )

  pub sees_head : After 16 now.head (SeesHead key.0 (step slots 16 0 0 none) (v, carried) now.head)
  sees_head = (
    does (SawHead now.head) v,
    keeps,
    tt,
    seen 16 (SawHead now.head) (omega arith) (λ f. refl) (λ g. refl) (λ g. refl),
    (
      refl,
      head_below RingView key.0 events_of held_by none_else now s.views id v at holds.part holds.worn owned,
      refl,
      was_head RingView key.0 events_of held_by none_else now s.views id v at holds.part holds.worn owned,
    ),
  )

  pub sees_entry : (place : ℕ) → After (48 + place % key.0) (now.entry (place % key.0)) (SeesEntry key.0 place (step slots (48 + place % key.0) 0 0 none) (v, carried) (now.entry (place % key.0)))
  sees_entry place =
      let found : ℕ = now.entry (place % key.0) in (
        does (SawEntry place found) v,
        keeps,
        tt,
        seen (48 + place % key.0) (SawEntry place found) (entry_noted RingView key.0 events_of held_by none_else now s.views id v at holds.part holds.worn owned place) (λ f. refl) (λ g. refl) (λ g. refl),
        (
          refl,
          refl,
          was_entry RingView key.0 events_of held_by none_else now s.views id v at holds.part holds.worn owned place,
          λ shown. near RingView key.0 events_of held_by none_else now s.views id v at holds.part holds.worn owned place shown,
          λ shown before. was_empty RingView key.0 events_of held_by none_else now s.views id v at holds.part holds.worn owned place shown before,
        ),
      )

  -- ---- an entry exchange

  module _ (t x value second : ℕ) (fresh : t < 2 ^ 62) (mine : Holds held_by value v) (before : x / key.0 + 1 ≡ t / key.0) (looked_at : get_elem? (events_of v) 0 ≡ mathlib.Core.Option.some (SawEntry t x))
      (saw : get_elem? (events_of v) 1 ≡ mathlib.Core.Option.some (SawTail t)) (is_entry : second ≡ entry_of key.0 t value) where
    abbrev pub Put : ℕ → Type 0
    Put new = After (48 + t % key.0) new (Puts key.0 t value (step slots (48 + t % key.0) x second none) (v, carried) (now.entry (t % key.0)))

    put_one : now.entry (t % key.0) ≡ x → Put second
    put_one found =
        let u : RingView = does (Pushed t value) v in
        let w' : Words = ring_words 16 (set s.words (48 + t % key.0) second) in
        let set_one : SetsEntry key.0 now w' (t % key.0) second = sets_entry key.0 16 s.words room_for_all second (t % key.0) (mod-lt t holds.part.fine.size) in
        let sets : SetsEntry key.0 now w' (t % key.0) (entry_of key.0 t value) = record { head = set_one.head; tail = set_one.tail; here = set_one.here ∙ is_entry; others = set_one.others } in
        let here = put RingView key.0 events_of held_by none_else now s.views id v at holds.part holds.worn owned t x value before looked_at saw w' u fresh mine (holds_some value v mine) found sets refl (λ f. without_weighs f value v mine) in
        let line_is : (f : ℕ × ℕ → ℕ) → weigh f (line_of key.0 w') ≡ weigh f (line_of key.0 now) + f (t, value) = λ f. ap (weigh f) here.2 ∙ weigh_push f (line_of key.0 now) (t, value) in (
          u,
          keeps,
          tt,
          kept (48 + t % key.0) second u here.0
              (moved_moves pushes_of pops_of key.0 now w' s.views id v u at (λ g. omega (arith, line_is (λ e. g e.0 e.1))) holds.moved)
              (emptied_stays pops_of key.1 now w' s.views id v u at sets.head (λ g. omega arith) holds.emptied),
          (refl, λ won. (refl, here.1), λ other. absurd (other found)),
        )

    missed : now.entry (t % key.0) ≢ x → Put (now.entry (t % key.0))
    missed other =
        let found : ℕ = now.entry (t % key.0) in (
          does (SawEntry t found) v,
          keeps,
          tt,
          seen (48 + t % key.0) (SawEntry t found) (entry_noted RingView key.0 events_of held_by none_else now s.views id v at holds.part holds.worn owned t) (λ f. refl) (λ g. refl) (λ g. refl),
          (refl, λ won. absurd (other won), λ lost. (refl, later_entry RingView key.0 events_of held_by none_else now s.views id v at holds.part holds.worn owned t x value before looked_at saw other)),
        )

    pub puts : Put (either (eqb (now.entry (t % key.0)) x) second (now.entry (t % key.0)))
    puts = exchanged (now.entry (t % key.0)) x second Put put_one missed

  -- ---- a head exchange

  module _ (h x : ℕ) (full : x / key.0 ≡ h / key.0) (looked_at : get_elem? (events_of v) 0 ≡ mathlib.Core.Option.some (SawEntry h x)) (saw : get_elem? (events_of v) 1 ≡ mathlib.Core.Option.some (SawHead h)) where
    abbrev pub Take : ℕ → Type 0
    Take new = After 16 new (Takes key.0 (x % key.0) (step slots 16 h (h + 1) none) (v, carried) now.head)

    take_one : now.head ≡ h → Take (h + 1)
    take_one found =
        let value : ℕ = x % key.0 in
        let u : RingView = does (Popped h value) v in
        let w' : Words = ring_words 16 (set s.words 16 (h + 1)) in
        let sets = sets_head key.0 16 s.words room_for_all (h + 1) in
        let here = took RingView key.0 events_of held_by none_else now s.views id v at holds.part holds.worn owned h x full looked_at saw w' u found sets refl (λ f. refl) in
        let line_is : (f : ℕ × ℕ → ℕ) → weigh f (line_of key.0 now) ≡ f (h, value) + weigh f (line_of key.0 w') = λ f. ap (weigh f) here.2 in (
          u,
          keeps,
          tt,
          kept 16 (h + 1) u here.0
              (moved_moves pushes_of pops_of key.0 now w' s.views id v u at (λ g. omega (arith, line_is (λ e. g e.0 e.1))) holds.moved)
              (emptied_one pops_of key.1 now w' s.views id v u at value (sets.head ∙ ap (λ (m : ℕ). m + 1) (sym found)) (λ g. ap (λ (p : ℕ). g p value + pops_of g v) (sym found)) holds.emptied),
          (refl, λ won. (refl, here.1), λ other. absurd (other found)),
        )

    take_none : now.head ≢ h → Take now.head
    take_none other = (
      does (SawHead now.head) v,
      keeps,
      tt,
      seen 16 (SawHead now.head) (omega arith) (λ f. refl) (λ g. refl) (λ g. refl),
      (refl, λ won. absurd (other won), λ lost. (refl, later_head RingView key.0 events_of held_by none_else now s.views id v at holds.part holds.worn owned h x full looked_at saw other)),
    )

    pub takes : Take (either (eqb now.head h) (h + 1) now.head)
    takes = exchanged now.head h (h + 1) Take take_one take_none

  -- ---- a tail exchange

  module _ (t : ℕ) (shown : ShowsFilled key.0 t (events_of v)) where
    abbrev pub Help : ℕ → Type 0
    Help new = After 32 new (Helps (step slots 32 t (t + 1) none) (v, carried) now.tail)

    help : now.tail ≡ t → Help (t + 1)
    help found =
        let u : RingView = does (SawTail (t + 1)) v in
        let w' : Words = ring_words 16 (set s.words 32 (t + 1)) in
        let sets = sets_tail key.0 16 s.words room_for_all (t + 1) in
        let here = helped RingView key.0 events_of held_by none_else now s.views id v at holds.part holds.worn owned t shown w' u found sets refl (λ f. refl) in (
          u,
          keeps,
          tt,
          kept 32 (t + 1) u here.0
              (moved_stays pushes_of pops_of key.0 now w' s.views id v u at here.1 (λ g. omega arith) (λ g. omega arith) holds.moved)
              (emptied_stays pops_of key.1 now w' s.views id v u at sets.head (λ g. omega arith) holds.emptied),
          (refl, (t + 1, omega arith, refl)),
        )

    helped_before : now.tail ≢ t → Help now.tail
    helped_before other = (
      does (SawTail now.tail) v,
      keeps,
      tt,
      seen 32 (SawTail now.tail) (omega arith) (λ f. refl) (λ g. refl) (λ g. refl),
      (refl, (now.tail, past RingView key.0 events_of held_by none_else now s.views id v at holds.part holds.worn owned t shown other, refl)),
    )

    pub helps : Help (either (eqb now.tail t) (t + 1) now.tail)
    helps = exchanged now.tail t (t + 1) Help help helped_before

-- ---- seats

pub splits : (key : ℕ × ℕ) (id : ℕ) (v left right : RingView) → ((f : ℕ → ℕ) → held_by f left + held_by f right ≡ held_by f v) → events_of left ≡ events_of v → events_of right ≡ [] → Splits {S = ℕ} (RingHolds key) id v left right
splits key id v left right parts same nothing s holds at =
    let w : Words = ring_words 16 s.words in
    let sum_of : (f : RingEvent → ℕ) → weigh f (events_of left) + weigh f (events_of right) ≡ weigh f (events_of v) = λ f. omega (arith, ap (weigh f) same, ap (weigh f) nothing) in
    record {
      wide = holds.wide;
      part = part_splits key.0 events_of w s.views id v at holds.part left right (inl same) (inr nothing);
      begun = holds.begun;
      worn = holds.worn;
      owned = owned_split held_by (line_weight key.0 w) key.0 s.views id v left right at parts holds.owned;
      moved = λ g. omega (arith, holds.moved g, sum_split (pushes_of g) s.views id v left right at (sum_of (push_weight g)), sum_split (pops_of g) s.views id v left right at (sum_of (pop_weight g)));
      emptied = λ f. omega (arith, holds.emptied f, sum_split (pops_of (λ place value. f place)) s.views id v left right at (sum_of (pop_weight (λ place value. f place))));
    }

events_together : (v w : RingView) → events_of (together v w) ≡ events_of v ++ events_of w
events_together v w = sym (append_assoc v.log v.joined (w.log ++ w.joined))

pub joins : (key : ℕ × ℕ) (id other : ℕ) (v u : RingView) → Joins {S = ℕ} (RingHolds key) id v other u (together v u) empty
joins key id other v u s holds at apart there =
    let w : Words = ring_words 16 s.words in
    let before : get_elem? s.views other ≡ mathlib.Core.Option.some u = sym (set_else s.views id other (together v u) apart) ∙ there in
    let sum_of : (f : RingEvent → ℕ) → weigh f (events_of (together v u)) + weigh f (events_of empty) ≡ weigh f (events_of v) + weigh f (events_of u) = λ f. omega (arith, ap (weigh f) (events_together v u), weigh-append f (events_of v) (events_of u)) in
    record {
      wide = holds.wide;
      part = part_joins key.0 events_of w s.views id v at holds.part other u (together v u) empty before (events_together v u) refl;
      begun = holds.begun;
      worn = holds.worn;
      owned = owned_join held_by (line_weight key.0 w) key.0 s.views id other v u (together v u) empty at there (λ f. omega (arith, weigh-append f u.held v.held)) holds.owned;
      moved = λ g. omega (arith, holds.moved g, sum_join (pushes_of g) s.views id other v u (together v u) empty at there (sum_of (push_weight g)), sum_join (pops_of g) s.views id other v u (together v u) empty at there (sum_of (pop_weight g)));
      emptied = λ f. omega (arith, holds.emptied f, sum_join (pops_of (λ place value. f place)) s.views id other v u (together v u) empty at there (sum_of (pop_weight (λ place value. f place))));
    }
