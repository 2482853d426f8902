-- What a main seat knows by its lists, its works and its arms.
use Rattle.std.proofs.Common.{ℕ, ◌≡◌, ◌≢◌, ◌≤◌, ◌<◌, ◌==◌, ◌&&◌, inl, inr, List, set, refl, sym, ap, ◌∙◌, subst, arith}
use Rattle.std.proofs.lemmas.Bool.{cases_eq}
use Rattle.std.proofs.lemmas.Bool.Decides.{nat_tests}
use mathlib.Core.Option.{some, some-injective}
use lib.ListN.{get_elem?}
use Rattle.app_queue.specs.Arms.{Arm, WasArmed}
use Rattle.app_queue.proofs.ArmFrames.{some_weighs}
use Rattle.unit_model.specs.ByRole.{SeatByRole}
use Rattle.unit_model.specs.Core.{seat_of}
use Rattle.unit_model.specs.StreamCounts.{by_seat, posted}
use Rattle.unit_model.specs.Weights.{weigh, is_number, one_if}
use Rattle.unit_model.specs.declared.machine.Core.{Core}
use Rattle.unit_model.specs.declared.machine.Note.{Note}
use Rattle.unit_model.proofs.Views.{sum_at, sum_set, sum_two}
use Rattle.unit_model.proofs.Weights.{is_number_other, is_number_same}
use Rattle.fabric_rule.specs.FrameLaws.{NotesOne, SameOf, note_stream}
use Rattle.fabric_rule.specs.Parts.{AwaitsReply, KnowsWork, PostsInWork, ShowsWorks, WorksShown}
use Rattle.fabric_rule.specs.Views.{arms_among, arms_at, draw_at, draw_weight, posts_at, posts_of, take_at, take_weight}
use Rattle.fabric_rule.specs.declared.view.ArmNote.{ArmNote}
use Rattle.fabric_rule.specs.declared.view.FabricView.{FabricView}
use Rattle.fabric_rule.specs.declared.view.Work.{Work}
use Rattle.fabric_rule.proofs.ArmSteps.{drawn_stream, taker_apart}
use Rattle.fabric_rule.proofs.KeyedSteps.{keyed_step}
use Rattle.fabric_rule.proofs.Noting.{same_of_others, work_noted}
use Rattle.fabric_rule.proofs.Sums.{each_gives}

-- ---- arms on queue 0

-- elements of a list that weigh, where all weigh 1 at most, are one
one_weighs : {X : Type 0} (f : X → ℕ) (xs : List X) (i j : ℕ) (a b : X) → get_elem? xs i ≡ some a → get_elem? xs j ≡ some b → weigh f xs ≤ 1 → 1 ≤ f a → 1 ≤ f b → a ≡ b
one_weighs f xs i j a b at_a at_b once has_a has_b =
    elim (cases_eq i j) [
      | inl is ↦ some-injective a b (sym at_a ∙ ap (get_elem? xs) is ∙ at_b)
      | inr ne ↦ absurd (omega (arith, sum_two f xs i j a b ne at_a at_b, once, has_a, has_b))
    ]

-- a stream that is posted once has one arm
pub one_arm : (stream : ℕ) (views : List FabricView) → weigh (posts_at stream) views ≤ 1 → (a b : Arm) → WasArmed (arms_at 0) views a → WasArmed (arms_at 0) views b → a.stream ≡ stream → b.stream ≡ stream → a ≡ b
one_arm stream views once a b (k, v, at, i, in_list) (j, w, there, n, in_other) is_a is_b =
    let f : Arm → ℕ = λ (x : Arm). is_number stream x.stream in
    let has_a : 1 ≤ f a = omega (arith, ap (is_number stream) is_a, is_number_same stream) in
    let has_b : 1 ≤ f b = omega (arith, ap (is_number stream) is_b, is_number_same stream) in
    let has_v : 1 ≤ posts_at stream v = omega (arith, has_a, sum_at f (arms_at 0 v) i a in_list) in
    let has_w : 1 ≤ posts_at stream w = omega (arith, has_b, sum_at f (arms_at 0 w) n b in_other) in
    let one : v ≡ w = one_weighs (posts_at stream) views k j v w at there once has_v has_w in
    one_weighs f (arms_at 0 v) i n a b in_list (subst (λ (y : FabricView). get_elem? (arms_at 0 y) n ≡ some b) (sym one) in_other) (omega (arith, once, sum_at (posts_at stream) views k v at)) has_a has_b

arm_is : (stream item : ℕ) (a : Arm) → 0 < one_if (a.stream == stream && a.item == item) → (a.stream ≡ stream) × (a.item ≡ item)
arm_is stream item a pos = (grind (arith, nat_tests), grind (arith, nat_tests))

-- the arm of a stream with an item
pub own_arm : (stream item : ℕ) (arms : List ArmNote) → 1 ≤ posts_of stream item arms → (j : ℕ) × (a : Arm) × (get_elem? (arms_among 0 arms) j ≡ some a) × (a.stream ≡ stream) × (a.item ≡ item)
own_arm stream item arms has =
    let found = some_weighs (λ (a : Arm). one_if (a.stream == stream && a.item == item)) (arms_among 0 arms) (omega (arith, has)) in
    let is = arm_is stream item found.1 found.3 in
    (found.0, found.1, found.2, is.0, is.1)

-- who has it has posted the stream
pub has_posts : (stream item : ℕ) (v : FabricView) → 1 ≤ posts_of stream item v.arms → 1 ≤ posts_at stream v
has_posts stream item v has =
    let arm = own_arm stream item v.arms has in
    omega (arith, sum_at (λ (a : Arm). is_number stream a.stream) (arms_at 0 v) arm.0 arm.1 arm.2, ap (is_number stream) arm.3, is_number_same stream)

-- ---- a poster's work ends

module _ (core core' : Core) (armed : ℕ → List ℕ) (views : List FabricView) (id : ℕ) (v u : FabricView) (at : get_elem? views id ≡ some v) (stream : ℕ) (note : Note) (notes_one : NotesOne core core' v.seat note) (of : note_stream note ≡ stream)
    (draws_v : (key : ℕ) → draw_at key v ≡ is_number key stream) (draws_u : (key : ℕ) → draw_at key u ≡ 0) (takes_u : (key : ℕ) → take_at key u ≡ 0) where
  pub works_end : SeatByRole 0 (seat_of core v.seat) → WorksShown core armed views → WorksShown core' armed (set views id u)
  works_end by_role old = record {
    draws = keyed_step FabricView draw_at (ShowsWorks draw_weight core armed) (ShowsWorks draw_weight core' armed) views id v u at
        (λ key. omega (arith, old.draws.once key, draws_u key))
        (λ key has. absurd (omega (arith, has, draws_u key)))
        (λ key zero y has shown.
        let other : key ≢ stream = λ is. absurd (omega (arith, zero, draws_v key, ap (λ (n : ℕ). is_number n stream) is, is_number_same stream)) in
        each_gives (λ (w : Work). 1 ≤ draw_weight key w → KnowsWork core armed y.seat y.arms w) (λ (w : Work). 1 ≤ draw_weight key w → KnowsWork core' armed y.seat y.arms w) y.works
        (λ w was is. work_noted core core' v.seat note notes_one armed armed y.seat y.arms w (inl (λ same. other (sym (drawn_stream key w is) ∙ same ∙ of))) refl (was is))
        shown)
        old.draws;
    takes = keyed_step FabricView take_at (ShowsWorks take_weight core armed) (ShowsWorks take_weight core' armed) views id v u at
        (λ key. omega (arith, old.takes.once key, takes_u key))
        (λ key has. absurd (omega (arith, has, takes_u key)))
        (λ key zero y has shown.
        each_gives (λ (w : Work). 1 ≤ take_weight key w → KnowsWork core armed y.seat y.arms w) (λ (w : Work). 1 ≤ take_weight key w → KnowsWork core' armed y.seat y.arms w) y.works
        (λ w was is. work_noted core core' v.seat note notes_one armed armed y.seat y.arms w (inr (taker_apart core armed v.seat y.seat y.arms key w by_role is (was is))) refl (was is))
        shown)
        old.takes;
  }

  -- no other stream waits for a reply with less
  pub awaits_end : (AwaitsReply (seat_of core' v.seat) stream → ⊥) → ((k : ℕ) → 1 ≤ by_seat posted core k stream → k ≡ v.seat) → ((k : ℕ) → by_seat posted core' k stream ≡ by_seat posted core k stream) → PostsInWork core views → PostsInWork core' (set views id u)
  awaits_end ended only same old engine key awaits =
      elim (cases_eq key stream) [
        | inl is ↦
            let theirs : AwaitsReply (seat_of core' engine) stream = subst (λ (k : ℕ). AwaitsReply (seat_of core' engine) k) is awaits in
            let mine : engine ≡ v.seat = only engine (omega (arith, theirs.was_posted, same engine)) in
            absurd (ended (subst (λ (k : ℕ). AwaitsReply (seat_of core' k) stream) mine theirs))
        | inr ne ↦
            let said : SameOf key (seat_of core engine) (seat_of core' engine) = same_of_others core core' v.seat note notes_one engine key (λ is. ne (is ∙ of)) in
            let before : AwaitsReply (seat_of core engine) key = record {
              was_posted = omega (arith, awaits.was_posted, said.posted_as);
              uncancelled = sym said.cancelled_as ∙ awaits.uncancelled;
              unabandoned = sym said.abandoned_as ∙ awaits.unabandoned;
              unreceived = sym said.received_as ∙ awaits.unreceived;
            } in
            omega (arith, old engine key before, sum_set (draw_at key) views id v u at, draws_v key, draws_u key, is_number_other key stream (λ is. ne (sym is)))
      ]
