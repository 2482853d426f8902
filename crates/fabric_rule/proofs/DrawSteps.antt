-- An engine draws a stream.
use Rattle.std.proofs.Common.{ℕ, ◌+◌, ◌^◌, ◌≡◌, ◌≢◌, ◌≤◌, ◌<◌, ◌==◌, inl, inr, Bool, true, false, cond, List, [], ◌∷◌, length, set, refl, sym, ap, ◌∙◌, subst, arith, length-set}
use Rattle.std.specs.Prelude.{Option}
use Rattle.std.proofs.lemmas.Bool.{cases_eq, cases_lt}
use mathlib.Core.Option.{some}
use lib.ListN.{get_elem?}
use Rattle.atomic_table.specs.Table.{State, keeps, stepped}
use Rattle.request_context.specs.declared.piece.Parcel.{Parcel}
use Rattle.unit_model.specs.Core.{item_of, owner_of, role_of, seat_of}
use Rattle.unit_model.specs.Effects.{after_step, with_note}
use Rattle.unit_model.specs.PartOrder.{Each}
use Rattle.unit_model.specs.Shapes.{role_in}
use Rattle.unit_model.specs.StreamCounts.{StreamCounts, by_all, by_seat, drawn, posted, taken}
use Rattle.unit_model.specs.Weights.{weigh, is_number, times}
use Rattle.unit_model.specs.declared.machine.Core.{Core}
use Rattle.unit_model.specs.declared.machine.Item.{Item}
use Rattle.unit_model.specs.declared.machine.Note.TheVariants.{Drawn}
use Rattle.unit_model.specs.declared.machine.Step.TheVariants.{Draw}
use Rattle.unit_model.specs.declared.shape.Shape.{Shape}
use Rattle.unit_model.proofs.MetSteps.{role_is_there}
use Rattle.unit_model.proofs.SeatNotes.{Adds, Grows, Stays, all_less, grows, seat_in_all, stays}
use Rattle.unit_model.proofs.StepFacts.{adds_after_draw}
use Rattle.unit_model.proofs.Views.{sum_set}
use Rattle.unit_model.proofs.Weights.{is_number_other, is_number_same}
use Rattle.unit_types.specs.declared.message.Reply.{Reply}
use Rattle.unit_types.specs.declared.message.Request.{Request}
use Rattle.fabric_words.specs.Needs.{NeedsDraw}
use Rattle.fabric_words.specs.Offsets.{offset_of, word_in}
use Rattle.fabric_words.specs.Places.{Sets}
use Rattle.fabric_words.specs.Shown.{IsStep}
use Rattle.fabric_words.specs.declared.place.Place.{Place}
use Rattle.fabric_words.specs.declared.place.Place.TheVariants.{NextStream}
use Rattle.fabric_words.proofs.EachStep.{made_step}
use Rattle.fabric_words.proofs.Frames.{chunk_stays}
use Rattle.fabric_words.proofs.Standing.{set_word}
use Rattle.fabric_rule.specs.Drawing.{DrawLaw, with_drawn}
use Rattle.fabric_rule.specs.FrameLaws.{NotesOne}
use Rattle.fabric_rule.specs.Parts.{AwaitsReply, KnowsDrawn, KnowsWork, PostsInWork, ShowsWorks, WorksShown}
use Rattle.fabric_rule.specs.Rule.{FabricHolds, NotesAreTrue, ViewsShow}
use Rattle.fabric_rule.specs.Steps.{IsMachineStep, IsMain}
use Rattle.fabric_rule.specs.Steps.{with_note as main_note}
use Rattle.fabric_rule.specs.Views.{draw_at, draw_weight, opens_at, take_at, take_weight, works_at}
use Rattle.fabric_rule.specs.declared.event.FabricEvent.TheVariants.{SawNext}
use Rattle.fabric_rule.specs.declared.view.ArmNote.{ArmNote}
use Rattle.fabric_rule.specs.declared.view.Ledger.{Ledger}
use Rattle.fabric_rule.specs.declared.view.FabricView.{FabricView}
use Rattle.fabric_rule.specs.declared.view.Work.{Work}
use Rattle.fabric_rule.specs.declared.view.Work.TheVariants.{Drawn as DrawnWork, Posted as PostedWork, Taken as TakenWork, Sending, Holding}
use Rattle.fabric_rule.proofs.ArmSteps.{drawn_stream}
use Rattle.fabric_rule.proofs.Beside.{notes_beside, rings_beside, tails_same}
use Rattle.fabric_rule.proofs.Ledgers.{own_popped}
use Rattle.fabric_rule.proofs.RuleSteps.{step_made}
use Rattle.fabric_rule.proofs.Staying.{LeavesStreams, views_stay}
use Rattle.fabric_rule.proofs.Contents.{filled_stay}
use Rattle.fabric_rule.proofs.Frames.{chunks_stay, items_stay, opens_stay}
use Rattle.fabric_rule.proofs.KeyedSteps.{keyed_none, keyed_step}
use Rattle.fabric_rule.proofs.Noting.{lists_noted, said_as, work_noted, work_stream}
use Rattle.fabric_rule.proofs.Sums.{each_gives}
use Rattle.unit_model.proofs.PartOrderOthers.{others_in_order}

-- ---- what Draw leaves of a core

module _ (core : Core) (seat stream : ℕ) where
  drawn_shape : (after_step core (Draw seat stream)).shape ≡ core.shape
  unfolding after_step with_note
  drawn_shape = refl

  drawn_items : (q i : ℕ) → item_of (after_step core (Draw seat stream)) q i ≡ item_of core q i
  unfolding after_step with_note
  drawn_items q i = refl

  drawn_owner : (chunk : ℕ) → owner_of (after_step core (Draw seat stream)) chunk ≡ owner_of core chunk
  unfolding after_step with_note
  drawn_owner chunk = refl

  drawn_opened : (after_step core (Draw seat stream)).opened ≡ core.opened
  unfolding after_step with_note
  drawn_opened = refl

-- ---- works

-- what isn't weighed needs no proof
none_weigh : {X : Type 0} (f : X → ℕ) (P : X → Type 0) (xs : List X) → weigh f xs ≡ 0 → Each (λ x. 1 ≤ f x → P x) xs
none_weigh f P [] none = tt
none_weigh f P (x ∷ xs) none = ((λ is. absurd (omega (arith, none, is))), none_weigh f P xs (omega (arith, none)))

-- the stream of a work was drawn
module _ (core : Core) (counts : StreamCounts core) where
  -- what a seat drew
  drew_some : (seat key : ℕ) → 1 ≤ by_seat drawn core seat key → 1 ≤ by_all drawn core key
  drew_some seat key some_drawn = omega (arith, some_drawn, seat_in_all drawn core seat key refl)

  -- what a seat posted, or took
  posted_some : (seat key : ℕ) → 1 ≤ by_seat posted core seat key → 1 ≤ by_all drawn core key
  posted_some seat key some_posted = drew_some seat key (omega (arith, some_posted, counts.posted_by_drawer seat key))

  took_some : (seat key : ℕ) → key ≢ 0 → 1 ≤ by_seat taken core seat key → 1 ≤ by_all drawn core key
  took_some seat key ne some_taken = omega (arith, some_taken, seat_in_all taken core seat key refl, counts.one_state key ne, all_less posted drawn core key (λ k. counts.posted_by_drawer k key))

  module _ (armed : ℕ → List ℕ) (seat : ℕ) (arms : List ArmNote) (key : ℕ) where
    draw_is_drawn : (w : Work) → 1 ≤ draw_weight key w → KnowsWork core armed seat arms w → 1 ≤ by_all drawn core (work_stream w)
    draw_is_drawn (DrawnWork stream) has know = drew_some seat stream know.drew
    draw_is_drawn (PostedWork stream item) has know = posted_some seat stream know.was_posted
    draw_is_drawn (TakenWork stream poster parts) has know = absurd (omega (arith, has))
    draw_is_drawn (Sending stream poster parts last item) has know = absurd (omega (arith, has))
    draw_is_drawn Holding has know = absurd (omega (arith, has))

    take_is_drawn : (w : Work) → 1 ≤ take_weight key w → KnowsWork core armed seat arms w → work_stream w ≢ 0 → 1 ≤ by_all drawn core (work_stream w)
    take_is_drawn (DrawnWork stream) has know ne = absurd (omega (arith, has))
    take_is_drawn (PostedWork stream item) has know ne = absurd (omega (arith, has))
    take_is_drawn (TakenWork stream poster parts) has know ne = took_some seat stream ne know.took
    take_is_drawn (Sending stream poster parts last item) has know ne = took_some seat stream ne know.took
    take_is_drawn Holding has know ne = absurd (omega (arith, has))

one_more : (b : Bool) (n m : ℕ) → cond {A = ℕ} b (n + 1) 0 + cond {A = ℕ} b m 0 ≡ cond {A = ℕ} b n 0 + cond {A = ℕ} b (1 + m) 0
one_more true n m = omega arith
one_more false n m = refl

-- ---- the step

module _ {H : Type 0} (reply_of : List ℕ → Request → Reply) (shape : Shape) (s : State (Option (Parcel H)) FabricView) (holds : FabricHolds reply_of shape s) (id : ℕ) (v : FabricView) (c : Ledger) (carried : List (ℕ × Option (Parcel H)))
    (at : get_elem? s.views id ≡ some v) (main : IsMain v c) (engine : role_in shape v.seat ≡ 0) (stream : ℕ) (low : stream < 2 ^ 62) (found : word_in shape s.words NextStream ≡ stream) where
  abbrev pub word : Place → ℕ
  word = word_in shape s.words

  abbrev pub word' : Place → ℕ
  word' = word_in shape (set s.words (offset_of shape NextStream) (stream + 1))

  abbrev pub core : Core
  core = holds.core

  abbrev pub core' : Core
  core' = after_step core (Draw v.seat stream)

  abbrev pub u : FabricView
  u = with_drawn stream c v

  sets : Sets shape word word' NextStream (stream + 1)
  sets = set_word shape s.words NextStream (stream + 1) holds.wide tt

  role : role_of core v.seat ≡ 0
  role = ap (λ (sh : Shape). role_in sh v.seat) holds.shaped ∙ engine

  needs : NeedsDraw word core v.seat stream
  needs = record { role = role; next = found; low = low }

  link : IsStep word' core (Draw v.seat stream)
  link = made_step shape word word' (Draw v.seat stream) sets core holds.shaped holds.keeps.sound holds.shows needs

  shape_same : core'.shape ≡ core.shape
  shape_same = drawn_shape core v.seat stream

  counts : StreamCounts core
  counts = holds.keeps.sound.streams

  seat_in : v.seat < length core.seats
  seat_in = omega (arith, counts.seats, role_is_there core v.seat (omega (arith, role)))

  adds : Adds core core' v.seat (Drawn stream)
  adds = adds_after_draw core v.seat stream seat_in

  notes_one : NotesOne core core' v.seat (Drawn stream)
  notes_one = record { shape = shape_same; inside = adds.inside; seats = adds.seats }

  same_posts : Stays posted core core'
  same_posts = stays posted core core' v.seat (Drawn stream) adds (λ l. refl)

  grow : Grows drawn core core' v.seat stream
  grow = grows drawn core core' v.seat (Drawn stream) stream adds (λ l. refl)

  -- ---- the stream

  is_next : stream ≡ core.next
  is_next = sym found ∙ holds.shows.next

  pub some_stream : stream ≢ 0
  some_stream is = absurd (omega (arith, is, is_next, counts.next))

  undrawn : by_all drawn core stream ≡ 0
  undrawn = counts.no_other stream (inr (omega (arith, is_next)))

  -- a drawn stream is another one
  drawn_apart : (key : ℕ) → 1 ≤ by_all drawn core key → key ≢ stream
  drawn_apart key some_drawn is = absurd (omega (arith, some_drawn, ap (by_all drawn core) is, undrawn))

  unposted : times stream (seat_of core v.seat).posted ≡ 0
  unposted = omega (arith, counts.posted_by_drawer v.seat stream, seat_in_all drawn core v.seat stream refl, undrawn)

  -- ---- notes

  notes' : NotesAreTrue shape word' (set s.views id u)
  notes' = notes_beside shape word word' NextStream (stream + 1) sets refl (λ q side. refl) s.views id v at (main_note (Drawn stream) 1 c ∷ []) (DrawnWork stream ∷ v.works) v.chunks (SawNext (stream + 1)) (λ q side. refl) (λ q. refl) holds.notes

  -- ---- what the seat's lists say

  knows : KnowsDrawn (seat_of core' v.seat) stream
  knows = record {
    drew = omega (arith, grow.here stream, is_number_same stream);
    unposted = omega (arith, same_posts.each v.seat stream, unposted);
  }

  -- ---- works

  draws_kept : (key seat : ℕ) (arms : List ArmNote) (ws : List Work) → Each (λ (w : Work). 1 ≤ draw_weight key w → KnowsWork core holds.armed seat arms w) ws → Each (λ (w : Work). 1 ≤ draw_weight key w → KnowsWork core' holds.armed seat arms w) ws
  draws_kept key seat arms ws old = each_gives (λ (w : Work). 1 ≤ draw_weight key w → KnowsWork core holds.armed seat arms w) (λ (w : Work). 1 ≤ draw_weight key w → KnowsWork core' holds.armed seat arms w) ws
      (λ w was is. work_noted core core' v.seat (Drawn stream) notes_one holds.armed holds.armed seat arms w (inl (drawn_apart (work_stream w) (draw_is_drawn core counts holds.armed seat arms key w is (was is)))) refl (was is)) old

  takes_kept : (key seat : ℕ) (arms : List ArmNote) (ws : List Work) → Each (λ (w : Work). 1 ≤ take_weight key w → KnowsWork core holds.armed seat arms w) ws → Each (λ (w : Work). 1 ≤ take_weight key w → KnowsWork core' holds.armed seat arms w) ws
  takes_kept key seat arms ws old = each_gives (λ (w : Work). 1 ≤ take_weight key w → KnowsWork core holds.armed seat arms w) (λ (w : Work). 1 ≤ take_weight key w → KnowsWork core' holds.armed seat arms w) ws
      (λ w was is.
      let other : work_stream w ≢ stream = λ same. drawn_apart (work_stream w) (take_is_drawn core counts holds.armed seat arms key w is (was is) (λ zero. some_stream (sym same ∙ zero))) same in
      work_noted core core' v.seat (Drawn stream) notes_one holds.armed holds.armed seat arms w (inl other) refl (was is)) old

  -- no view had a work of this stream
  no_drawer : weigh (draw_at stream) s.views ≡ 0
  no_drawer = keyed_none FabricView draw_at (ShowsWorks draw_weight core holds.armed) s.views stream holds.views.works.draws
      (λ y has shown. drawn_apart stream (some_of y.seat y.arms y.works has shown) refl)
    where
      some_of : (seat : ℕ) (arms : List ArmNote) (ws : List Work) → 1 ≤ weigh (draw_weight stream) ws → Each (λ (w : Work). 1 ≤ draw_weight stream w → KnowsWork core holds.armed seat arms w) ws → 1 ≤ by_all drawn core stream
      some_of seat arms [] has shown = absurd (omega (arith, has))
      some_of seat arms (w ∷ ws) has shown =
          elim (cases_lt 0 (draw_weight stream w)) [
            | inl here ↦
                let is : 1 ≤ draw_weight stream w = omega (arith, here) in
                subst (λ (k : ℕ). 1 ≤ by_all drawn core k) (drawn_stream stream w is) (draw_is_drawn core counts holds.armed seat arms stream w is (shown.0 is))
            | inr none ↦ some_of seat arms ws (omega (arith, has, none)) shown.1
          ]

  works' : WorksShown core' holds.armed (set s.views id u)
  works' =
      let old = holds.views.works in
      record {
        draws = keyed_step FabricView draw_at (ShowsWorks draw_weight core holds.armed) (ShowsWorks draw_weight core' holds.armed) s.views id v u at
            (λ key. elim (cases_eq key stream) [
              | inl is ↦ omega (arith, ap (λ (k : ℕ). weigh (draw_at k) s.views) is, no_drawer, ap (λ (k : ℕ). is_number k stream) is, is_number_same stream)
              | inr ne ↦ omega (arith, old.draws.once key, is_number_other key stream (λ is. ne (sym is)))
            ])
            (λ key has. (
              (λ is. knows),
              elim (cases_lt 0 (draw_at key v)) [
                | inl some_there ↦ draws_kept key v.seat v.arms v.works (old.draws.each key id v at (omega (arith, some_there)))
                | inr none ↦ none_weigh (draw_weight key) (KnowsWork core' holds.armed v.seat v.arms) v.works (omega (arith, none))
              ],
            ))
            (λ key none y has shown. draws_kept key y.seat y.arms y.works shown)
            old.draws;
        takes = keyed_step FabricView take_at (ShowsWorks take_weight core holds.armed) (ShowsWorks take_weight core' holds.armed) s.views id v u at
            (λ key. omega (arith, old.takes.once key))
            (λ key has. ((λ is. absurd (omega (arith, is))), takes_kept key v.seat v.arms v.works (old.takes.each key id v at (omega (arith, has)))))
            (λ key none y has shown. takes_kept key y.seat y.arms y.works shown)
            old.takes;
      }

  -- what awaits its reply was posted, and so is another stream
  in_work' : PostsInWork core' (set s.views id u)
  in_work' poster key awaits =
      let was : 1 ≤ times key (seat_of core poster).posted = omega (arith, awaits.was_posted, same_posts.each poster key) in
      let said = said_as core core' v.seat (Drawn stream) notes_one holds.armed holds.armed poster key (inl (drawn_apart key (posted_some core counts poster key was))) in
      let before : AwaitsReply (seat_of core poster) key = record {
        was_posted = was;
        uncancelled = sym said.cancelled_as ∙ awaits.uncancelled;
        unabandoned = sym said.abandoned_as ∙ awaits.unabandoned;
        unreceived = sym said.received_as ∙ awaits.unreceived;
      } in
      omega (arith, holds.views.in_work poster key before, sum_set (draw_at key) s.views id v u at)

  counts_more : (k : ℕ) → opens_at k u + works_at k v ≡ opens_at k v + works_at k u
  counts_more k =
      let opens_v : opens_at k v ≡ cond {A = ℕ} (c.seat == k) c.opened_works 0 + 0 = ap (weigh (λ (d : Ledger). cond (d.seat == k) d.opened_works 0)) main.only in
      let seats : cond {A = ℕ} (c.seat == k) (c.opened_works + 1) 0 ≡ cond {A = ℕ} (v.seat == k) (c.opened_works + 1) 0 = ap (λ (n : ℕ). cond {A = ℕ} (n == k) (c.opened_works + 1) 0) main.number in
      let seats_v : cond {A = ℕ} (c.seat == k) c.opened_works 0 ≡ cond {A = ℕ} (v.seat == k) c.opened_works 0 = ap (λ (n : ℕ). cond {A = ℕ} (n == k) c.opened_works 0) main.number in
      let both : cond {A = ℕ} (v.seat == k) (c.opened_works + 1) 0 + cond {A = ℕ} (v.seat == k) (length v.works) 0 ≡ cond {A = ℕ} (v.seat == k) c.opened_works 0 + cond {A = ℕ} (v.seat == k) (1 + length v.works) 0 = one_more (v.seat == k) c.opened_works (length v.works) in
      let longer : length (DrawnWork stream ∷ v.works) ≡ 1 + length v.works = omega arith in
      let works_u : works_at k u ≡ cond {A = ℕ} (v.seat == k) (1 + length v.works) 0 = ap (λ (n : ℕ). cond {A = ℕ} (v.seat == k) n 0) longer in
      omega (arith, opens_v, seats, seats_v, both, works_u)

  -- ---- views

  views' : ViewsShow shape word' holds.popped holds.armed holds.records core' (set s.views id u)
  views' =
      let old = holds.views in
      let items = drawn_items core v.seat stream in
      let leaves : LeavesStreams core core' = record { shape = shape_same; posts = same_posts.all; items = λ q i. record { last = ap (λ (y : Item). y.stream) (items q i); untagged = λ none. ap (λ (y : Item). y.tag) (items q i) ∙ none } } in
      views_stay shape word word' holds.popped holds.armed holds.popped holds.armed holds.records core core' leaves s.views id v u at (record { shape = refl; number = refl; arms = refl; records = refl; kept = refl })
      (tails_same core shape word word' holds.shaped (rings_beside shape word word' NextStream (stream + 1) sets refl (λ r side. refl)))
      (record {
        items = items_stay core core' s.views id v u at shape_same (λ q i lt. ap (λ (y : Item). y.whereabouts) (items q i)) (λ q f. refl) old.items;
        chunks = chunks_stay core core' s.views id v u at shape_same (drawn_owner core v.seat stream) (λ f. refl) old.chunks;
        opens = opens_stay core core' s.views id v u at (drawn_opened core v.seat stream) refl refl old.opens;
        lists = lists_noted core core' (Drawn stream) holds.popped holds.popped s.views id v u c (main_note (Drawn stream) 1 c) at notes_one main.only main.number refl refl refl refl (λ is_engine. own_popped core holds.popped s.views id v c at main role old.lists) (λ k ne. refl) old.lists;
        numbers = λ k. sym (ap (weigh (λ (d : Ledger). is_number k d.seat)) main.only);
        works = works';
        counted = counts_more;
        idle = λ spent. absurd (cc spent);
        in_work = in_work';
      })
      old

  pub draws : IsMachineStep reply_of shape s holds (Draw v.seat stream) (stepped s (offset_of shape NextStream) (stream + 1) id carried u keeps)
  draws =
      step_made reply_of shape s holds (Draw v.seat stream) (set s.words (offset_of shape NextStream) (stream + 1)) s.homes (set s.views id u) holds.popped holds.armed
      (omega (arith, holds.wide, length-set s.words (offset_of shape NextStream) (stream + 1))) link (shape_same ∙ holds.shaped)
      (others_in_order holds.popped holds.armed core (Draw v.seat stream) holds.keeps.sound holds.keeps.order tt link.enabled) notes' views'
      (λ chunk lt is_set. holds.free chunk lt (sym (chunk_stays shape word word' NextStream (stream + 1) sets (λ k e. absurd (cc e)) chunk lt) ∙ is_set))
      (filled_stay H reply_of holds.records holds.records core core' s.homes s.homes shape_same
      (λ q i has armed. let is = drawn_items core v.seat stream q i in (ap (λ (y : Item). y.tag) is, ap (λ (y : Item). y.run) is, ap (λ (y : Item). y.part) is, refl, λ chunk in_run. refl)) holds.filled)

pub draw : (H : Type 0) → DrawLaw H
draw H reply_of shape s holds id v c carried at main engine stream low found = draws reply_of shape s holds id v c carried at main engine stream low found
