-- An engine receives the part whose item it popped.
use Rattle.std.proofs.Common.{ℕ, ◌+◌, ◌≡◌, ◌≢◌, ◌≤◌, ◌<◌, ◌==◌, ◌&&◌, inl, inr, Bool, true, false, cond, List, [], ◌∷◌, ◌++◌, filter, get_or, length, map, set, refl, sym, ap, ◌∙◌, subst, arith}
use Rattle.std.specs.Prelude.{Option, Contains}
use Rattle.std.specs.List.{list_any}
use Rattle.std.proofs.lemmas.Bool.{and_parts, cases_Bool, cases_eq, eq-eqb, eqb-true, ne_eqb, or_parts}
use Rattle.std.proofs.lemmas.List.{length-append}
use Rattle.std.proofs.lemmas.List.Elements.{filter-append}
use mathlib.Core.Option.{some}
use lib.ListN.{get_elem?}
use Rattle.atomic_table.specs.Table.{State}
use Rattle.port_message.specs.Words.{numbers_of}
use Rattle.request_context.specs.declared.piece.Parcel.{Parcel}
use Rattle.unit_model.specs.Core.{item_of, number_in, role_of, seat_of}
use Rattle.unit_model.specs.Effects.{after_step, noted, settled_note}
use Rattle.unit_model.specs.PartCounts.{is_of_stream, no_part, sent}
use Rattle.unit_model.specs.PartOrder.{Each, IsPopped, IsReceivedWhole, PartsInOrder, all_parts, course, line_parts, received_parts}
use Rattle.unit_model.specs.Premises.{MaySettle, Receives}
use Rattle.unit_model.specs.Shapes.{role_in}
use Rattle.unit_model.specs.Sharing.{Holds}
use Rattle.unit_model.specs.SoundStreams.{part_in}
use Rattle.unit_model.specs.StreamCounts.{abandoned, by_seat, cancelled, closed, drawn, posted, taken}
use Rattle.unit_model.specs.Weights.{weigh, is_number, one_if, times}
use Rattle.unit_model.specs.declared.machine.Core.{Core}
use Rattle.unit_model.specs.declared.machine.Item.{Item}
use Rattle.unit_model.specs.declared.machine.Note.{Note}
use Rattle.unit_model.specs.declared.machine.Note.TheVariants.{Received}
use Rattle.unit_model.specs.declared.machine.Part.{Part}
use Rattle.unit_model.specs.declared.machine.Seat.{Seat as SeatLists}
use Rattle.unit_model.specs.declared.machine.Step.TheVariants.{Settle}
use Rattle.unit_model.specs.declared.shape.Shape.{Shape}
use Rattle.unit_model.proofs.Changes.{any_counts}
use Rattle.unit_model.proofs.Members.{place_of, weight_of_member}
use Rattle.unit_model.proofs.PartOrderBack.{last_ends_received, popped_next, settle_in_order}
use Rattle.unit_model.proofs.PartPoints.{sender_takes, sent_somewhere}
use Rattle.unit_model.proofs.StepFacts.{received_back}
use Rattle.unit_model.proofs.Views.{sum_set}
use Rattle.unit_model.proofs.Weights.{is_number_same}
use Rattle.unit_types.specs.declared.message.Reply.{Reply}
use Rattle.unit_types.specs.declared.message.Request.{Request}
use Rattle.fabric_words.specs.Offsets.{word_in}
use Rattle.fabric_words.specs.Places.{HasItem}
use Rattle.fabric_words.specs.Shown.{ShowsItem}
use Rattle.fabric_words.specs.declared.place.Place.{Place}
use Rattle.fabric_words.specs.declared.place.Place.TheVariants.{PartWord, RunWord, Tag}
use Rattle.fabric_rule.specs.Contents.{Carries, IsReplyPart, OfReply, OfRequest}
use Rattle.fabric_rule.specs.FrameLaws.{NotesOne}
use Rattle.fabric_rule.specs.Parts.{AwaitsReply, IsTrueLedger, KnowsWork, PostsInWork, ShowsWorks, WorksShown, has_last}
use Rattle.fabric_rule.specs.Rule.{FabricHolds}
use Rattle.fabric_rule.specs.Settling.{HasPopped, PartComes, ReceiveLaw, part_named, with_received}
use Rattle.fabric_rule.specs.Steps.{with_note}
use Rattle.fabric_rule.specs.Views.{draw_at, draw_weight, emptied_by, held_at, part_said, popped_at, run_said, tag_said, take_at, take_weight}
use Rattle.fabric_rule.specs.declared.view.ArmNote.{ArmNote}
use Rattle.fabric_rule.specs.declared.view.Ledger.{Ledger}
use Rattle.fabric_rule.specs.declared.view.FabricView.{FabricView}
use Rattle.fabric_rule.specs.declared.view.Work.{Work}
use Rattle.fabric_rule.specs.declared.view.Work.TheVariants.{Drawn, Posted, Taken, Sending, Holding}
use Rattle.fabric_rule.proofs.KeyedSteps.{keyed_step}
use Rattle.fabric_rule.proofs.Noting.{noted_else, noted_here}
use Rattle.fabric_rule.proofs.Ledgers.{own_ledger}
use Rattle.fabric_rule.proofs.Noting.{same_field}
use Rattle.fabric_rule.proofs.SettleSteps.{IsNoted, comes, contents, kept_by_holder, notes_one, parcels, postings}
use Rattle.fabric_rule.proofs.Sums.{each_gives}

-- ---- lists

-- parts of replies are on back queues
pub part_of_reply : {H : Type 0} (reply_of : List ℕ → Request → Reply) (records : ℕ → List ℕ) (queue stream part : ℕ) (pieces : List (Parcel H)) → queue ≢ 0 → Carries reply_of records queue stream part pieces → IsReplyPart reply_of stream part pieces
part_of_reply reply_of records queue stream part pieces back (OfRequest line is) = absurd (back line)
part_of_reply reply_of records queue stream part pieces back (OfReply off is) = is

fewer_any : (test : Part → Bool) (part : Part) (xs : List Part) → list_any test (xs ++ part ∷ []) ≡ false → list_any test xs ≡ false
fewer_any test part [] none = refl
fewer_any test part (x ∷ xs) none =
    let both = or_parts (test x) (list_any test (xs ++ part ∷ [])) none in
    rw both.0 (fewer_any test part xs both.1)

is_true : (b : Bool) → 1 ≤ one_if b → b ≡ true
is_true true pos = refl
is_true false pos = absurd (omega (arith, pos))

-- a last part of a stream among parts stands at a place among those of the stream
last_place : (stream : ℕ) (parts : List Part) → has_last stream parts ≡ true → (j : ℕ) × (j < length (filter (is_of_stream stream) parts)) × ((get_or (filter (is_of_stream stream) parts) j no_part).last ≡ true)
last_place stream parts has =
    let test : Part → Bool = λ (p : Part). p.stream == stream && p.last in
    let found = weight_of_member (λ (p : Part). one_if (test p)) parts no_part (any_counts test parts has) in
    let is = and_parts ((found.0).stream == stream) (found.0).last (is_true (test found.0) found.2) in
    let place = place_of stream parts found.0 found.1 (eqb-true (found.0).stream stream is.0) in
    (place.0, place.1, ap (λ (p : Part). p.last) place.2 ∙ is.1)

-- ---- the step

module _ {H : Type 0} (reply_of : List ℕ → Request → Reply) (shape : Shape) (s : State (Option (Parcel H)) FabricView) (holds : FabricHolds reply_of shape s) (id : ℕ) (v : FabricView) (c : Ledger) (carried : List (ℕ × Option (Parcel H))) (at : get_elem? s.views id ≡ some v)
    (item stream run_word part_word : ℕ) (main : HasPopped v c item) (engine : role_in shape v.seat ≡ 0) (there : HasItem shape (1 + v.seat) item)
    (told : tag_said (1 + v.seat) v item stream) (said : run_said (1 + v.seat) v item run_word) (said_part : part_said (1 + v.seat) v item part_word) where
  abbrev queue : ℕ
  queue = 1 + v.seat

  abbrev core : Core
  core = holds.core

  abbrev core' : Core
  core' = after_step core (Settle v.seat queue item stream)

  abbrev word : Place → ℕ
  word = word_in shape s.words

  abbrev it : Item
  it = item_of core queue item

  abbrev note : Note
  note = Received (part_named stream part_word)

  abbrev c' : Ledger
  c' = record (with_note note 2 c) { popped = [] }

  abbrev u : FabricView
  u = with_received item stream part_word (numbers_of run_word) c v

  back : queue ≢ 0
  back is = absurd (omega (arith, is))

  role : role_of core v.seat ≡ 0
  role = ap (λ (sh : Shape). role_in sh v.seat) holds.shaped ∙ engine

  ledger_true : IsTrueLedger core holds.popped c
  ledger_true = own_ledger core holds.popped s.views id v c at main.only holds.views.lists

  lists_are : c.lists ≡ seat_of core v.seat
  lists_are = ledger_true.lists ∙ ap (seat_of core) main.number

  popped_is : holds.popped v.seat ≡ item ∷ []
  popped_is = sym (ap holds.popped main.number) ∙ ledger_true.popped_item (ap (role_of core) main.number ∙ role) ∙ main.one

  is_popped : IsPopped core v.seat item
  is_popped = (subst (λ (xs : List ℕ). Each (IsPopped core v.seat) xs) popped_is (holds.keeps.order.pops v.seat)).0

  -- a seat without works has what it popped in hand
  mine : Holds (held_at queue) item v
  mine =
      let own_queue : emptied_by shape c.seat ≡ queue = ap (emptied_by shape) main.number ∙ ap (λ (b : Bool). cond b (1 + v.seat) 0) (eq-eqb (role_in shape v.seat) 0 engine) in
      let here : popped_at shape queue (is_number item) v ≡ (is_number item item + 0) + 0 =
      ap (weigh (λ (d : Ledger). cond {A = ℕ} (emptied_by shape d.seat == queue) (weigh (is_number item) d.popped) 0)) main.only
      ∙ ap (λ (b : Bool). cond {A = ℕ} b (weigh (is_number item) c.popped) 0 + 0) (eq-eqb (emptied_by shape c.seat) queue own_queue)
      ∙ ap (λ (xs : List ℕ). weigh (is_number item) xs + 0) main.one in
      omega (arith, here, is_number_same item, (holds.views.idle id v at main.workless).items queue (is_number item))

  tag : word (Tag queue item) ≡ stream
  tag = holds.notes.kept_tags queue there.in_queues id v at item there.in_items mine stream (told, inl back)

  item_shown : ShowsItem word queue item it
  item_shown = holds.shows.items queue item (subst (λ (sh : Shape). HasItem sh queue item) (sym holds.shaped) there)

  tag_is : it.tag ≡ stream
  tag_is = sym item_shown.tag ∙ tag

  nonzero : stream ≢ 0
  nonzero none = is_popped.tagged (tag_is ∙ none)

  run_word_is : word (RunWord queue item) ≡ run_word
  run_word_is = holds.notes.runs queue there.in_queues id v at item there.in_items mine run_word said

  part_word_is : word (PartWord queue item) ≡ part_word
  part_word_is = holds.notes.parts queue there.in_queues id v at item there.in_items mine part_word said_part

  part_is : it.part ≡ part_word
  part_is = sym item_shown.part ∙ part_word_is

  may : MaySettle core v.seat queue item stream
  may = Receives role refl is_popped.hand

  note_is : settled_note (role_of core v.seat == 0) queue stream it ≡ note
  note_is = received_back (role_of core v.seat == 0) queue stream it (eq-eqb (role_of core v.seat) 0 role) back ∙ ap (λ (p : ℕ). Received (part_named stream p)) part_is

  ledger : IsNoted v c c' note (Holding ∷ Holding ∷ [])
  ledger = record { only = main.only; number = main.number; seat = refl; lists = refl; refusals = refl; more = 2; opened = refl; works_more = omega (arith, ap (length {A = Work}) main.workless) }

  one : NotesOne core core' v.seat note
  one = notes_one reply_of shape s holds id v carried at queue item stream run_word there tag nonzero run_word_is may note note_is (λ l. refl)

  abbrev popped' : ℕ → List ℕ
  popped' k = cond (k == v.seat) [] (holds.popped k)

  none_popped : popped' v.seat ≡ []
  none_popped = ap (λ (b : Bool). cond b [] (holds.popped v.seat)) (eq-eqb v.seat v.seat refl)

  popped_others : (k : ℕ) → k ≢ v.seat → popped' k ≡ holds.popped k
  popped_others k ne = ap (λ (b : Bool). cond b [] (holds.popped k)) (ne_eqb k v.seat ne)

  order : PartsInOrder popped' holds.armed core'
  order = settle_in_order holds.popped popped' holds.armed core holds.keeps.sound holds.keeps.order v.seat item stream tag_is (record { before = popped_is; after = none_popped; others = popped_others })

  -- ---- lists but that of received parts stay

  same : {X : Type 0} (list : SeatLists → X) → ((l : SeatLists) → list (noted note l) ≡ list l) → (k : ℕ) → list (seat_of core' k) ≡ list (seat_of core k)
  same list stays k = same_field core core' v.seat note one list stays k

  work_kept : (other : ℕ) (arms : List ArmNote) (w : Work) → KnowsWork core holds.armed other arms w → KnowsWork core' holds.armed other arms w
  work_kept other arms (Drawn n) old = record { drew = omega (arith, old.drew, ap (times n) (same drawn (λ l. refl) other)); unposted = ap (times n) (same posted (λ l. refl) other) ∙ old.unposted }
  work_kept other arms (Posted n i) old = record {
    was_posted = omega (arith, old.was_posted, ap (times n) (same posted (λ l. refl) other));
    uncancelled = ap (times n) (same cancelled (λ l. refl) other) ∙ old.uncancelled;
    unabandoned = ap (times n) (same abandoned (λ l. refl) other) ∙ old.unabandoned;
    arm = old.arm;
  }
  work_kept other arms (Taken n poster parts) old = record {
    took = omega (arith, old.took, ap (times n) (same taken (λ l. refl) other));
    unclosed = ap (times n) (same closed (λ l. refl) other) ∙ old.unclosed;
    to = omega (arith, old.to, ap (times n) (same posted (λ l. refl) poster));
    parts_out = ap (weigh (λ (p : Part). one_if (is_of_stream n p))) (same sent (λ l. refl) other) ∙ old.parts_out;
    unfinished = ap (has_last n) (same sent (λ l. refl) other) ∙ old.unfinished;
    nothing = old.nothing;
  }
  work_kept other arms (Sending n poster parts last i) old = record {
    took = omega (arith, old.took, ap (times n) (same taken (λ l. refl) other));
    unclosed = ap (times n) (same closed (λ l. refl) other) ∙ old.unclosed;
    to = omega (arith, old.to, ap (times n) (same posted (λ l. refl) poster));
    parts_out = ap (weigh (λ (p : Part). one_if (is_of_stream n p))) (same sent (λ l. refl) other) ∙ old.parts_out;
    finished = ap (has_last n) (same sent (λ l. refl) other) ∙ old.finished;
    one = old.one;
  }
  work_kept other arms Holding old = tt

  works' : WorksShown core' holds.armed (set s.views id u)
  works' =
      let old = holds.views.works in
      record {
        draws = keyed_step FabricView draw_at (ShowsWorks draw_weight core holds.armed) (ShowsWorks draw_weight core' holds.armed) s.views id v u at
            (λ key. omega (arith, old.draws.once key))
            (λ key has. absurd (omega (arith, has)))
            (λ key zero y has shown.
            each_gives (λ (w : Work). 1 ≤ draw_weight key w → KnowsWork core holds.armed y.seat y.arms w) (λ (w : Work). 1 ≤ draw_weight key w → KnowsWork core' holds.armed y.seat y.arms w) y.works
            (λ w was is. work_kept y.seat y.arms w (was is)) shown)
            old.draws;
        takes = keyed_step FabricView take_at (ShowsWorks take_weight core holds.armed) (ShowsWorks take_weight core' holds.armed) s.views id v u at
            (λ key. omega (arith, old.takes.once key))
            (λ key has. absurd (omega (arith, has)))
            (λ key zero y has shown.
            each_gives (λ (w : Work). 1 ≤ take_weight key w → KnowsWork core holds.armed y.seat y.arms w) (λ (w : Work). 1 ≤ take_weight key w → KnowsWork core' holds.armed y.seat y.arms w) y.works
            (λ w was is. work_kept y.seat y.arms w (was is)) shown)
            old.takes;
      }

  -- what was received goes on to be
  received_before : (k key : ℕ) → has_last key (seat_of core' k).received ≡ false → has_last key (seat_of core k).received ≡ false
  received_before k key none =
      elim (cases_eq k v.seat) [
        | inl is ↦
            let now : (seat_of core' v.seat).received ≡ (seat_of core v.seat).received ++ part_named stream part_word ∷ [] = ap (λ (l : SeatLists). l.received) (noted_here core core' v.seat note one) in
            let here : has_last key (seat_of core' v.seat).received ≡ false = subst (λ (n : ℕ). has_last key (seat_of core' n).received ≡ false) is none in
            subst (λ (n : ℕ). has_last key (seat_of core n).received ≡ false) (sym is)
            (fewer_any (λ (p : Part). p.stream == key && p.last) (part_named stream part_word) (seat_of core v.seat).received (sym (ap (has_last key) now) ∙ here))
        | inr ne ↦ sym (ap (λ (l : SeatLists). has_last key l.received) (noted_else core core' v.seat note one k ne)) ∙ none
      ]

  in_work' : PostsInWork core' (set s.views id u)
  in_work' k key awaits =
      let before : AwaitsReply (seat_of core k) key = record {
        was_posted = omega (arith, awaits.was_posted, ap (times key) (same posted (λ l. refl) k));
        uncancelled = sym (ap (times key) (same cancelled (λ l. refl) k)) ∙ awaits.uncancelled;
        unabandoned = sym (ap (times key) (same abandoned (λ l. refl) k)) ∙ awaits.unabandoned;
        unreceived = received_before k key awaits.unreceived;
      } in
      omega (arith, holds.views.in_work k key before, sum_set (draw_at key) s.views id v u at, ap (weigh (draw_weight key)) main.workless)

  -- ---- the part is the next one, and none before it was the last

  armed : it.tag ≢ 0
  armed = is_popped.tagged

  posts : 1 ≤ by_seat posted core v.seat stream
  posts = subst (λ (n : ℕ). 1 ≤ by_seat posted core v.seat n) tag_is (holds.keeps.sound.parts.to_poster v.seat item armed)

  abbrev part : Part
  part = part_in core queue item

  sender : (k : ℕ) × Contains (seat_of core k).sent part
  sender = sent_somewhere core part (holds.keeps.sound.parts.under_way_was_sent v.seat item armed)

  takes : 1 ≤ by_seat taken core sender.0 stream
  takes = subst (λ (n : ℕ). 1 ≤ by_seat taken core sender.0 n) tag_is (sender_takes core holds.keeps.sound.parts sender.0 part sender.1)

  next : number_in part_word ≡ length (filter (is_of_stream stream) c.lists.received)
  next =
      sym (ap number_in part_is)
      ∙ popped_next holds.popped holds.armed core holds.keeps.sound holds.keeps.order v.seat sender.0 stream item posts takes popped_is tag_is
      ∙ ap (λ (l : SeatLists). length (filter (is_of_stream stream) l.received)) (sym lists_are)

  -- the popped part comes behind those that were received
  behind : course core v.seat stream (holds.popped v.seat) (holds.armed stream) ≢ received_parts core v.seat stream
  behind is =
      let test : Part → Bool = is_of_stream stream in
      let got : List Part = (seat_of core v.seat).received in
      let rest : List Part = line_parts core queue ++ map (part_in core queue) (holds.armed stream) in
      let all : all_parts core v.seat (holds.popped v.seat) (holds.armed stream) ≡ got ++ (part ∷ rest) = ap (λ (xs : List ℕ). got ++ (map (part_in core queue) xs ++ rest)) popped_is in
      let first : filter test (part ∷ rest) ≡ part ∷ filter test rest = rw (eq-eqb part.stream stream tag_is) refl in
      let long : filter test (got ++ (part ∷ rest)) ≡ filter test got ++ (part ∷ filter test rest) = filter-append test got (part ∷ rest) ∙ ap (λ (xs : List Part). filter test got ++ xs) first in
      absurd (omega (arith, ap (length {A = Part}) (sym is ∙ ap (filter test) all ∙ long), length-append (filter test got) (part ∷ filter test rest)))

  unfinished : has_last stream c.lists.received ≡ false
  unfinished = ap (λ (l : SeatLists). has_last stream l.received) lists_are ∙ (elim (cases_Bool (has_last stream (seat_of core v.seat).received)) [
    | inr none ↦ none
    | inl has ↦
        let found = last_place stream (seat_of core v.seat).received has in
        let whole : IsReceivedWhole core v.seat sender.0 stream (holds.popped v.seat) (holds.armed stream) =
        (last_ends_received holds.popped holds.armed core holds.keeps.sound holds.keeps.order v.seat sender.0 stream posts takes found.0 found.1 found.2).1 in
        absurd (behind whole.none)
  ])

  pub receives : PartComes reply_of shape s holds id v c carried item stream part_word (numbers_of run_word)
  receives = record {
    was = tag;
    parcels = parcels reply_of shape s holds id v carried at queue item stream run_word there tag nonzero run_word_is may note note_is (λ l. refl);
    reply = subst (λ (p : ℕ). IsReplyPart reply_of stream p (parcels reply_of shape s holds id v carried at queue item stream run_word there tag nonzero run_word_is may note note_is (λ l. refl))) part_word_is
        (part_of_reply reply_of holds.records queue stream (word (PartWord queue item)) _ back (contents reply_of shape s holds id v carried at queue item stream run_word there tag nonzero run_word_is may note note_is (λ l. refl)));
    own = omega (arith, posts, ap (λ (l : SeatLists). times stream l.posted) lists_are);
    next = next;
    unfinished = unfinished;
    comes = comes reply_of shape s holds id v carried at queue item stream run_word there tag nonzero run_word_is may note note_is (λ l. refl) c c' Holding (Holding ∷ []) v.records ledger
        popped' holds.armed (λ is. none_popped) popped_others order
        (kept_by_holder reply_of shape s holds id v carried at queue item stream run_word there tag nonzero run_word_is may note note_is (λ l. refl) c c' Holding (Holding ∷ []) v.records ledger mine)
        works' (postings reply_of shape s holds id v carried at queue item stream run_word there tag nonzero run_word_is may note note_is (λ l. refl) v (holds.views.records_known id v at)) (λ k. omega arith) in_work';
  }

pub receive : (H : Type 0) → ReceiveLaw H
receive H reply_of shape s holds id v c carried at item stream run_word part_word main engine there told said said_part =
    receives reply_of shape s holds id v c carried at item stream run_word part_word main engine there told said said_part
