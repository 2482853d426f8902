-- A worker takes back the part that it armed and hasn't pushed.
use Rattle.std.proofs.Common.{ℕ, ◌+◌, ◌≡◌, ◌≢◌, ◌≤◌, ◌==◌, inl, inr, Bool, List, [], ◌∷◌, length, set, refl, sym, ap, ◌∙◌, subst, arith}
use Rattle.std.specs.Prelude.{Option}
use Rattle.std.proofs.lemmas.Bool.{cases_eq, ne_eqb}
use mathlib.Core.Option.{some}
use lib.ListN.{get_elem?}
use Rattle.atomic_table.specs.Table.{State}
use Rattle.port_message.specs.Words.{numbers_of}
use Rattle.request_context.specs.declared.piece.Parcel.{Parcel}
use Rattle.unit_model.specs.ByRole.{SeatByRole}
use Rattle.unit_model.specs.Core.{item_of, role_of, seat_of}
use Rattle.unit_model.specs.Effects.{after_step, settled_note}
use Rattle.unit_model.specs.PartOrder.{Each, IsUnpushed, PartsInOrder, Puts}
use Rattle.unit_model.specs.Premises.{Closes, IsInHand, MaySettle}
use Rattle.unit_model.specs.Sharing.{Holds}
use Rattle.unit_model.specs.Weights.{weigh, is_number, times}
use Rattle.unit_model.specs.declared.machine.Core.{Core}
use Rattle.unit_model.specs.declared.machine.Item.{Item}
use Rattle.unit_model.specs.declared.machine.Note.{Note}
use Rattle.unit_model.specs.declared.machine.Note.TheVariants.{Closed}
use Rattle.unit_model.specs.declared.machine.Step.TheVariants.{Settle}
use Rattle.unit_model.specs.declared.shape.Shape.{Shape}
use Rattle.unit_model.proofs.ListPremises.{holder_sent}
use Rattle.unit_model.proofs.PartOrderOthers.{close_in_order}
use Rattle.unit_model.proofs.PartPoints.{taken_some}
use Rattle.unit_model.proofs.StepFacts.{closed_back}
use Rattle.unit_model.proofs.Views.{sum_set}
use Rattle.unit_model.proofs.Weights.{is_number_same}
use Rattle.unit_types.specs.declared.message.Reply.{Reply}
use Rattle.unit_types.specs.declared.message.Request.{Request}
use Rattle.fabric_words.specs.Offsets.{word_in}
use Rattle.fabric_words.specs.Places.{HasItem}
use Rattle.fabric_words.specs.Shown.{ShowsItem}
use Rattle.fabric_words.specs.declared.place.Place.{Place}
use Rattle.fabric_words.specs.declared.place.Place.TheVariants.{PartWord, RunWord, Tag}
use Rattle.fabric_rule.specs.Contents.{IsReplyPart}
use Rattle.fabric_rule.specs.FrameLaws.{NotesOne}
use Rattle.fabric_rule.specs.Parts.{KnowsSending, KnowsWork, PostsInWork, ShowsWorks, WorksShown}
use Rattle.fabric_rule.specs.Rule.{FabricHolds}
use Rattle.fabric_rule.specs.Settling.{CloseLaw, PartReturns, with_closed}
use Rattle.fabric_rule.specs.Steps.{HasLists, with_note}
use Rattle.fabric_rule.specs.Views.{draw_at, draw_weight, held_at, part_said, run_said, take_at, take_weight}
use Rattle.fabric_rule.specs.declared.view.Ledger.{Ledger}
use Rattle.fabric_rule.specs.declared.view.FabricView.{FabricView}
use Rattle.fabric_rule.specs.declared.view.Work.{Work}
use Rattle.fabric_rule.specs.declared.view.Work.TheVariants.{Sending, Holding}
use Rattle.fabric_rule.proofs.Hands.{in_hand}
use Rattle.fabric_rule.proofs.KeyedSteps.{keyed_step}
use Rattle.fabric_rule.proofs.Noting.{work_noted, work_stream}
use Rattle.fabric_rule.proofs.Noting.{awaited}
use Rattle.fabric_rule.proofs.ReceiveSteps.{part_of_reply}
use Rattle.fabric_rule.proofs.Rearming.{armed_now, drawn_rearmed, puts_now}
use Rattle.fabric_rule.proofs.SettleSteps.{IsNoted, comes, contents, kept_by_holder, notes_one, parcels, postings}
use Rattle.fabric_rule.proofs.Sums.{each_gives}
use Rattle.fabric_rule.proofs.TakeSteps.{drawer_apart, taken_stream}

module _ {H : Type 0} (reply_of : List ℕ → Request → Reply) (shape : Shape) (s : State (Option (Parcel H)) FabricView) (holds : FabricHolds reply_of shape s) (id : ℕ) (v : FabricView) (c : Ledger) (carried : List (ℕ × Option (Parcel H))) (at : get_elem? s.views id ≡ some v)
    (item stream poster parts : ℕ) (last : Bool) (run_word part_word : ℕ) (main : HasLists v c (Sending stream poster parts last item ∷ [])) (there : HasItem shape (1 + poster) item)
    (mine : Holds (held_at (1 + poster)) item v) (said : run_said (1 + poster) v item run_word) (said_part : part_said (1 + poster) v item part_word) where
  abbrev queue : ℕ
  queue = 1 + poster

  abbrev core : Core
  core = holds.core

  abbrev core' : Core
  core' = after_step core (Settle v.seat queue item stream)

  abbrev word : Place → ℕ
  word = word_in shape s.words

  abbrev it : Item
  it = item_of core queue item

  abbrev note : Note
  note = Closed stream

  abbrev c' : Ledger
  c' = with_note note 1 c

  abbrev u : FabricView
  u = with_closed item stream poster (numbers_of run_word) c v

  back : queue ≢ 0
  back is = absurd (omega (arith, is))

  has_take : (key : ℕ) → take_at key v ≡ is_number key stream
  has_take key = omega (arith, ap (weigh (take_weight key)) main.has)

  no_draw : (key : ℕ) → draw_at key v ≡ 0
  no_draw key = omega (arith, ap (weigh (draw_weight key)) main.has)

  knows : KnowsSending (seat_of core v.seat) (seat_of core poster) holds.armed stream parts last item
  knows = (subst (λ (ws : List Work). Each (λ (w : Work). 1 ≤ take_weight stream w → KnowsWork core holds.armed v.seat v.arms w) ws) main.has
      (holds.views.works.takes.each stream id v at (omega (arith, has_take stream, is_number_same stream)))).0 (omega (arith, is_number_same stream))

  -- who took is a worker
  worker : role_of core v.seat ≡ 1
  worker = elim (cases_eq (role_of core v.seat) 1) [
    | inl is ↦ is
    | inr ne ↦ absurd (omega (arith, knows.took, ap (times stream) ((holds.keeps.seats v.seat).worker ne).0))
  ]

  by_role : SeatByRole 1 (seat_of core v.seat)
  by_role = subst (λ (r : ℕ). SeatByRole r (seat_of core v.seat)) worker (holds.keeps.seats v.seat)

  nonzero : stream ≢ 0
  nonzero = taken_some core holds.keeps.sound.streams v.seat stream knows.took

  unpushed : IsUnpushed core poster stream item
  unpushed = (subst (λ (xs : List ℕ). Each (IsUnpushed core poster stream) xs) knows.one (holds.keeps.order.arms poster stream knows.to)).0

  there' : HasItem core.shape queue item
  there' = subst (λ (sh : Shape). HasItem sh queue item) (sym holds.shaped) there

  item_shown : ShowsItem word queue item it
  item_shown = holds.shows.items queue item there'

  tag : word (Tag queue item) ≡ stream
  tag = item_shown.tag ∙ unpushed.tag

  run_word_is : word (RunWord queue item) ≡ run_word
  run_word_is = holds.notes.runs queue there.in_queues id v at item there.in_items mine run_word said

  part_word_is : word (PartWord queue item) ≡ part_word
  part_word_is = holds.notes.parts queue there.in_queues id v at item there.in_items mine part_word said_part

  hand : IsInHand core v.seat queue item
  hand = in_hand core s.views id v at holds.views.items queue item there'.in_queues mine

  may : MaySettle core v.seat queue item stream
  may = Closes worker back hand (holder_sent core holds.keeps.sound v.seat queue item stream worker back hand unpushed.tag nonzero)

  note_is : settled_note (role_of core v.seat == 0) queue stream it ≡ note
  note_is = closed_back (role_of core v.seat == 0) queue stream it (ne_eqb (role_of core v.seat) 0 (λ is. absurd (omega (arith, is, worker)))) back

  ledger : IsNoted v c c' note (Holding ∷ Holding ∷ [])
  ledger = record { only = main.main.only; number = main.main.number; seat = refl; lists = refl; refusals = refl; more = 1; opened = refl; works_more = omega (arith, ap (length {A = Work}) main.has) }

  one : NotesOne core core' v.seat note
  one = notes_one reply_of shape s holds id v carried at queue item stream run_word there tag nonzero run_word_is may note note_is (λ l. refl)

  abbrev armed' : ℕ → List ℕ
  armed' = armed_now holds.armed stream []

  puts : Puts holds.armed armed' stream (item ∷ []) []
  puts = puts_now holds.armed stream (item ∷ []) [] knows.one

  order : PartsInOrder holds.popped armed' core'
  order = close_in_order holds.popped holds.armed armed' core holds.keeps.sound holds.keeps.order v.seat poster item stream worker hand unpushed.tag nonzero puts

  works' : WorksShown core' armed' (set s.views id u)
  works' =
      let old = holds.views.works in
      record {
        draws = keyed_step FabricView draw_at (ShowsWorks draw_weight core holds.armed) (ShowsWorks draw_weight core' armed') s.views id v u at
            (λ key. omega (arith, old.draws.once key))
            (λ key has. absurd (omega (arith, has)))
            (λ key zero y has shown.
            each_gives (λ (w : Work). 1 ≤ draw_weight key w → KnowsWork core holds.armed y.seat y.arms w) (λ (w : Work). 1 ≤ draw_weight key w → KnowsWork core' armed' y.seat y.arms w) y.works
            (λ w was is. drawn_rearmed core' holds.armed armed' y.seat y.arms key w is (work_noted core core' v.seat note one holds.armed holds.armed y.seat y.arms w (inr (drawer_apart core holds.armed v.seat y.seat y.arms key w by_role is (was is))) refl (was is)))
            shown)
            old.draws;
        takes = keyed_step FabricView take_at (ShowsWorks take_weight core holds.armed) (ShowsWorks take_weight core' armed') s.views id v u at
            (λ key. omega (arith, old.takes.once key))
            (λ key has. absurd (omega (arith, has)))
            (λ key zero y has shown.
            let other : key ≢ stream = λ is. absurd (omega (arith, zero, has_take key, ap (λ (n : ℕ). is_number n stream) is, is_number_same stream)) in
            each_gives (λ (w : Work). 1 ≤ take_weight key w → KnowsWork core holds.armed y.seat y.arms w) (λ (w : Work). 1 ≤ take_weight key w → KnowsWork core' armed' y.seat y.arms w) y.works
            (λ w was is. work_noted core core' v.seat note one holds.armed armed' y.seat y.arms w (inl (λ same. other (sym (taken_stream key w is) ∙ same))) (puts.others (work_stream w) (λ same. other (sym (taken_stream key w is) ∙ same))) (was is))
            shown)
            old.takes;
      }

  in_work' : PostsInWork core' (set s.views id u)
  in_work' k key awaits =
      omega (arith, holds.views.in_work k key (awaited core core' v.seat note one (λ l. (refl, refl, refl, refl)) k key awaits), sum_set (draw_at key) s.views id v u at, no_draw key)

  popped_is : role_of core v.seat ≡ 0 → holds.popped v.seat ≡ c'.popped
  popped_is engine = absurd (omega (arith, engine, worker))

  pub closes : PartReturns reply_of shape s holds id v c carried item stream poster part_word (numbers_of run_word)
  closes = record {
    was = tag;
    parcels = parcels reply_of shape s holds id v carried at queue item stream run_word there tag nonzero run_word_is may note note_is (λ l. refl);
    reply = subst (λ (p : ℕ). IsReplyPart reply_of stream p (parcels reply_of shape s holds id v carried at queue item stream run_word there tag nonzero run_word_is may note note_is (λ l. refl))) part_word_is
        (part_of_reply reply_of holds.records queue stream (word (PartWord queue item)) _ back (contents reply_of shape s holds id v carried at queue item stream run_word there tag nonzero run_word_is may note note_is (λ l. refl)));
    comes = comes reply_of shape s holds id v carried at queue item stream run_word there tag nonzero run_word_is may note note_is (λ l. refl) c c' Holding (Holding ∷ []) v.records ledger
        holds.popped armed' popped_is (λ k ne. refl) order
        (kept_by_holder reply_of shape s holds id v carried at queue item stream run_word there tag nonzero run_word_is may note note_is (λ l. refl) c c' Holding (Holding ∷ []) v.records ledger mine)
        works' (postings reply_of shape s holds id v carried at queue item stream run_word there tag nonzero run_word_is may note note_is (λ l. refl) v (holds.views.records_known id v at)) (λ k. omega arith) in_work';
  }

pub close : (H : Type 0) → CloseLaw H
close H reply_of shape s holds id v c carried at item stream poster parts last run_word part_word main there mine said said_part =
    closes reply_of shape s holds id v c carried at item stream poster parts last run_word part_word main there mine said said_part
