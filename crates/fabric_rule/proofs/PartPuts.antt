-- A worker pushes the part that it armed.
use Rattle.std.proofs.Common.{ℕ, ◌+◌, ◌≡◌, ◌≢◌, ◌≤◌, ◌==◌, inl, Bool, true, false, cond, if◌then◌else◌, List, [], ◌∷◌, length, set, refl, sym, ap, ◌∙◌, subst, arith}
use Rattle.std.specs.Prelude.{Option}
use Rattle.std.proofs.lemmas.Bool.{ne_eqb}
use mathlib.Core.Option.{some}
use lib.ListN.{get_elem?}
use Rattle.atomic_table.specs.Table.{State}
use Rattle.app_queue.specs.declared.side.Side.TheVariants.{Line}
use Rattle.request_context.specs.declared.piece.Parcel.{Parcel}
use Rattle.unit_model.specs.Core.{item_of, role_of, seat_of}
use Rattle.unit_model.specs.Effects.{after_step}
use Rattle.unit_model.specs.PartOrder.{Each, Puts}
use Rattle.unit_model.specs.Premises.{Fills}
use Rattle.unit_model.specs.Shapes.{role_in}
use Rattle.unit_model.specs.Sharing.{Holds}
use Rattle.unit_model.specs.Weights.{weigh, is_number}
use Rattle.unit_model.specs.declared.machine.Core.{Core}
use Rattle.unit_model.specs.declared.machine.Seat.{Seat as SeatLists}
use Rattle.unit_model.specs.declared.machine.Step.TheVariants.{Push}
use Rattle.unit_model.specs.declared.shape.Shape.{Shape}
use Rattle.unit_model.proofs.PartOrderBack.{push_in_order}
use Rattle.unit_model.proofs.StreamSteps.{drawn_some}
use Rattle.unit_model.proofs.Weights.{is_number_same}
use Rattle.unit_types.specs.declared.message.Reply.{Reply}
use Rattle.unit_types.specs.declared.message.Request.{Request}
use Rattle.fabric_words.specs.Offsets.{word_in}
use Rattle.fabric_words.specs.Places.{HasItem}
use Rattle.fabric_words.specs.declared.place.Place.TheVariants.{Tag}
use Rattle.fabric_rule.specs.FrameLaws.{SameLists}
use Rattle.fabric_rule.specs.Parts.{AwaitsReply, KnowsSending, KnowsWork, PostsInWork, ShowsWorks, WorksShown}
use Rattle.fabric_rule.specs.Rule.{FabricHolds}
use Rattle.fabric_rule.specs.Sending.{PushPartLaw, queue_to, with_part_put, work_after, work_armed}
use Rattle.fabric_rule.specs.Steps.{MayPut}
use Rattle.fabric_rule.specs.Views.{draw_at, draw_weight, held_at, tag_said, take_at, take_weight}
use Rattle.fabric_rule.specs.declared.sending.PartOut.{PartOut}
use Rattle.fabric_rule.specs.declared.view.ArmNote.{ArmNote}
use Rattle.fabric_rule.specs.declared.view.FabricView.{FabricView}
use Rattle.fabric_rule.specs.declared.view.Work.{Work}
use Rattle.fabric_rule.specs.declared.view.Work.TheVariants.{Taken as TakenWork, Holding}
use Rattle.fabric_rule.proofs.EntrySteps.{OfWorks, hand, push_left, pushes}
use Rattle.fabric_rule.proofs.KeyedSteps.{keyed_step}
use Rattle.fabric_rule.proofs.ListFrames.{same_seat, work_same}
use Rattle.fabric_rule.proofs.Noting.{work_stream}
use Rattle.fabric_rule.proofs.Rearming.{armed_now, drawn_rearmed, puts_now, work_rearmed}
use Rattle.fabric_rule.proofs.Sums.{each_gives, sum_stays}
use Rattle.fabric_rule.proofs.TakeSteps.{taken_stream}

-- ---- what is left to do

-- the work by whether the part was the last
abbrev left_by : PartOut → Bool → Work
left_by part last = if last then Holding else TakenWork part.stream part.poster (part.number + 1)

none_drawn : (part : PartOut) (key : ℕ) (last : Bool) → draw_weight key (left_by part last) ≡ 0
none_drawn part key true = refl
none_drawn part key false = refl

fewer_taken : (part : PartOut) (key : ℕ) (last : Bool) → take_weight key (left_by part last) ≤ is_number key part.stream
fewer_taken part key true = omega arith
fewer_taken part key false = omega arith

knows_left : (core : Core) (armed armed' : ℕ → List ℕ) (seat : ℕ) (arms : List ArmNote) (part : PartOut) (item : ℕ) (last : Bool) → part.last ≡ last → armed' part.stream ≡ []
    → KnowsSending (seat_of core seat) (seat_of core part.poster) armed part.stream (part.number + 1) part.last item → KnowsWork core armed' seat arms (left_by part last)
knows_left core armed armed' seat arms part item true is none old = tt
knows_left core armed armed' seat arms part item false is none old =
    record { took = old.took; unclosed = old.unclosed; to = old.to; parts_out = old.parts_out; unfinished = old.finished ∙ is; nothing = none }

-- ---- the step

module _ {H : Type 0} (reply_of : List ℕ → Request → Reply) (shape : Shape) (s : State (Option (Parcel H)) FabricView) (holds : FabricHolds reply_of shape s) (id : ℕ) (v : FabricView) (at : get_elem? s.views id ≡ some v) (worker : role_in shape v.seat ≡ 1)
    (part : PartOut) (item place : ℕ) (has : v.works ≡ work_armed part item ∷ []) (there : HasItem shape (queue_to part) item) (mine : Holds (held_at (queue_to part)) item v) (said : tag_said (queue_to part) v item part.stream) (may : MayPut shape s.words v (queue_to part) Line place) where
  abbrev queue : ℕ
  queue = queue_to part

  abbrev stream : ℕ
  stream = part.stream

  abbrev core : Core
  core = holds.core

  abbrev core' : Core
  core' = after_step core (Push v.seat queue item place)

  abbrev u : FabricView
  u = with_part_put part item place v

  abbrev armed' : ℕ → List ℕ
  armed' = armed_now holds.armed stream []

  role : role_of core v.seat ≡ 1
  role = ap (λ (sh : Shape). role_in sh v.seat) holds.shaped ∙ worker

  fills : Fills core v.seat queue
  fills = record { role = omega (arith, role); side = ne_eqb (role_of core v.seat) 0 (λ is. absurd (omega (arith, is, role))) ∙ sym (ne_eqb queue 0 (λ is. absurd (omega (arith, is)))) }

  has_take : (key : ℕ) → take_at key v ≡ is_number key stream + 0
  has_take key = ap (weigh (take_weight key)) has

  none_draws : (key : ℕ) → draw_at key v ≡ 0
  none_draws key = ap (weigh (draw_weight key)) has

  draws_none : (key : ℕ) → draw_at key u ≡ 0
  draws_none key = omega (arith, none_drawn part key part.last)

  knows : KnowsSending (seat_of core v.seat) (seat_of core part.poster) holds.armed stream (part.number + 1) part.last item
  knows = (subst (λ (ws : List Work). Each (λ (w : Work). 1 ≤ take_weight stream w → KnowsWork core holds.armed v.seat v.arms w) ws) has
      (holds.views.works.takes.each stream id v at (omega (arith, has_take stream, is_number_same stream)))).0 (omega (arith, is_number_same stream))

  some_stream : stream ≢ 0
  some_stream = drawn_some core part.poster stream holds.keeps.sound.streams (omega (arith, knows.to, holds.keeps.sound.streams.posted_by_drawer part.poster stream))

  tag : word_in shape s.words (Tag queue item) ≡ stream
  tag = holds.notes.kept_tags queue there.in_queues id v at item there.in_items mine stream (said, inl (λ is. absurd (omega (arith, is))))

  tagged : word_in shape s.words (Tag queue item) ≢ 0
  tagged none = some_stream (sym tag ∙ none)

  tag_is : (item_of core queue item).tag ≡ stream
  tag_is = sym (holds.shows.items queue item (subst (λ (sh : Shape). HasItem sh queue item) (sym holds.shaped) there)).tag ∙ tag

  puts : Puts holds.armed armed' stream (item ∷ []) []
  puts = puts_now holds.armed stream (item ∷ []) [] knows.one

  abbrev left : List Work
  left = work_after part ∷ []

  busy : left ≢ []
  busy is = absurd (cc is)

  same : SameLists core core'
  same = (push_left reply_of shape s holds id v at left busy queue item place there mine may fills tagged).leaves.lists

  works' : WorksShown core' armed' (set s.views id u)
  works' =
      let old = holds.views.works in
      record {
        draws = keyed_step FabricView draw_at (ShowsWorks draw_weight core holds.armed) (ShowsWorks draw_weight core' armed') s.views id v u at
            (λ key. omega (arith, old.draws.once key, draws_none key))
            (λ key some_there. absurd (omega (arith, some_there, draws_none key)))
            (λ key none y some_there shown.
            each_gives (λ (w : Work). 1 ≤ draw_weight key w → KnowsWork core holds.armed y.seat y.arms w) (λ (w : Work). 1 ≤ draw_weight key w → KnowsWork core' armed' y.seat y.arms w) y.works
            (λ w was is. drawn_rearmed core' holds.armed armed' y.seat y.arms key w is (work_same core core' holds.armed same y.seat y.arms w (was is)))
            shown)
            old.draws;
        takes = keyed_step FabricView take_at (ShowsWorks take_weight core holds.armed) (ShowsWorks take_weight core' armed') s.views id v u at
            (λ key. omega (arith, old.takes.once key, has_take key, fewer_taken part key part.last))
            (λ key some_there. (
              (λ is. knows_left core' holds.armed armed' v.seat v.arms part item part.last refl puts.after
                  (subst (λ (l : SeatLists). KnowsSending l (seat_of core' part.poster) holds.armed stream (part.number + 1) part.last item) (sym (same_seat core core' same v.seat))
                  (subst (λ (l : SeatLists). KnowsSending (seat_of core v.seat) l holds.armed stream (part.number + 1) part.last item) (sym (same_seat core core' same part.poster)) knows))),
              tt,
            ))
            (λ key none y some_there shown.
            let other : key ≢ stream = λ is. absurd (omega (arith, none, has_take key, ap (λ (k : ℕ). is_number k stream) is, is_number_same stream)) in
            each_gives (λ (w : Work). 1 ≤ take_weight key w → KnowsWork core holds.armed y.seat y.arms w) (λ (w : Work). 1 ≤ take_weight key w → KnowsWork core' armed' y.seat y.arms w) y.works
            (λ w was is. work_rearmed core' holds.armed armed' y.seat y.arms w (puts.others (work_stream w) (λ this. other (sym (taken_stream key w is) ∙ this))) (work_same core core' holds.armed same y.seat y.arms w (was is)))
            shown)
            old.takes;
      }

  in_work' : PostsInWork core' (set s.views id u)
  in_work' engine key awaits =
      let before : AwaitsReply (seat_of core engine) key = subst (λ (l : SeatLists). AwaitsReply l key) (same_seat core core' same engine) awaits in
      omega (arith, holds.views.in_work engine key before, sum_stays (draw_at key) s.views id v u at (draws_none key ∙ sym (none_draws key)))

  pub of_works : OfWorks holds.popped armed' core' v u (set s.views id u)
  of_works = record {
    works = works';
    many = λ k. sym (ap (λ (l : List Work). cond {A = ℕ} (v.seat == k) (length l) 0) has);
    in_work = in_work';
    order = push_in_order holds.popped holds.armed armed' core holds.keeps.sound holds.keeps.order v.seat part.poster item place stream fills
        (hand reply_of shape s holds id v at left busy queue item place Line there mine may) tag_is some_stream puts;
  }

pub push_part : (H : Type 0) → PushPartLaw H
push_part H reply_of shape s holds id v carried at worker part item place has there mine said may =
    pushes reply_of shape s holds id v at (work_after part ∷ []) (busy reply_of shape s holds id v at worker part item place has there mine said may) (queue_to part) item place there mine may
    (fills reply_of shape s holds id v at worker part item place has there mine said may) (tagged reply_of shape s holds id v at worker part item place has there mine said may)
    (armed_now holds.armed part.stream []) (of_works reply_of shape s holds id v at worker part item place has there mine said may) carried
