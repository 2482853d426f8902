-- What a step leaves of lists and works, where no seat's lists change.
use Rattle.app_queue.specs.Arms.{Arm}
use Rattle.std.proofs.Common.{ℕ, zero, suc, ◌+◌, ◌/◌, ◌≡◌, ◌≤◌, ◌<◌, inl, inr, ⊎_elim, List, [], ◌∷◌, ◌++◌, set, refl, sym, ap, ◌∙◌, subst, arith, get_or}
use mathlib.Core.Option.{some, some-injective}
use lib.ListN.{get_elem?}
use Rattle.unit_model.specs.Core.{no_seat, seat_of}
use Rattle.unit_model.specs.PartOrder.{Each}
use Rattle.unit_model.specs.Shapes.{role_in}
use Rattle.unit_model.specs.StreamCounts.{by_all, posted}
use Rattle.unit_model.specs.Weights.{weigh, is_number, over_all, times}
use Rattle.unit_model.specs.declared.machine.Core.{Core}
use Rattle.unit_model.specs.declared.machine.Seat.{Seat as SeatLists}
use Rattle.unit_model.specs.declared.shape.Shape.{Shape}
use Rattle.unit_model.proofs.Views.{sum_set, sum_at}
use Rattle.fabric_words.specs.Places.{HasItem}
use Rattle.fabric_rule.specs.FrameLaws.{SameLists, SamePosts, PostsStayLaw, StreamsStayLaw, RecordsStayLaw, ListsStayLaw, ListsThereLaw, WorksStayLaw, CountedStayLaw, InWorkStayLaw, RecordsThereLaw}
use Rattle.fabric_rule.specs.Parts.{IsPosting, IsOwn, IsCause, IsRefused, IsTrueLedger, ShowsLists, KnowsDrawn, KnowsPosted, KnowsTaken, KnowsSending, KnowsWork, ShowsWorks, AwaitsReply, filled_in}
use Rattle.fabric_rule.specs.Views.{all_arms, arms_among, latest_arm, stream_of_arm, posts_at, lists_at, opens_at, works_at, draw_at, draw_weight, take_weight, records_at}
use Rattle.fabric_rule.specs.declared.cause.Cause.{Cause}
use Rattle.fabric_rule.specs.declared.cause.Cause.TheVariants.{NoChunks, NoItem, Worn}
use Rattle.fabric_rule.specs.declared.cause.Refusal.{Refusal}
use Rattle.fabric_rule.specs.declared.view.ArmNote.{ArmNote}
use Rattle.fabric_rule.specs.declared.view.Ledger.{Ledger}
use Rattle.fabric_rule.specs.declared.view.FabricView.{FabricView}
use Rattle.fabric_rule.specs.declared.view.Posting.{Posting}
use Rattle.fabric_rule.specs.declared.view.Work.{Work}
use Rattle.fabric_rule.specs.declared.view.Work.TheVariants.{Drawn, Posted, Taken, Sending, Holding}
use Rattle.fabric_rule.specs.Keyed.{Keyed}
use Rattle.fabric_rule.proofs.KeyedSteps.{keyed_step}
use Rattle.fabric_rule.proofs.Sums.{each_gives, sum_stays}
use Rattle.std.proofs.lemmas.Bool.{cases_lt}

pub same_seat : (core core' : Core) → SameLists core core' → (seat : ℕ) → seat_of core' seat ≡ seat_of core seat
same_seat core core' same seat = ap (λ (l : List SeatLists). get_or l seat no_seat) same.seats

pub same_posted : (core core' : Core) → SameLists core core' → SamePosts core core'
same_posted core core' same stream = ap (over_all (is_number stream) posted) same.seats

-- ---- refusals

pub cause_stays : (core core' : Core) → core'.shape ≡ core.shape → (seat stream : ℕ) → (IsOwn core seat stream → IsOwn core' seat stream) → (cause : Cause) → IsCause core seat stream cause → IsCause core' seat stream cause
cause_stays core core' shape seat stream own (NoChunks size seen) old = (old.0, own old.1)
cause_stays core core' shape seat stream own (NoItem place entry) old =
    let many : filled_in core'.shape seat ≡ filled_in core.shape seat = ap (λ (s : Shape). filled_in s seat) shape in
    (subst (λ (n : ℕ). entry / n + 1 ≡ place / n) (sym many) old.0, own old.1)
cause_stays core core' shape seat stream own (Worn place) old = (old.0, ⊎_elim (λ none. inl none) (λ mine. inr (own mine)) old.1)

-- ---- the lists of a number

own_same : (core core' : Core) → SameLists core core' → (seat stream : ℕ) → IsOwn core seat stream → IsOwn core' seat stream
own_same core core' same seat stream own = subst (λ (l : SeatLists). 1 ≤ times stream l.drawn + times stream l.taken) (sym (same_seat core core' same seat)) own

pub ledger_same : (core core' : Core) (popped : ℕ → List ℕ) → SameLists core core' → (c : Ledger) → IsTrueLedger core popped c → IsTrueLedger core' popped c
ledger_same core core' popped same c old = record {
  lists = old.lists ∙ sym (same_seat core core' same c.seat);
  refused = each_gives (IsRefused core c.seat) (IsRefused core' c.seat) c.refusals
      (λ (r : Refusal) is. cause_stays core core' same.shape c.seat r.stream (own_same core core' same c.seat r.stream) r.cause is)
      old.refused;
  popped_item = λ engine. old.popped_item (sym (ap (λ (s : Shape). role_in s c.seat) same.shape) ∙ engine);
}

pub lists_same : (core core' : Core) (popped : ℕ → List ℕ) → SameLists core core' → (key : ℕ) (y : FabricView) → ShowsLists core popped key y → ShowsLists core' popped key y
lists_same core core' popped same key y old =
    each_gives (λ (c : Ledger). c.seat ≡ key → IsTrueLedger core popped c) (λ (c : Ledger). c.seat ≡ key → IsTrueLedger core' popped c) y.ledgers (λ c mine is. ledger_same core core' popped same c (mine is)) old

pub lists_stay : ListsStayLaw
lists_stay core core' popped views id v u at same ledgers old =
    let as_many : (key : ℕ) → lists_at key u ≡ lists_at key v = λ key. ap (weigh (λ (c : Ledger). is_number key c.seat)) ledgers in
    keyed_step FabricView lists_at (ShowsLists core popped) (ShowsLists core' popped) views id v u at
    (λ key. omega (arith, as_many key, old.once key))
    (λ key has. subst (λ (l : List Ledger). Each (λ (c : Ledger). c.seat ≡ key → IsTrueLedger core' popped c) l) (sym ledgers)
    (lists_same core core' popped same key v (old.each key id v at (omega (arith, has, as_many key)))))
    (λ key none y has is. lists_same core core' popped same key y is)
    old

-- ---- works

pub work_same : (core core' : Core) (armed : ℕ → List ℕ) → SameLists core core' → (seat : ℕ) (arms : List ArmNote) (w : Work) → KnowsWork core armed seat arms w → KnowsWork core' armed seat arms w
work_same core core' armed same seat arms (Drawn stream) old = subst (λ (l : SeatLists). KnowsDrawn l stream) (sym (same_seat core core' same seat)) old
work_same core core' armed same seat arms (Posted stream item) old = subst (λ (l : SeatLists). KnowsPosted l arms stream item) (sym (same_seat core core' same seat)) old
work_same core core' armed same seat arms (Taken stream poster parts) old =
    subst (λ (l : SeatLists). KnowsTaken l (seat_of core' poster) armed stream parts) (sym (same_seat core core' same seat))
    (subst (λ (l : SeatLists). KnowsTaken (seat_of core seat) l armed stream parts) (sym (same_seat core core' same poster)) old)
work_same core core' armed same seat arms (Sending stream poster parts last item) old =
    subst (λ (l : SeatLists). KnowsSending l (seat_of core' poster) armed stream parts last item) (sym (same_seat core core' same seat))
    (subst (λ (l : SeatLists). KnowsSending (seat_of core seat) l armed stream parts last item) (sym (same_seat core core' same poster)) old)
work_same core core' armed same seat arms Holding old = tt

pub works_same : (weight : ℕ → Work → ℕ) (core core' : Core) (armed : ℕ → List ℕ) → SameLists core core' → (key : ℕ) (y : FabricView) → ShowsWorks weight core armed key y → ShowsWorks weight core' armed key y
works_same weight core core' armed same key y old =
    each_gives (λ (w : Work). 1 ≤ weight key w → KnowsWork core armed y.seat y.arms w) (λ (w : Work). 1 ≤ weight key w → KnowsWork core' armed y.seat y.arms w) y.works (λ w mine is. work_same core core' armed same y.seat y.arms w (mine is)) old

-- of the works of one weight
abbrev weighed : (ℕ → Work → ℕ) → ℕ → FabricView → ℕ
weighed weight key y = weigh (weight key) y.works

keyed_works : (weight : ℕ → Work → ℕ) (core core' : Core) (armed : ℕ → List ℕ) (views : List FabricView) (id : ℕ) (v u : FabricView) → get_elem? views id ≡ some v → SameLists core core' → u.seat ≡ v.seat → u.works ≡ v.works → u.arms ≡ v.arms
    → Keyed (weighed weight) (ShowsWorks weight core armed) views → Keyed (weighed weight) (ShowsWorks weight core' armed) (set views id u)
keyed_works weight core core' armed views id v u at same seat works arms old =
    let as_many : (key : ℕ) → weighed weight key u ≡ weighed weight key v = λ key. ap (weigh (weight key)) works in
    keyed_step FabricView (weighed weight) (ShowsWorks weight core armed) (ShowsWorks weight core' armed) views id v u at
    (λ key. omega (arith, as_many key, old.once key))
    (λ key has.
    let mine : ShowsWorks weight core' armed key v = works_same weight core core' armed same key v (old.each key id v at (omega (arith, has, as_many key))) in
    subst (λ (l : List Work). Each (λ (w : Work). 1 ≤ weight key w → KnowsWork core' armed u.seat u.arms w) l) (sym works)
    (subst (λ (n : ℕ). Each (λ (w : Work). 1 ≤ weight key w → KnowsWork core' armed n u.arms w) v.works) (sym seat)
    (subst (λ (l : List ArmNote). Each (λ (w : Work). 1 ≤ weight key w → KnowsWork core' armed v.seat l w) v.works) (sym arms) mine)))
    (λ key none y has is. works_same weight core core' armed same key y is)
    old

pub works_stay : WorksStayLaw
works_stay core core' armed views id v u at same seat works arms old = record {
  draws = keyed_works draw_weight core core' armed views id v u at same seat works arms old.draws;
  takes = keyed_works take_weight core core' armed views id v u at same seat works arms old.takes;
}

-- ---- sums

pub posts_stay : PostsStayLaw
posts_stay core core' views id v u at same arms old stream =
    sum_stays (posts_at stream) views id v u at (ap (λ (l : List ArmNote). weigh (λ (a : Arm). is_number stream a.stream) (arms_among 0 l)) arms)
    ∙ old stream ∙ sym (same stream)

pub records_stay : RecordsStayLaw
records_stay core core' records v u same kept old =
    subst (λ (l : List Posting). Each (IsPosting core' records) l) (sym kept)
    (each_gives (IsPosting core records) (IsPosting core' records) v.records (λ p is. record { same = is.same; was = omega (arith, is.was, same p.stream) }) old)

pub records_there : RecordsThereLaw
records_there core core' views id v u at posts kept old stream is =
    elim (cases_lt 0 (by_all posted core stream)) [
      | inl was ↦ omega (arith, old stream (omega (arith, was)), kept stream, sum_set (records_at stream) views id v u at)
      | inr none ↦ omega (arith, is, posts stream, none, sum_set (records_at stream) views id v u at, sum_at (records_at stream) views id v at)
    ]

pub counted_stay : CountedStayLaw
counted_stay views id v u at same old number = omega (arith, old number, same number, sum_set (opens_at number) views id v u at, sum_set (works_at number) views id v u at)

pub in_work_stay : InWorkStayLaw
in_work_stay core core' views id v u at same works old engine stream awaits =
    let before : AwaitsReply (seat_of core engine) stream = subst (λ (l : SeatLists). AwaitsReply l stream) (same_seat core core' same engine) awaits in
    omega (arith, old engine stream before, sum_stays (draw_at stream) views id v u at (ap (weigh (draw_weight stream)) works))

pub lists_there : ListsThereLaw
lists_there core core' views id v u at shape same old number lt =
    let lt_old : number < core.shape.engines + core.shape.workers = subst (λ (s : Shape). number < s.engines + s.workers) shape lt in
    omega (arith, old number lt_old, sum_stays (lists_at number) views id v u at (same number))

-- the arms of all views, where those of one view are the same
same_arms : (views : List FabricView) (id : ℕ) (v u : FabricView) → get_elem? views id ≡ some v → u.arms ≡ v.arms → all_arms (set views id u) ≡ all_arms views
same_arms [] id v u at same = refl
same_arms (x ∷ xs) zero v u at same = ap (λ (l : List ArmNote). l ++ all_arms xs) (same ∙ sym (ap (λ (y : FabricView). y.arms) (some-injective x v at)))
same_arms (x ∷ xs) (suc id) v u at same = ap (λ (l : List ArmNote). x.arms ++ l) (same_arms xs id v u at same)

pub streams_stay : StreamsStayLaw
streams_stay core core' views id v u at shape items arms old queue item there =
    items queue item ∙ old queue item (subst (λ (s : Shape). HasItem s queue item) shape there)
    ∙ sym (ap (λ (l : List ArmNote). stream_of_arm (latest_arm queue item l)) (same_arms views id v u at arms))
