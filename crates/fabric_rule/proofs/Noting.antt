-- A seat's lists get a note more.
use Rattle.std.proofs.Common.{ℕ, ◌+◌, ◌≡◌, ◌≢◌, ◌≤◌, ◌⊎◌, inl, inr, ◌==◌, ◌&&◌, ◌||◌, Bool, false, List, [], ◌∷◌, ◌++◌, get_or, refl, sym, ap, ◌∙◌, subst, arith}
use Rattle.std.specs.List.{list_any}
use Rattle.std.proofs.lemmas.Bool.{cases_eq, ne_eqb}
use Rattle.unit_model.specs.Core.{no_seat, role_of, seat_of}
use Rattle.unit_model.specs.Effects.{noted}
use Rattle.unit_model.specs.PartCounts.{of_stream}
use Rattle.unit_model.specs.PartOrder.{Each}
use Rattle.unit_model.specs.Shapes.{role_in}
use Rattle.unit_model.specs.Weights.{weigh, is_number, one_if, times}
use Rattle.unit_model.specs.declared.machine.Core.{Core}
use Rattle.unit_model.specs.declared.machine.Note.{Note}
use Rattle.unit_model.specs.declared.machine.Note.TheVariants.{Drawn, Posted, Cancelled, Abandoned, Received, Taken, Sent, Closed}
use Rattle.unit_model.specs.declared.machine.Part.{Part}
use Rattle.unit_model.specs.declared.machine.Seat.{Seat as SeatLists}
use Rattle.unit_model.specs.declared.shape.Shape.{Shape}
use Rattle.unit_model.proofs.Changes.{changed_at, part_stays, unchanged_at}
use Rattle.unit_model.proofs.Weights.{is_number_other, is_number_same, weigh_push}
use Rattle.fabric_rule.specs.FrameLaws.{ListsNotedLaw, NotedSameLaw, NotesOne, SameOf, note_stream}
use Rattle.fabric_rule.specs.Parts.{AwaitsReply, IsTrueLedger, IsOwn, IsRefused, KnowsWork, ShowsLists, has_last}
use Rattle.fabric_rule.specs.Views.{lists_at}
use Rattle.fabric_rule.specs.declared.cause.Refusal.{Refusal}
use Rattle.fabric_rule.specs.declared.view.ArmNote.{ArmNote}
use Rattle.fabric_rule.specs.declared.view.Ledger.{Ledger}
use Rattle.fabric_rule.specs.declared.view.FabricView.{FabricView}
use Rattle.fabric_rule.specs.declared.view.Work.{Work}
use Rattle.fabric_rule.specs.declared.view.Work.TheVariants.{Drawn as DrawnWork, Posted as PostedWork, Taken as TakenWork, Sending, Holding}
use Rattle.fabric_rule.proofs.KeyedSteps.{keyed_step}
use Rattle.fabric_rule.proofs.ListFrames.{cause_stays}
use Rattle.fabric_rule.proofs.Sums.{each_gives}

-- ---- lists of one seat

-- one more that doesn't count
times_else : (stream other : ℕ) (xs : List ℕ) → stream ≢ other → times stream (xs ++ other ∷ []) ≡ times stream xs
times_else stream other xs ne = omega (arith, weigh_push (is_number stream) xs other, is_number_other stream other (λ is. ne (sym is)))

parts_else : (stream : ℕ) (part : Part) (xs : List Part) → stream ≢ part.stream → weigh (of_stream stream) (xs ++ part ∷ []) ≡ weigh (of_stream stream) xs
parts_else stream part xs ne = omega (arith, weigh_push (of_stream stream) xs part, ap one_if (ne_eqb part.stream stream (λ is. ne (sym is))))

any_else : (test : Part → Bool) (part : Part) (xs : List Part) → test part ≡ false → list_any test (xs ++ part ∷ []) ≡ list_any test xs
any_else test part [] fails = rw fails refl
any_else test part (x ∷ xs) fails = ap (λ (b : Bool). test x || b) (any_else test part xs fails)

last_else : (stream : ℕ) (part : Part) → stream ≢ part.stream → (part.stream == stream && part.last) ≡ false
last_else stream part ne = ap (λ (b : Bool). b && part.last) (ne_eqb part.stream stream (λ is. ne (sym is)))

pub noted_same : NotedSameLaw
noted_same (Drawn n) l stream ne = record { drawn_as = times_else stream n l.drawn ne; posted_as = refl; cancelled_as = refl; abandoned_as = refl; taken_as = refl; closed_as = refl; sent_as = refl; finished_as = refl; received_as = refl }
noted_same (Posted n) l stream ne = record { drawn_as = refl; posted_as = times_else stream n l.posted ne; cancelled_as = refl; abandoned_as = refl; taken_as = refl; closed_as = refl; sent_as = refl; finished_as = refl; received_as = refl }
noted_same (Cancelled n) l stream ne = record { drawn_as = refl; posted_as = refl; cancelled_as = times_else stream n l.cancelled ne; abandoned_as = refl; taken_as = refl; closed_as = refl; sent_as = refl; finished_as = refl; received_as = refl }
noted_same (Abandoned n) l stream ne = record { drawn_as = refl; posted_as = refl; cancelled_as = refl; abandoned_as = times_else stream n l.abandoned ne; taken_as = refl; closed_as = refl; sent_as = refl; finished_as = refl; received_as = refl }
noted_same (Received p) l stream ne = record { drawn_as = refl; posted_as = refl; cancelled_as = refl; abandoned_as = refl; taken_as = refl; closed_as = refl; sent_as = refl; finished_as = refl; received_as = any_else (λ part. part.stream == stream && part.last) p l.received (last_else stream p ne) }
noted_same (Taken n) l stream ne = record { drawn_as = refl; posted_as = refl; cancelled_as = refl; abandoned_as = refl; taken_as = times_else stream n l.taken ne; closed_as = refl; sent_as = refl; finished_as = refl; received_as = refl }
noted_same (Sent p) l stream ne = record { drawn_as = refl; posted_as = refl; cancelled_as = refl; abandoned_as = refl; taken_as = refl; closed_as = refl; sent_as = parts_else stream p l.sent ne; finished_as = any_else (λ part. part.stream == stream && part.last) p l.sent (last_else stream p ne); received_as = refl }
noted_same (Closed n) l stream ne = record { drawn_as = refl; posted_as = refl; cancelled_as = refl; abandoned_as = refl; taken_as = refl; closed_as = times_else stream n l.closed ne; sent_as = refl; finished_as = refl; received_as = refl }

-- what a seat drew or took it goes on to have drawn or taken
never_less : (note : Note) (l : SeatLists) (stream : ℕ) → times stream l.drawn + times stream l.taken ≤ times stream (noted note l).drawn + times stream (noted note l).taken
never_less (Drawn n) l stream = omega (arith, weigh_push (is_number stream) l.drawn n)
never_less (Posted n) l stream = omega arith
never_less (Cancelled n) l stream = omega arith
never_less (Abandoned n) l stream = omega arith
never_less (Received p) l stream = omega arith
never_less (Taken n) l stream = omega (arith, weigh_push (is_number stream) l.taken n)
never_less (Sent p) l stream = omega arith
never_less (Closed n) l stream = omega arith

-- ---- all seats

module _ (core core' : Core) (seat : ℕ) (note : Note) (notes : NotesOne core core' seat note) where
  pub noted_here : seat_of core' seat ≡ noted note (seat_of core seat)
  noted_here = ap (λ (l : List SeatLists). get_or l seat no_seat) notes.seats ∙ changed_at seat (noted note) core.seats no_seat notes.inside

  pub noted_else : (other : ℕ) → other ≢ seat → seat_of core' other ≡ seat_of core other
  noted_else other ne = ap (λ (l : List SeatLists). get_or l other no_seat) notes.seats ∙ unchanged_at seat (noted note) core.seats other no_seat ne

  -- of another stream each seat's lists say what they said
  pub same_of_others : (other stream : ℕ) → stream ≢ note_stream note → SameOf stream (seat_of core other) (seat_of core' other)
  same_of_others other stream ne =
      elim (cases_eq other seat) [
        | inl is ↦ subst (λ (k : ℕ). SameOf stream (seat_of core k) (seat_of core' k)) (sym is) (subst (SameOf stream (seat_of core seat)) (sym noted_here) (noted_same note (seat_of core seat) stream ne))
        | inr away ↦ subst (SameOf stream (seat_of core other)) (sym (noted_else other away)) (record { drawn_as = refl; posted_as = refl; cancelled_as = refl; abandoned_as = refl; taken_as = refl; closed_as = refl; sent_as = refl; finished_as = refl; received_as = refl })
      ]

  pub own_kept : (other stream : ℕ) → IsOwn core other stream → IsOwn core' other stream
  own_kept other stream own =
      elim (cases_eq other seat) [
        | inl is ↦
            let mine : 1 ≤ times stream (seat_of core seat).drawn + times stream (seat_of core seat).taken = subst (λ (k : ℕ). 1 ≤ times stream (seat_of core k).drawn + times stream (seat_of core k).taken) is own in
            let now : 1 ≤ times stream (noted note (seat_of core seat)).drawn + times stream (noted note (seat_of core seat)).taken = omega (arith, mine, never_less note (seat_of core seat) stream) in
            subst (λ (k : ℕ). 1 ≤ times stream (seat_of core' k).drawn + times stream (seat_of core' k).taken) (sym is) (subst (λ (l : SeatLists). 1 ≤ times stream l.drawn + times stream l.taken) (sym noted_here) now)
        | inr away ↦ subst (λ (l : SeatLists). 1 ≤ times stream l.drawn + times stream l.taken) (sym (noted_else other away)) own
      ]

  pub refused_kept : (other : ℕ) (rs : List Refusal) → Each (IsRefused core other) rs → Each (IsRefused core' other) rs
  refused_kept other rs old = each_gives (IsRefused core other) (IsRefused core' other) rs (λ (r : Refusal) is. cause_stays core core' notes.shape other r.stream (own_kept other r.stream) r.cause is) old

pub lists_noted : ListsNotedLaw
lists_noted core core' note popped popped' views id v u c c' at notes only number only' number' grown refused mine_popped others_popped old =
    let as_many : (key : ℕ) → lists_at key u ≡ lists_at key v = λ key. ap (weigh (λ (d : Ledger). is_number key d.seat)) only' ∙ ap (λ (n : ℕ). is_number key n + 0) number' ∙ sym (ap (weigh (λ (d : Ledger). is_number key d.seat)) only) in
    let mine_at : lists_at c.seat v ≡ 1 = ap (weigh (λ (d : Ledger). is_number c.seat d.seat)) only ∙ omega (arith, is_number_same c.seat) in
    let before : IsTrueLedger core popped c = (subst (λ (cs : List Ledger). Each (λ (d : Ledger). d.seat ≡ c.seat → IsTrueLedger core popped d) cs) only (old.each c.seat id v at (omega (arith, mine_at)))).0 refl in
    let at_seat : c'.seat ≡ v.seat = number' ∙ number in
    let now : IsTrueLedger core' popped' c' = record {
      lists = grown ∙ ap (noted note) (before.lists ∙ ap (seat_of core) number) ∙ sym (noted_here core core' v.seat note notes) ∙ sym (ap (seat_of core') at_seat);
      refused = subst (λ (k : ℕ). Each (IsRefused core' k) c'.refusals) (sym number') (subst (Each (IsRefused core' c.seat)) (sym refused) (refused_kept core core' v.seat note notes c.seat c.refusals before.refused));
      popped_item = λ engine. ap popped' at_seat ∙ mine_popped (sym (ap (λ (s : Shape). role_in s v.seat) notes.shape) ∙ sym (ap (role_of core') at_seat) ∙ engine);
    } in
    keyed_step FabricView lists_at (ShowsLists core popped) (ShowsLists core' popped') views id v u at
    (λ key. omega (arith, as_many key, old.once key))
    (λ key has. subst (λ (cs : List Ledger). Each (λ (d : Ledger). d.seat ≡ key → IsTrueLedger core' popped' d) cs) (sym only') ((λ is. now), tt))
    (λ key none y has shown.
    let other : key ≢ v.seat = λ is. absurd (omega (arith, none, ap (λ (k : ℕ). lists_at k v) (is ∙ sym number), mine_at)) in
    each_gives (λ (d : Ledger). d.seat ≡ key → IsTrueLedger core popped d) (λ (d : Ledger). d.seat ≡ key → IsTrueLedger core' popped' d) y.ledgers
    (λ d was is.
    let away : d.seat ≢ v.seat = λ same. other (sym is ∙ same) in
    record {
      lists = (was is).lists ∙ sym (noted_else core core' v.seat note notes d.seat away);
      refused = refused_kept core core' v.seat note notes d.seat d.refusals (was is).refused;
      popped_item = λ engine. others_popped d.seat away ∙ (was is).popped_item (sym (ap (λ (s : Shape). role_in s d.seat) notes.shape) ∙ engine);
    })
    shown)
    old

-- a note of one list leaves the others
pub same_field : {X : Type 0} (core core' : Core) (seat : ℕ) (note : Note) → NotesOne core core' seat note → (list : SeatLists → X) → ((l : SeatLists) → list (noted note l) ≡ list l) → (k : ℕ) → list (seat_of core' k) ≡ list (seat_of core k)
same_field core core' seat note notes_one list same k = ap (λ (seats : List SeatLists). list (get_or seats k no_seat)) notes_one.seats ∙ part_stays list seat (noted note) core.seats k no_seat same

-- by a worker's note no stream comes to await its reply
pub awaited : (core core' : Core) (seat : ℕ) (note : Note) → NotesOne core core' seat note → ((l : SeatLists) → ((noted note l).posted ≡ l.posted) × ((noted note l).cancelled ≡ l.cancelled) × ((noted note l).abandoned ≡ l.abandoned) × ((noted note l).received ≡ l.received))
    → (k key : ℕ) → AwaitsReply (seat_of core' k) key → AwaitsReply (seat_of core k) key
awaited core core' seat note notes stay k key awaits = record {
  was_posted = omega (arith, awaits.was_posted, ap (times key) (same_field core core' seat note notes (λ (l : SeatLists). l.posted) (λ l. (stay l).0) k));
  uncancelled = sym (ap (times key) (same_field core core' seat note notes (λ (l : SeatLists). l.cancelled) (λ l. (stay l).1) k)) ∙ awaits.uncancelled;
  unabandoned = sym (ap (times key) (same_field core core' seat note notes (λ (l : SeatLists). l.abandoned) (λ l. (stay l).2) k)) ∙ awaits.unabandoned;
  unreceived = sym (ap (has_last key) (same_field core core' seat note notes (λ (l : SeatLists). l.received) (λ l. (stay l).3) k)) ∙ awaits.unreceived;
}

-- ---- works

-- the stream of a work
abbrev pub work_stream : Work → ℕ
work_stream (DrawnWork stream) = stream
work_stream (PostedWork stream item) = stream
work_stream (TakenWork stream poster parts) = stream
work_stream (Sending stream poster parts last item) = stream
work_stream Holding = 0

never_fewer : (note : Note) (l : SeatLists) (stream : ℕ) → times stream l.posted ≤ times stream (noted note l).posted
never_fewer (Drawn n) l stream = omega arith
never_fewer (Posted n) l stream = omega (arith, weigh_push (is_number stream) l.posted n)
never_fewer (Cancelled n) l stream = omega arith
never_fewer (Abandoned n) l stream = omega arith
never_fewer (Received p) l stream = omega arith
never_fewer (Taken n) l stream = omega arith
never_fewer (Sent p) l stream = omega arith
never_fewer (Closed n) l stream = omega arith

module _ (core core' : Core) (seat : ℕ) (note : Note) (notes : NotesOne core core' seat note) (armed armed' : ℕ → List ℕ) where
  pub posted_kept : (other stream : ℕ) → times stream (seat_of core other).posted ≤ times stream (seat_of core' other).posted
  posted_kept other stream =
      elim (cases_eq other seat) [
        | inl is ↦ subst (λ (k : ℕ). times stream (seat_of core k).posted ≤ times stream (seat_of core' k).posted) (sym is)
            (subst (λ (l : SeatLists). times stream (seat_of core seat).posted ≤ times stream l.posted) (sym (noted_here core core' seat note notes)) (never_fewer note (seat_of core seat) stream))
        | inr away ↦ omega (arith, ap (λ (l : SeatLists). times stream l.posted) (noted_else core core' seat note notes other away))
      ]

  -- of another stream, or of another seat's lists, the same is said
  pub said_as : (other stream : ℕ) → (stream ≢ note_stream note) ⊎ (other ≢ seat) → SameOf stream (seat_of core other) (seat_of core' other)
  said_as other stream (inl ne) = same_of_others core core' seat note notes other stream ne
  said_as other stream (inr away) = subst (SameOf stream (seat_of core other)) (sym (noted_else core core' seat note notes other away)) (record { drawn_as = refl; posted_as = refl; cancelled_as = refl; abandoned_as = refl; taken_as = refl; closed_as = refl; sent_as = refl; finished_as = refl; received_as = refl })

  pub work_noted : (other : ℕ) (arms : List ArmNote) (w : Work) → (work_stream w ≢ note_stream note) ⊎ (other ≢ seat) → armed' (work_stream w) ≡ armed (work_stream w) → KnowsWork core armed other arms w → KnowsWork core' armed' other arms w
  work_noted other arms (DrawnWork stream) apart same old =
      let said = said_as other stream apart in
      record { drew = omega (arith, old.drew, said.drawn_as); unposted = said.posted_as ∙ old.unposted }
  work_noted other arms (PostedWork stream item) apart same old =
      let said = said_as other stream apart in
      record { was_posted = omega (arith, old.was_posted, said.posted_as); uncancelled = said.cancelled_as ∙ old.uncancelled; unabandoned = said.abandoned_as ∙ old.unabandoned; arm = old.arm }
  work_noted other arms (TakenWork stream poster parts) apart same old =
      let said = said_as other stream apart in
      record { took = omega (arith, old.took, said.taken_as); unclosed = said.closed_as ∙ old.unclosed; to = omega (arith, old.to, posted_kept poster stream); parts_out = said.sent_as ∙ old.parts_out; unfinished = said.finished_as ∙ old.unfinished; nothing = same ∙ old.nothing }
  work_noted other arms (Sending stream poster parts last item) apart same old =
      let said = said_as other stream apart in
      record { took = omega (arith, old.took, said.taken_as); unclosed = said.closed_as ∙ old.unclosed; to = omega (arith, old.to, posted_kept poster stream); parts_out = said.sent_as ∙ old.parts_out; finished = said.finished_as ∙ old.finished; one = same ∙ old.one }
  work_noted other arms Holding apart same old = tt
