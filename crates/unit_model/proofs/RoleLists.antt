-- Lists of seats and roles at each step, and the core as it begins.
use Rattle.std.proofs.Common.{ℕ, zero, suc, ◌+◌, ◌≡◌, ◌≢◌, ◌≤◌, ◌==◌, inl, inr, get_or, replicate, refl, sym, ap, ◌∙◌, subst, arith}
use Rattle.std.specs.Prelude.{None}
use Rattle.std.proofs.lemmas.Bool.{eqb-true, eqb-false, cases_Bool, cases_lt, leb-true}
use Rattle.std.proofs.lemmas.List.{get_or-replicate, get_or_past, length-replicate}
use Rattle.unit_model.proofs.ChangedCore.{each_changed}
use Rattle.unit_model.proofs.MetConditions.{each_met, test_of}
use Rattle.unit_model.proofs.MetSteps.{fill_there}
use Rattle.unit_model.proofs.StepFacts.{engine_role}
use Rattle.unit_model.specs.Conditions.{conditions_by, conditions_of, is_either}
use Rattle.unit_model.specs.Core.{blank, no_queue, no_seat, item_of, role_of, seat_of}
use Rattle.unit_model.specs.Effects.{after_step, with_note, with_item, with_run_owner, with_in_line, with_free, without_first_free, without_first_in_line, with_owner, with_opened, noted, armed_note, settled_note}
use Rattle.unit_model.specs.Lists.{change_at}
use Rattle.unit_model.specs.Opening.{fresh_queue, opened_core}
use Rattle.unit_model.specs.declared.machine.Core.{Core}
use Rattle.unit_model.specs.declared.machine.Item.{Item}
use Rattle.unit_model.specs.declared.machine.Note.{Note}
use Rattle.unit_model.specs.declared.machine.Note.TheVariants.{Drawn, Posted, Cancelled, Abandoned, Received, Taken, Sent, Closed}
use Rattle.unit_model.specs.declared.machine.Queue.{Queue}
use Rattle.unit_model.specs.declared.machine.Seat.{Seat as SeatLists}
use Rattle.unit_model.specs.declared.machine.Step.TheVariants.{Draw, Claim, Release, Open, GetItem, SetRun, SetPart, Arm, Push, Pop, Settle, GiveItem, Abandon}
use Rattle.unit_model.specs.declared.machine.Whereabouts.TheVariants.{InFreeList}
use Rattle.unit_model.specs.declared.shape.Shape.{Shape}
use Rattle.unit_model.specs.ByRole.{ItemsByRoleAtFirst, SeatByRole, SeatsByRole, SeatsByRoleStay, SeatsByRoleAtFirst}

-- ---- a note of the seat's role

abbrev note_role : Note → ℕ
note_role (Drawn stream) = 0
note_role (Posted stream) = 0
note_role (Cancelled stream) = 0
note_role (Abandoned stream) = 0
note_role (Received part) = 0
note_role (Taken stream) = 1
note_role (Sent part) = 1
note_role (Closed stream) = 1

noted_right : (note : Note) (role : ℕ) (lists : SeatLists) → role ≡ note_role note → SeatByRole role lists → SeatByRole role (noted note lists)
noted_right (Drawn s) role lists is old = record { engine = λ other. absurd (other is); worker = old.worker }
noted_right (Posted s) role lists is old = record { engine = λ other. absurd (other is); worker = old.worker }
noted_right (Cancelled s) role lists is old = record { engine = λ other. absurd (other is); worker = old.worker }
noted_right (Abandoned s) role lists is old = record { engine = λ other. absurd (other is); worker = old.worker }
noted_right (Received p) role lists is old = record { engine = λ other. absurd (other is); worker = old.worker }
noted_right (Taken s) role lists is old = record { engine = old.engine; worker = λ other. absurd (other is) }
noted_right (Sent p) role lists is old = record { engine = old.engine; worker = λ other. absurd (other is) }
noted_right (Closed s) role lists is old = record { engine = old.engine; worker = λ other. absurd (other is) }

noted_seats : (core : Core) (seat : ℕ) (note : Note) → SeatsByRole core → role_of core seat ≡ note_role note → (k : ℕ) → SeatByRole (role_of core k) (get_or (change_at seat (noted note) core.seats) k no_seat)
noted_seats core seat note old is k =
    each_changed (λ m lists. SeatByRole (role_of core m) lists) seat (noted note) core.seats no_seat (noted_right note (role_of core seat) (seat_of core seat) is (old seat)) old k

either_role : (core : Core) (seat : ℕ) → is_either core seat ≡ None → role_of core seat ≤ 1
unfolding is_either
either_role core seat met = leb-true _ _ (test_of _ _ _ _ met)

armed_role : (queue stream role : ℕ) (item : Item) → role ≤ 1 → (role == 0) ≡ (queue == 0) → role ≡ note_role (armed_note queue stream item)
armed_role queue stream role item low side =
    elim (cases_Bool (queue == 0)) [
      | inl line ↦ rw line (eqb-true role 0 (side ∙ line))
      | inr back ↦ rw back (let other : role ≢ 0 = eqb-false role 0 (side ∙ back) in omega (arith, low, other))
    ]

settled_role : (queue stream role : ℕ) (item : Item) → role ≤ 1 → role ≡ note_role (settled_note (role == 0) queue stream item)
settled_role queue stream role item low =
    elim (cases_Bool (role == 0)) [
      | inl engine ↦ rw engine (elim (cases_Bool (queue == 0)) [
        | inl line ↦ rw line (eqb-true role 0 engine)
        | inr back ↦ rw back (eqb-true role 0 engine)
      ])
      | inr worker ↦ let one : role ≡ 1 = (let other : role ≢ 0 = eqb-false role 0 worker in omega (arith, low, other)) in rw worker (elim (cases_Bool (queue == 0)) [
        | inl line ↦ rw line one
        | inr back ↦ rw back one
      ])
    ]

pub seats_by_role_stay : SeatsByRoleStay
unfolding after_step with_note with_item with_run_owner with_in_line with_free without_first_free without_first_in_line with_owner with_opened conditions_by
seats_by_role_stay core (Draw seat stream) old met = noted_seats core seat (Drawn stream) old (engine_role core seat (each_met (conditions_of core (Draw seat stream)) met 0))
seats_by_role_stay core (Claim seat segment chunk) old met = old
seats_by_role_stay core (Release seat segment chunk) old met = old
seats_by_role_stay core (Open seat count) old met = old
seats_by_role_stay core (GetItem seat queue item place) old met = old
seats_by_role_stay core (SetRun seat queue item run) old met = old
seats_by_role_stay core (SetPart seat queue item part) old met = old
seats_by_role_stay core (Arm seat queue item stream) old met =
    let conditions = conditions_of core (Arm seat queue item stream) in
    noted_seats core seat (armed_note queue stream (item_of core queue item)) old
    (armed_role queue stream (role_of core seat) (item_of core queue item) (either_role core seat (each_met conditions met 0)) (fill_there core seat queue item (each_met conditions met 1)).1)
seats_by_role_stay core (Push seat queue item place) old met = old
seats_by_role_stay core (Pop seat queue item place) old met = old
seats_by_role_stay core (Settle seat queue item stream) old met =
    noted_seats core seat (settled_note (role_of core seat == 0) queue stream (item_of core queue item)) old
    (settled_role queue stream (role_of core seat) (item_of core queue item) (either_role core seat (each_met (conditions_of core (Settle seat queue item stream)) met 0)))
seats_by_role_stay core (GiveItem seat queue item place) old met = old
seats_by_role_stay core (Abandon seat stream) old met = noted_seats core seat (Abandoned stream) old (engine_role core seat (each_met (conditions_of core (Abandon seat stream)) met 0))

-- ---- at first

the_same : {X : Type 0} (n i : ℕ) (x : X) → get_or (replicate n x) i x ≡ x
the_same n i x =
    elim (cases_lt i n) [
      | inl inside ↦ get_or-replicate n i x x inside
      | inr past ↦ get_or_past (replicate n x) i x (omega (arith, length-replicate n x))
    ]

pub seats_at_first : SeatsByRoleAtFirst
seats_at_first shape seat =
    subst (SeatByRole (role_of (opened_core shape) seat)) (sym (the_same (shape.engines + shape.workers) seat no_seat)) (record { engine = λ other. (refl, refl, refl, refl, refl); worker = λ other. (refl, refl, refl) })

all_free : (shape : Shape) (q i : ℕ) → (item_of (opened_core shape) q i).whereabouts ≡ InFreeList
all_free shape zero i = ap (λ (x : Item). x.whereabouts) (the_same shape.items i blank)
all_free shape (suc e) i =
    let queue : Queue = fresh_queue shape.start shape.back_items in
    elim (cases_lt e shape.engines) [
      | inl inside ↦ ap (λ (k : Queue). (get_or k.items i blank).whereabouts) (get_or-replicate shape.engines e queue no_queue inside) ∙ ap (λ (x : Item). x.whereabouts) (the_same shape.back_items i blank)
      | inr past ↦ ap (λ (k : Queue). (get_or k.items i blank).whereabouts) (get_or_past (replicate shape.engines queue) e no_queue (omega (arith, length-replicate shape.engines queue)))
    ]

pub items_at_first : ItemsByRoleAtFirst
items_at_first shape valid q i =
    let free = all_free shape q i in
    record { in_line = λ back is. absurd (cc (free, is)); poster = λ s role line is armed. absurd (cc (free, is)); own = λ s role back is. absurd (cc (free, is)) }
