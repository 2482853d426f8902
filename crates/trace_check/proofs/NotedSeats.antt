-- The records of streams agree with the lists of the seats after a note of a seat.
use Rattle.std.proofs.Common.{◌≡◌, ◌≢◌, ◌∙◌, ⊎_elim, ℕ, zero, suc, ◌+◌, ◌<◌, ◌==◌, ◌&&◌, ◌||◌, nat_lt, Bool, true, false, if◌then◌else◌, List, [], ◌∷◌, length, get_or, set, replicate, refl, sym, ap, arith}
use Rattle.std.specs.Prelude.{Option, Some, None, count_by}
use Rattle.std.specs.List.{list_any}
use Rattle.std.proofs.lemmas.Bool.{cases_eq, eq-eqb, ne_eqb, eqb-true, lt-ltb}
use Rattle.std.proofs.lemmas.List.{get_or-set_same, get_or-set_other, length-set}
use Rattle.trace_check.specs.Shows.{Agrees, lists_at, is_last_of}
use Rattle.trace_check.specs.Streams.{known, drawn_by, posted_by, cancelled_by, abandoned_by, taken_by, sent_of, drawn_stream}
use Rattle.trace_check.specs.declared.streams.Stream.{Stream}
use Rattle.trace_check.proofs.SeatNotes.{any_snoc, count_snoc, any_changed, any_unchanged, weigh_changed}
use Rattle.unit_model.proofs.Changes.{changed_at, unchanged_at, weigh_unchanged}
use Rattle.unit_model.specs.Conditions.{has_stream}
use Rattle.unit_model.specs.Core.{no_seat}
use Rattle.unit_model.specs.Effects.{noted}
use Rattle.unit_model.specs.Lists.{change_at}
use Rattle.unit_model.specs.Weights.{one_if}
use Rattle.unit_model.specs.declared.machine.Note.TheVariants.{Drawn, Posted, Cancelled, Abandoned, Received, Taken, Sent, Closed}
use Rattle.unit_model.specs.declared.machine.Part.{Part}
use Rattle.unit_model.specs.declared.machine.Seat.{Seat as SeatLists}

-- the records with that of one stream changed
abbrev pub changed : (ℕ → Option Stream) → ℕ → Option Stream → ℕ → Option Stream
changed at s0 new s = if s == s0 then new else at s

or_false : (a : Bool) → (a || false) ≡ a
or_false true = refl
or_false false = refl

or_true : (a : Bool) → (a || true) ≡ true
or_true true = refl
or_true false = refl

and_false : (a : Bool) → (a && false) ≡ false
and_false true = refl
and_false false = refl

-- a value that is the new record's at the stream, and the old one's elsewhere
record_at : {Y : Type 0} (P : Option Stream → Y) (at : ℕ → Option Stream) (s0 : ℕ) (new : Option Stream) (s : ℕ) (y : Y)
    → (s ≡ s0 → y ≡ P new) → (s ≢ s0 → y ≡ P (at s)) → y ≡ P (changed at s0 new s)
record_at P at s0 new s y here apart =
    ⊎_elim (λ (e : s ≡ s0). rw (eq-eqb s s0 e) (here e)) (λ (ne : s ≢ s0). rw (ne_eqb s s0 ne) (apart ne)) (cases_eq s s0)

rec_keep : {Y : Type 0} (P : Option Stream → Y) (at : ℕ → Option Stream) (s0 : ℕ) (old new : Option Stream) (s : ℕ)
    → at s0 ≡ old → P old ≡ P new → P (at s) ≡ P (changed at s0 new s)
rec_keep P at s0 old new s is same = record_at P at s0 new s (P (at s)) (λ e. ap P (ap at e ∙ is) ∙ same) (λ ne. refl)

eight_keep : (at : ℕ → Option Stream) (s0 : ℕ) (r : Stream) → ((s : ℕ) (x : Stream) → at s ≡ Some x → length x.takers ≡ 8) → length r.takers ≡ 8
    → (s : ℕ) (x : Stream) → changed at s0 (Some r) s ≡ Some x → length x.takers ≡ 8
eight_keep at s0 r all here s x is =
    ⊎_elim
    (λ (e : s ≡ s0). let same : Some r ≡ Some x = rw (eq-eqb s s0 e) at is in let it : r ≡ x = cc in rw (← it) here)
    (λ (ne : s ≢ s0). all s x (rw (ne_eqb s s0 ne) at is))
    (cases_eq s s0)

none_keep : (at : ℕ → Option Stream) (s0 : ℕ) (r : Stream) (s : ℕ) → changed at s0 (Some r) s ≡ None → at s ≡ None
none_keep at s0 r s none =
    ⊎_elim (λ (e : s ≡ s0). let bad : Some r ≡ None = rw (eq-eqb s s0 e) at none in absurd (cc bad)) (λ (ne : s ≢ s0). rw (ne_eqb s s0 ne) at none) (cases_eq s s0)

none_other : (at : ℕ → Option Stream) (s0 : ℕ) (r : Stream) (s : ℕ) → changed at s0 (Some r) s ≡ None → s0 ≢ s
none_other at s0 r s none e = let bad : Some r ≡ None = rw (eq-eqb s s0 (sym e)) at none in absurd (cc bad)

pub proj_same : {X Y : Type 0} (proj : X → Y) (k0 : ℕ) (f : X → X) (xs : List X) (k : ℕ) (d : X) → ((x : X) → proj (f x) ≡ proj x)
    → proj (get_or (change_at k0 f xs) k d) ≡ proj (get_or xs k d)
proj_same proj k0 f [] k d same = refl
proj_same proj zero f (x ∷ xs) zero d same = same x
proj_same proj zero f (x ∷ xs) (suc k) d same = refl
proj_same proj (suc k0) f (x ∷ xs) zero d same = refl
proj_same proj (suc k0) f (x ∷ xs) (suc k) d same = proj_same proj k0 f xs k d same

-- a test of a seat's lists that a note may make true
pub touched : (proj : SeatLists → Bool) (b : Bool) (k0 : ℕ) (f : SeatLists → SeatLists) (seats : List SeatLists) (k : ℕ) → k0 < length seats
    → ((x : SeatLists) → proj (f x) ≡ (proj x || b))
    → proj (lists_at (change_at k0 f seats) k) ≡ (proj (lists_at seats k) || (k == k0 && b))
touched proj b k0 f seats k lt more =
    ⊎_elim
    (λ (e : k ≡ k0). rw (eq-eqb k k0 e, e) (ap proj (changed_at k0 f seats no_seat lt) ∙ more (lists_at seats k0)))
    (λ (ne : k ≢ k0). rw (ne_eqb k k0 ne) (ap proj (unchanged_at k0 f seats k no_seat ne) ∙ sym (or_false (proj (lists_at seats k)))))
    (cases_eq k k0)

own_flag : (k k0 engine : ℕ) (old : Bool) → engine ≡ k0 → (((engine == k) && old) || ((k == k0) && true)) ≡ ((engine == k) && true)
own_flag k k0 engine old is =
    ⊎_elim
    (λ (e : k ≡ k0). rw (eq-eqb k k0 e, eq-eqb engine k (is ∙ sym e)) (or_true old))
    (λ (ne : k ≢ k0). rw (ne_eqb k k0 ne, ne_eqb engine k (λ (z : engine ≡ k). ne (sym z ∙ is))) refl)
    (cases_eq k k0)

no_flag : (b c : Bool) → (b || (c && false)) ≡ b
no_flag true c = refl
no_flag false true = refl
no_flag false false = refl

-- what the stream's own engine says of it
flag_kept : (b : Stream → Bool) (at : ℕ → Option Stream) (s0 : ℕ) (r t : Stream) (k k0 s : ℕ) → at s0 ≡ Some r → r.engine ≡ k0 → t.engine ≡ r.engine → b t ≡ true
    → (known (λ x. x.engine == k && b x) (at s) || ((k == k0) && (s0 == s))) ≡ known (λ x. x.engine == k && b x) (changed at s0 (Some t) s)
flag_kept b at s0 r t k k0 s is own kept set =
    record_at (known (λ x. x.engine == k && b x)) at s0 (Some t) s _
    (λ (e : s ≡ s0). rw (e, is, eq-eqb s0 s0 refl, set, kept) (own_flag k k0 r.engine (b r) own))
    (λ (ne : s ≢ s0). rw (ne_eqb s0 s (λ (z : s0 ≡ s). ne (sym z))) (no_flag (known (λ x. x.engine == k && b x) (at s)) (k == k0)))

-- a test that becomes true of the stream
all_flag : (b : Stream → Bool) (at : ℕ → Option Stream) (s0 : ℕ) (r t : Stream) (s : ℕ) (c : Bool) → at s0 ≡ Some r → b t ≡ (b r || c)
    → (known b (at s) || ((s0 == s) && c)) ≡ known b (changed at s0 (Some t) s)
all_flag b at s0 r t s c is set =
    record_at (known b) at s0 (Some t) s _
    (λ (e : s ≡ s0). rw (e, is, eq-eqb s0 s0 refl, set) refl)
    (λ (ne : s ≢ s0). rw (ne_eqb s0 s (λ (z : s0 ≡ s). ne (sym z))) (or_false (known b (at s))))

and_true : (b : Bool) → (b && true) ≡ b
and_true true = refl
and_true false = refl

same_test : (k j : ℕ) → (k == j) ≡ (j == k)
same_test k j = ⊎_elim (λ (e : k ≡ j). rw (eq-eqb k j e, eq-eqb j k (sym e)) refl) (λ (ne : k ≢ j). rw (ne_eqb k j ne, ne_eqb j k (λ (z : j ≡ k). ne (sym z))) refl) (cases_eq k j)

none_in : (k : ℕ) → get_or (replicate 8 false) k false ≡ false
none_in zero = refl
none_in (suc zero) = refl
none_in (suc (suc zero)) = refl
none_in (suc (suc (suc zero))) = refl
none_in (suc (suc (suc (suc zero)))) = refl
none_in (suc (suc (suc (suc (suc zero))))) = refl
none_in (suc (suc (suc (suc (suc (suc zero)))))) = refl
none_in (suc (suc (suc (suc (suc (suc (suc zero))))))) = refl
none_in (suc (suc (suc (suc (suc (suc (suc (suc k)))))))) = refl

no_takers : (k : ℕ) → (nat_lt k 8 && get_or (replicate 8 false) k false) ≡ false
no_takers k = ap (λ b. nat_lt k 8 && b) (none_in k) ∙ and_false (nat_lt k 8)

drawn_flag : (at : ℕ → Option Stream) (s0 k k0 s : ℕ) → at s0 ≡ None
    → (drawn_by k (at s) || ((k == k0) && (s0 == s))) ≡ drawn_by k (changed at s0 (Some (drawn_stream k0)) s)
drawn_flag at s0 k k0 s is =
    record_at (drawn_by k) at s0 (Some (drawn_stream k0)) s _
    (λ (e : s ≡ s0). rw (e, is, eq-eqb s0 s0 refl, and_true (k == k0)) (same_test k k0))
    (λ (ne : s ≢ s0). rw (ne_eqb s0 s (λ (z : s0 ≡ s). ne (sym z))) (no_flag (drawn_by k (at s)) (k == k0)))

-- nothing of a stream that no one drew is received by one who draws it
fresh_received : (seats : List SeatLists) (at : ℕ → Option Stream) (k0 s0 : ℕ) → Agrees seats at → k0 < length seats → at s0 ≡ None → (k s : ℕ)
    → drawn_by k (changed at s0 (Some (drawn_stream k0)) s) ≡ true
    → list_any (is_last_of s) (lists_at seats k).received ≡ known (λ r. r.received_last) (changed at s0 (Some (drawn_stream k0)) s)
fresh_received seats at k0 s0 a lt is k s d =
    record_at (known (λ r. r.received_last)) at s0 (Some (drawn_stream k0)) s _
    (λ (e : s ≡ s0). a.unreceived k s (ap at e ∙ is))
    (λ (ne : s ≢ s0). a.received k s (rw (ne_eqb s s0 ne) at d))

pub agrees_drawn : (seats : List SeatLists) (at : ℕ → Option Stream) (k0 s0 : ℕ) → Agrees seats at → k0 < length seats → at s0 ≡ None
    → Agrees (change_at k0 (noted (Drawn s0)) seats) (changed at s0 (Some (drawn_stream k0)))
agrees_drawn seats at k0 s0 a lt is = record {
  drawn = λ k s. touched (λ x. has_stream s x.drawn) (s0 == s) k0 (noted (Drawn s0)) seats k lt (λ x. any_snoc (λ other. other == s) x.drawn s0) ∙ ap (λ b. b || ((k == k0) && (s0 == s))) (a.drawn k s) ∙ drawn_flag at s0 k k0 s is;
  posted = λ k s. proj_same (λ x. has_stream s x.posted) k0 (noted (Drawn s0)) seats k no_seat (λ x. refl) ∙ a.posted k s ∙ rec_keep (posted_by k) at s0 None (Some (drawn_stream k0)) s is (sym (and_false (k0 == k)));
  cancelled = λ k s. proj_same (λ x. has_stream s x.cancelled) k0 (noted (Drawn s0)) seats k no_seat (λ x. refl) ∙ a.cancelled k s ∙ rec_keep (cancelled_by k) at s0 None (Some (drawn_stream k0)) s is (sym (and_false (k0 == k)));
  abandoned = λ k s. proj_same (λ x. has_stream s x.abandoned) k0 (noted (Drawn s0)) seats k no_seat (λ x. refl) ∙ a.abandoned k s ∙ rec_keep (abandoned_by k) at s0 None (Some (drawn_stream k0)) s is (sym (and_false (k0 == k)));
  received = λ k s d. proj_same (λ x. list_any (is_last_of s) x.received) k0 (noted (Drawn s0)) seats k no_seat (λ x. refl) ∙ fresh_received seats at k0 s0 a lt is k s d;
  unreceived = λ k s none. proj_same (λ x. list_any (is_last_of s) x.received) k0 (noted (Drawn s0)) seats k no_seat (λ x. refl) ∙ a.unreceived k s (none_keep at s0 (drawn_stream k0) s none);
  takers = λ k s. proj_same (λ x. has_stream s x.taken) k0 (noted (Drawn s0)) seats k no_seat (λ x. refl) ∙ a.takers k s ∙ rec_keep (taken_by k) at s0 None (Some (drawn_stream k0)) s is (sym (no_takers k));
  eight = eight_keep at s0 (drawn_stream k0) a.eight (refl);
  taken = λ s. any_unchanged (λ x. has_stream s x.taken) k0 (noted (Drawn s0)) seats (λ x. refl) ∙ a.taken s ∙ rec_keep (known (λ r. r.taken)) at s0 None (Some (drawn_stream k0)) s is refl;
  sent = λ s. weigh_unchanged (λ x. count_by (λ part. part.stream == s) x.sent) k0 (noted (Drawn s0)) seats (λ x. refl) ∙ a.sent s ∙ rec_keep sent_of at s0 None (Some (drawn_stream k0)) s is refl;
  last_sent = λ s. any_unchanged (λ x. list_any (is_last_of s) x.sent) k0 (noted (Drawn s0)) seats (λ x. refl) ∙ a.last_sent s ∙ rec_keep (known (λ r. r.last_sent)) at s0 None (Some (drawn_stream k0)) s is refl;
  closed = λ s. any_unchanged (λ x. has_stream s x.closed) k0 (noted (Drawn s0)) seats (λ x. refl) ∙ a.closed s ∙ rec_keep (known (λ r. r.closed)) at s0 None (Some (drawn_stream k0)) s is refl;
}

pub agrees_posted : (seats : List SeatLists) (at : ℕ → Option Stream) (k0 s0 : ℕ) (r : Stream) → Agrees seats at → k0 < length seats → at s0 ≡ Some r → r.engine ≡ k0
    → Agrees (change_at k0 (noted (Posted s0)) seats) (changed at s0 (Some (record r { posted = true })))
agrees_posted seats at k0 s0 r a lt is own = record {
  drawn = λ k s. proj_same (λ x. has_stream s x.drawn) k0 (noted (Posted s0)) seats k no_seat (λ x. refl) ∙ a.drawn k s ∙ rec_keep (drawn_by k) at s0 (Some r) (Some (record r { posted = true })) s is refl;
  posted = λ k s. touched (λ x. has_stream s x.posted) (s0 == s) k0 (noted (Posted s0)) seats k lt (λ x. any_snoc (λ other. other == s) x.posted s0) ∙ ap (λ b. b || ((k == k0) && (s0 == s))) (a.posted k s) ∙ flag_kept (λ x. x.posted) at s0 r (record r { posted = true }) k k0 s is own refl refl;
  cancelled = λ k s. proj_same (λ x. has_stream s x.cancelled) k0 (noted (Posted s0)) seats k no_seat (λ x. refl) ∙ a.cancelled k s ∙ rec_keep (cancelled_by k) at s0 (Some r) (Some (record r { posted = true })) s is refl;
  abandoned = λ k s. proj_same (λ x. has_stream s x.abandoned) k0 (noted (Posted s0)) seats k no_seat (λ x. refl) ∙ a.abandoned k s ∙ rec_keep (abandoned_by k) at s0 (Some r) (Some (record r { posted = true })) s is refl;
  received = λ k s d. proj_same (λ x. list_any (is_last_of s) x.received) k0 (noted (Posted s0)) seats k no_seat (λ x. refl) ∙ a.received k s (rec_keep (drawn_by k) at s0 (Some r) (Some (record r { posted = true })) s is refl ∙ d) ∙ rec_keep (known (λ r. r.received_last)) at s0 (Some r) (Some (record r { posted = true })) s is refl;
  unreceived = λ k s none. proj_same (λ x. list_any (is_last_of s) x.received) k0 (noted (Posted s0)) seats k no_seat (λ x. refl) ∙ a.unreceived k s (none_keep at s0 (record r { posted = true }) s none);
  takers = λ k s. proj_same (λ x. has_stream s x.taken) k0 (noted (Posted s0)) seats k no_seat (λ x. refl) ∙ a.takers k s ∙ rec_keep (taken_by k) at s0 (Some r) (Some (record r { posted = true })) s is refl;
  eight = eight_keep at s0 (record r { posted = true }) a.eight (a.eight s0 r is);
  taken = λ s. any_unchanged (λ x. has_stream s x.taken) k0 (noted (Posted s0)) seats (λ x. refl) ∙ a.taken s ∙ rec_keep (known (λ r. r.taken)) at s0 (Some r) (Some (record r { posted = true })) s is refl;
  sent = λ s. weigh_unchanged (λ x. count_by (λ part. part.stream == s) x.sent) k0 (noted (Posted s0)) seats (λ x. refl) ∙ a.sent s ∙ rec_keep sent_of at s0 (Some r) (Some (record r { posted = true })) s is refl;
  last_sent = λ s. any_unchanged (λ x. list_any (is_last_of s) x.sent) k0 (noted (Posted s0)) seats (λ x. refl) ∙ a.last_sent s ∙ rec_keep (known (λ r. r.last_sent)) at s0 (Some r) (Some (record r { posted = true })) s is refl;
  closed = λ s. any_unchanged (λ x. has_stream s x.closed) k0 (noted (Posted s0)) seats (λ x. refl) ∙ a.closed s ∙ rec_keep (known (λ r. r.closed)) at s0 (Some r) (Some (record r { posted = true })) s is refl;
}

pub agrees_cancelled : (seats : List SeatLists) (at : ℕ → Option Stream) (k0 s0 : ℕ) (r : Stream) → Agrees seats at → k0 < length seats → at s0 ≡ Some r → r.engine ≡ k0
    → Agrees (change_at k0 (noted (Cancelled s0)) seats) (changed at s0 (Some (record r { cancelled = true })))
agrees_cancelled seats at k0 s0 r a lt is own = record {
  drawn = λ k s. proj_same (λ x. has_stream s x.drawn) k0 (noted (Cancelled s0)) seats k no_seat (λ x. refl) ∙ a.drawn k s ∙ rec_keep (drawn_by k) at s0 (Some r) (Some (record r { cancelled = true })) s is refl;
  posted = λ k s. proj_same (λ x. has_stream s x.posted) k0 (noted (Cancelled s0)) seats k no_seat (λ x. refl) ∙ a.posted k s ∙ rec_keep (posted_by k) at s0 (Some r) (Some (record r { cancelled = true })) s is refl;
  cancelled = λ k s. touched (λ x. has_stream s x.cancelled) (s0 == s) k0 (noted (Cancelled s0)) seats k lt (λ x. any_snoc (λ other. other == s) x.cancelled s0) ∙ ap (λ b. b || ((k == k0) && (s0 == s))) (a.cancelled k s) ∙ flag_kept (λ x. x.cancelled) at s0 r (record r { cancelled = true }) k k0 s is own refl refl;
  abandoned = λ k s. proj_same (λ x. has_stream s x.abandoned) k0 (noted (Cancelled s0)) seats k no_seat (λ x. refl) ∙ a.abandoned k s ∙ rec_keep (abandoned_by k) at s0 (Some r) (Some (record r { cancelled = true })) s is refl;
  received = λ k s d. proj_same (λ x. list_any (is_last_of s) x.received) k0 (noted (Cancelled s0)) seats k no_seat (λ x. refl) ∙ a.received k s (rec_keep (drawn_by k) at s0 (Some r) (Some (record r { cancelled = true })) s is refl ∙ d) ∙ rec_keep (known (λ r. r.received_last)) at s0 (Some r) (Some (record r { cancelled = true })) s is refl;
  unreceived = λ k s none. proj_same (λ x. list_any (is_last_of s) x.received) k0 (noted (Cancelled s0)) seats k no_seat (λ x. refl) ∙ a.unreceived k s (none_keep at s0 (record r { cancelled = true }) s none);
  takers = λ k s. proj_same (λ x. has_stream s x.taken) k0 (noted (Cancelled s0)) seats k no_seat (λ x. refl) ∙ a.takers k s ∙ rec_keep (taken_by k) at s0 (Some r) (Some (record r { cancelled = true })) s is refl;
  eight = eight_keep at s0 (record r { cancelled = true }) a.eight (a.eight s0 r is);
  taken = λ s. any_unchanged (λ x. has_stream s x.taken) k0 (noted (Cancelled s0)) seats (λ x. refl) ∙ a.taken s ∙ rec_keep (known (λ r. r.taken)) at s0 (Some r) (Some (record r { cancelled = true })) s is refl;
  sent = λ s. weigh_unchanged (λ x. count_by (λ part. part.stream == s) x.sent) k0 (noted (Cancelled s0)) seats (λ x. refl) ∙ a.sent s ∙ rec_keep sent_of at s0 (Some r) (Some (record r { cancelled = true })) s is refl;
  last_sent = λ s. any_unchanged (λ x. list_any (is_last_of s) x.sent) k0 (noted (Cancelled s0)) seats (λ x. refl) ∙ a.last_sent s ∙ rec_keep (known (λ r. r.last_sent)) at s0 (Some r) (Some (record r { cancelled = true })) s is refl;
  closed = λ s. any_unchanged (λ x. has_stream s x.closed) k0 (noted (Cancelled s0)) seats (λ x. refl) ∙ a.closed s ∙ rec_keep (known (λ r. r.closed)) at s0 (Some r) (Some (record r { cancelled = true })) s is refl;
}

pub agrees_abandoned : (seats : List SeatLists) (at : ℕ → Option Stream) (k0 s0 : ℕ) (r : Stream) → Agrees seats at → k0 < length seats → at s0 ≡ Some r → r.engine ≡ k0
    → Agrees (change_at k0 (noted (Abandoned s0)) seats) (changed at s0 (Some (record r { abandoned = true })))
agrees_abandoned seats at k0 s0 r a lt is own = record {
  drawn = λ k s. proj_same (λ x. has_stream s x.drawn) k0 (noted (Abandoned s0)) seats k no_seat (λ x. refl) ∙ a.drawn k s ∙ rec_keep (drawn_by k) at s0 (Some r) (Some (record r { abandoned = true })) s is refl;
  posted = λ k s. proj_same (λ x. has_stream s x.posted) k0 (noted (Abandoned s0)) seats k no_seat (λ x. refl) ∙ a.posted k s ∙ rec_keep (posted_by k) at s0 (Some r) (Some (record r { abandoned = true })) s is refl;
  cancelled = λ k s. proj_same (λ x. has_stream s x.cancelled) k0 (noted (Abandoned s0)) seats k no_seat (λ x. refl) ∙ a.cancelled k s ∙ rec_keep (cancelled_by k) at s0 (Some r) (Some (record r { abandoned = true })) s is refl;
  abandoned = λ k s. touched (λ x. has_stream s x.abandoned) (s0 == s) k0 (noted (Abandoned s0)) seats k lt (λ x. any_snoc (λ other. other == s) x.abandoned s0) ∙ ap (λ b. b || ((k == k0) && (s0 == s))) (a.abandoned k s) ∙ flag_kept (λ x. x.abandoned) at s0 r (record r { abandoned = true }) k k0 s is own refl refl;
  received = λ k s d. proj_same (λ x. list_any (is_last_of s) x.received) k0 (noted (Abandoned s0)) seats k no_seat (λ x. refl) ∙ a.received k s (rec_keep (drawn_by k) at s0 (Some r) (Some (record r { abandoned = true })) s is refl ∙ d) ∙ rec_keep (known (λ r. r.received_last)) at s0 (Some r) (Some (record r { abandoned = true })) s is refl;
  unreceived = λ k s none. proj_same (λ x. list_any (is_last_of s) x.received) k0 (noted (Abandoned s0)) seats k no_seat (λ x. refl) ∙ a.unreceived k s (none_keep at s0 (record r { abandoned = true }) s none);
  takers = λ k s. proj_same (λ x. has_stream s x.taken) k0 (noted (Abandoned s0)) seats k no_seat (λ x. refl) ∙ a.takers k s ∙ rec_keep (taken_by k) at s0 (Some r) (Some (record r { abandoned = true })) s is refl;
  eight = eight_keep at s0 (record r { abandoned = true }) a.eight (a.eight s0 r is);
  taken = λ s. any_unchanged (λ x. has_stream s x.taken) k0 (noted (Abandoned s0)) seats (λ x. refl) ∙ a.taken s ∙ rec_keep (known (λ r. r.taken)) at s0 (Some r) (Some (record r { abandoned = true })) s is refl;
  sent = λ s. weigh_unchanged (λ x. count_by (λ part. part.stream == s) x.sent) k0 (noted (Abandoned s0)) seats (λ x. refl) ∙ a.sent s ∙ rec_keep sent_of at s0 (Some r) (Some (record r { abandoned = true })) s is refl;
  last_sent = λ s. any_unchanged (λ x. list_any (is_last_of s) x.sent) k0 (noted (Abandoned s0)) seats (λ x. refl) ∙ a.last_sent s ∙ rec_keep (known (λ r. r.last_sent)) at s0 (Some r) (Some (record r { abandoned = true })) s is refl;
  closed = λ s. any_unchanged (λ x. has_stream s x.closed) k0 (noted (Abandoned s0)) seats (λ x. refl) ∙ a.closed s ∙ rec_keep (known (λ r. r.closed)) at s0 (Some r) (Some (record r { abandoned = true })) s is refl;
}

received_flag : (at : ℕ → Option Stream) (s0 : ℕ) (r : Stream) (k k0 s : ℕ) (last old : Bool) → at s0 ≡ Some r → drawn_by k (at s) ≡ true → old ≡ known (λ x. x.received_last) (at s)
    → (old || ((k == k0) && ((s0 == s) && last))) ≡ known (λ x. x.received_last) (changed at s0 (Some (record r { received_last = r.received_last || (r.engine == k0 && last) })) s)
received_flag at s0 r k k0 s last old is drawn was =
    record_at (known (λ x. x.received_last)) at s0 (Some (record r { received_last = r.received_last || (r.engine == k0 && last) })) s _
    (λ (e : s ≡ s0).
    let here : at s ≡ Some r = ap at e ∙ is in
    let test : (r.engine == k) ≡ true = sym (ap (drawn_by k) here) ∙ drawn in
    let engine : r.engine ≡ k = eqb-true r.engine k test in
    let before : old ≡ r.received_last = was ∙ ap (known (λ x. x.received_last)) here in
    rw (before, eq-eqb s0 s (sym e), engine) refl)
    (λ (ne : s ≢ s0). rw (ne_eqb s0 s (λ (z : s0 ≡ s). ne (sym z))) (no_flag old (k == k0) ∙ was))

pub agrees_received : (seats : List SeatLists) (at : ℕ → Option Stream) (k0 s0 : ℕ) (r : Stream) (p : Part) → Agrees seats at → k0 < length seats → p.stream ≡ s0 → at s0 ≡ Some r
    → Agrees (change_at k0 (noted (Received p)) seats) (changed at s0 (Some (record r { received_last = r.received_last || (r.engine == k0 && p.last) })))
agrees_received seats at k0 s0 r p a lt of is = record {
  drawn = λ k s. proj_same (λ x. has_stream s x.drawn) k0 (noted (Received p)) seats k no_seat (λ x. refl) ∙ a.drawn k s ∙ rec_keep (drawn_by k) at s0 (Some r) (Some (record r { received_last = r.received_last || (r.engine == k0 && p.last) })) s is refl;
  posted = λ k s. proj_same (λ x. has_stream s x.posted) k0 (noted (Received p)) seats k no_seat (λ x. refl) ∙ a.posted k s ∙ rec_keep (posted_by k) at s0 (Some r) (Some (record r { received_last = r.received_last || (r.engine == k0 && p.last) })) s is refl;
  cancelled = λ k s. proj_same (λ x. has_stream s x.cancelled) k0 (noted (Received p)) seats k no_seat (λ x. refl) ∙ a.cancelled k s ∙ rec_keep (cancelled_by k) at s0 (Some r) (Some (record r { received_last = r.received_last || (r.engine == k0 && p.last) })) s is refl;
  abandoned = λ k s. proj_same (λ x. has_stream s x.abandoned) k0 (noted (Received p)) seats k no_seat (λ x. refl) ∙ a.abandoned k s ∙ rec_keep (abandoned_by k) at s0 (Some r) (Some (record r { received_last = r.received_last || (r.engine == k0 && p.last) })) s is refl;
  received = λ k s d. let before : drawn_by k (at s) ≡ true = rec_keep (drawn_by k) at s0 (Some r) (Some (record r { received_last = r.received_last || (r.engine == k0 && p.last) })) s is refl ∙ d in touched (λ x. list_any (is_last_of s) x.received) ((p.stream == s) && p.last) k0 (noted (Received p)) seats k lt (λ x. any_snoc (is_last_of s) x.received p) ∙ ap (λ t. list_any (is_last_of s) (lists_at seats k).received || ((k == k0) && ((t == s) && p.last))) of ∙ received_flag at s0 r k k0 s p.last _ is before (a.received k s before);
  unreceived = λ k s none. touched (λ x. list_any (is_last_of s) x.received) ((p.stream == s) && p.last) k0 (noted (Received p)) seats k lt (λ x. any_snoc (is_last_of s) x.received p) ∙ ap (λ t. list_any (is_last_of s) (lists_at seats k).received || ((k == k0) && ((t == s) && p.last))) of ∙ ap (λ b. list_any (is_last_of s) (lists_at seats k).received || ((k == k0) && (b && p.last))) (ne_eqb s0 s (none_other at s0 (record r { received_last = r.received_last || (r.engine == k0 && p.last) }) s none)) ∙ no_flag (list_any (is_last_of s) (lists_at seats k).received) (k == k0) ∙ a.unreceived k s (none_keep at s0 (record r { received_last = r.received_last || (r.engine == k0 && p.last) }) s none);
  takers = λ k s. proj_same (λ x. has_stream s x.taken) k0 (noted (Received p)) seats k no_seat (λ x. refl) ∙ a.takers k s ∙ rec_keep (taken_by k) at s0 (Some r) (Some (record r { received_last = r.received_last || (r.engine == k0 && p.last) })) s is refl;
  eight = eight_keep at s0 (record r { received_last = r.received_last || (r.engine == k0 && p.last) }) a.eight (a.eight s0 r is);
  taken = λ s. any_unchanged (λ x. has_stream s x.taken) k0 (noted (Received p)) seats (λ x. refl) ∙ a.taken s ∙ rec_keep (known (λ r. r.taken)) at s0 (Some r) (Some (record r { received_last = r.received_last || (r.engine == k0 && p.last) })) s is refl;
  sent = λ s. weigh_unchanged (λ x. count_by (λ part. part.stream == s) x.sent) k0 (noted (Received p)) seats (λ x. refl) ∙ a.sent s ∙ rec_keep sent_of at s0 (Some r) (Some (record r { received_last = r.received_last || (r.engine == k0 && p.last) })) s is refl;
  last_sent = λ s. any_unchanged (λ x. list_any (is_last_of s) x.sent) k0 (noted (Received p)) seats (λ x. refl) ∙ a.last_sent s ∙ rec_keep (known (λ r. r.last_sent)) at s0 (Some r) (Some (record r { received_last = r.received_last || (r.engine == k0 && p.last) })) s is refl;
  closed = λ s. any_unchanged (λ x. has_stream s x.closed) k0 (noted (Received p)) seats (λ x. refl) ∙ a.closed s ∙ rec_keep (known (λ r. r.closed)) at s0 (Some r) (Some (record r { received_last = r.received_last || (r.engine == k0 && p.last) })) s is refl;
}

taker_flag : (at : ℕ → Option Stream) (s0 : ℕ) (r : Stream) (k k0 s : ℕ) → at s0 ≡ Some r → length r.takers ≡ 8 → k0 < 8
    → (taken_by k (at s) || ((k == k0) && (s0 == s))) ≡ taken_by k (changed at s0 (Some (record r { taken = true; takers = set r.takers k0 true })) s)
taker_flag at s0 r k k0 s is eight small =
    record_at (taken_by k) at s0 (Some (record r { taken = true; takers = set r.takers k0 true })) s _
    (λ (e : s ≡ s0). rw (e, is, eq-eqb s0 s0 refl)
    (⊎_elim
    (λ (same : k ≡ k0).
    let within : k0 < length r.takers = omega arith in
    rw (eq-eqb k k0 same, same, get_or-set_same r.takers k0 true false within, lt-ltb k0 8 small) (or_true (get_or r.takers k0 false)))
    (λ (ne : k ≢ k0). rw (ne_eqb k k0 ne, get_or-set_other r.takers k0 k true false ne) (or_false (nat_lt k 8 && get_or r.takers k false)))
    (cases_eq k k0)))
    (λ (ne : s ≢ s0). rw (ne_eqb s0 s (λ (z : s0 ≡ s). ne (sym z))) (no_flag (taken_by k (at s)) (k == k0)))

pub agrees_taken : (seats : List SeatLists) (at : ℕ → Option Stream) (k0 s0 : ℕ) (r : Stream) → Agrees seats at → k0 < length seats → at s0 ≡ Some r → k0 < 8
    → Agrees (change_at k0 (noted (Taken s0)) seats) (changed at s0 (Some (record r { taken = true; takers = set r.takers k0 true })))
agrees_taken seats at k0 s0 r a lt is small = record {
  drawn = λ k s. proj_same (λ x. has_stream s x.drawn) k0 (noted (Taken s0)) seats k no_seat (λ x. refl) ∙ a.drawn k s ∙ rec_keep (drawn_by k) at s0 (Some r) (Some (record r { taken = true; takers = set r.takers k0 true })) s is refl;
  posted = λ k s. proj_same (λ x. has_stream s x.posted) k0 (noted (Taken s0)) seats k no_seat (λ x. refl) ∙ a.posted k s ∙ rec_keep (posted_by k) at s0 (Some r) (Some (record r { taken = true; takers = set r.takers k0 true })) s is refl;
  cancelled = λ k s. proj_same (λ x. has_stream s x.cancelled) k0 (noted (Taken s0)) seats k no_seat (λ x. refl) ∙ a.cancelled k s ∙ rec_keep (cancelled_by k) at s0 (Some r) (Some (record r { taken = true; takers = set r.takers k0 true })) s is refl;
  abandoned = λ k s. proj_same (λ x. has_stream s x.abandoned) k0 (noted (Taken s0)) seats k no_seat (λ x. refl) ∙ a.abandoned k s ∙ rec_keep (abandoned_by k) at s0 (Some r) (Some (record r { taken = true; takers = set r.takers k0 true })) s is refl;
  received = λ k s d. proj_same (λ x. list_any (is_last_of s) x.received) k0 (noted (Taken s0)) seats k no_seat (λ x. refl) ∙ a.received k s (rec_keep (drawn_by k) at s0 (Some r) (Some (record r { taken = true; takers = set r.takers k0 true })) s is refl ∙ d) ∙ rec_keep (known (λ r. r.received_last)) at s0 (Some r) (Some (record r { taken = true; takers = set r.takers k0 true })) s is refl;
  unreceived = λ k s none. proj_same (λ x. list_any (is_last_of s) x.received) k0 (noted (Taken s0)) seats k no_seat (λ x. refl) ∙ a.unreceived k s (none_keep at s0 (record r { taken = true; takers = set r.takers k0 true }) s none);
  takers = λ k s. touched (λ x. has_stream s x.taken) (s0 == s) k0 (noted (Taken s0)) seats k lt (λ x. any_snoc (λ other. other == s) x.taken s0) ∙ ap (λ b. b || ((k == k0) && (s0 == s))) (a.takers k s) ∙ taker_flag at s0 r k k0 s is (a.eight s0 r is) small;
  eight = eight_keep at s0 (record r { taken = true; takers = set r.takers k0 true }) a.eight (length-set r.takers k0 true ∙ a.eight s0 r is);
  taken = λ s. any_changed (λ x. has_stream s x.taken) k0 (noted (Taken s0)) (s0 == s) seats lt (λ x. any_snoc (λ other. other == s) x.taken s0) ∙ ap (λ b. b || (s0 == s)) (a.taken s) ∙ ap (λ b. known (λ r. r.taken) (at s) || b) (sym (and_true (s0 == s))) ∙ all_flag (λ x. x.taken) at s0 r (record r { taken = true; takers = set r.takers k0 true }) s true is (sym (or_true r.taken));
  sent = λ s. weigh_unchanged (λ x. count_by (λ part. part.stream == s) x.sent) k0 (noted (Taken s0)) seats (λ x. refl) ∙ a.sent s ∙ rec_keep sent_of at s0 (Some r) (Some (record r { taken = true; takers = set r.takers k0 true })) s is refl;
  last_sent = λ s. any_unchanged (λ x. list_any (is_last_of s) x.sent) k0 (noted (Taken s0)) seats (λ x. refl) ∙ a.last_sent s ∙ rec_keep (known (λ r. r.last_sent)) at s0 (Some r) (Some (record r { taken = true; takers = set r.takers k0 true })) s is refl;
  closed = λ s. any_unchanged (λ x. has_stream s x.closed) k0 (noted (Taken s0)) seats (λ x. refl) ∙ a.closed s ∙ rec_keep (known (λ r. r.closed)) at s0 (Some r) (Some (record r { taken = true; takers = set r.takers k0 true })) s is refl;
}

next_of : (n : ℕ) (r : Stream) → n ≡ r.sent → n + 1 ≡ r.sent + 1
next_of n r next = ap (λ m. m + 1) next

sent_more : (at : ℕ → Option Stream) (s0 : ℕ) (r t : Stream) (s : ℕ) → at s0 ≡ Some r → t.sent ≡ r.sent + 1
    → sent_of (at s) + one_if (s0 == s) ≡ sent_of (changed at s0 (Some t) s)
sent_more at s0 r t s is more =
    record_at sent_of at s0 (Some t) s _
    (λ (e : s ≡ s0). rw (e, is, eq-eqb s0 s0 refl) (sym more))
    (λ (ne : s ≢ s0). rw (ne_eqb s0 s (λ (z : s0 ≡ s). ne (sym z))) (omega arith))

pub agrees_sent : (seats : List SeatLists) (at : ℕ → Option Stream) (k0 s0 : ℕ) (r : Stream) (p : Part) (n : ℕ) → Agrees seats at → k0 < length seats → p.stream ≡ s0 → at s0 ≡ Some r → n ≡ r.sent
    → Agrees (change_at k0 (noted (Sent p)) seats) (changed at s0 (Some (record r { sent = n + 1; last_sent = r.last_sent || p.last })))
agrees_sent seats at k0 s0 r p n a lt of is next = record {
  drawn = λ k s. proj_same (λ x. has_stream s x.drawn) k0 (noted (Sent p)) seats k no_seat (λ x. refl) ∙ a.drawn k s ∙ rec_keep (drawn_by k) at s0 (Some r) (Some (record r { sent = n + 1; last_sent = r.last_sent || p.last })) s is refl;
  posted = λ k s. proj_same (λ x. has_stream s x.posted) k0 (noted (Sent p)) seats k no_seat (λ x. refl) ∙ a.posted k s ∙ rec_keep (posted_by k) at s0 (Some r) (Some (record r { sent = n + 1; last_sent = r.last_sent || p.last })) s is refl;
  cancelled = λ k s. proj_same (λ x. has_stream s x.cancelled) k0 (noted (Sent p)) seats k no_seat (λ x. refl) ∙ a.cancelled k s ∙ rec_keep (cancelled_by k) at s0 (Some r) (Some (record r { sent = n + 1; last_sent = r.last_sent || p.last })) s is refl;
  abandoned = λ k s. proj_same (λ x. has_stream s x.abandoned) k0 (noted (Sent p)) seats k no_seat (λ x. refl) ∙ a.abandoned k s ∙ rec_keep (abandoned_by k) at s0 (Some r) (Some (record r { sent = n + 1; last_sent = r.last_sent || p.last })) s is refl;
  received = λ k s d. proj_same (λ x. list_any (is_last_of s) x.received) k0 (noted (Sent p)) seats k no_seat (λ x. refl) ∙ a.received k s (rec_keep (drawn_by k) at s0 (Some r) (Some (record r { sent = n + 1; last_sent = r.last_sent || p.last })) s is refl ∙ d) ∙ rec_keep (known (λ r. r.received_last)) at s0 (Some r) (Some (record r { sent = n + 1; last_sent = r.last_sent || p.last })) s is refl;
  unreceived = λ k s none. proj_same (λ x. list_any (is_last_of s) x.received) k0 (noted (Sent p)) seats k no_seat (λ x. refl) ∙ a.unreceived k s (none_keep at s0 (record r { sent = n + 1; last_sent = r.last_sent || p.last }) s none);
  takers = λ k s. proj_same (λ x. has_stream s x.taken) k0 (noted (Sent p)) seats k no_seat (λ x. refl) ∙ a.takers k s ∙ rec_keep (taken_by k) at s0 (Some r) (Some (record r { sent = n + 1; last_sent = r.last_sent || p.last })) s is refl;
  eight = eight_keep at s0 (record r { sent = n + 1; last_sent = r.last_sent || p.last }) a.eight (a.eight s0 r is);
  taken = λ s. any_unchanged (λ x. has_stream s x.taken) k0 (noted (Sent p)) seats (λ x. refl) ∙ a.taken s ∙ rec_keep (known (λ r. r.taken)) at s0 (Some r) (Some (record r { sent = n + 1; last_sent = r.last_sent || p.last })) s is refl;
  sent = λ s. weigh_changed (λ x. count_by (λ part. part.stream == s) x.sent) k0 (noted (Sent p)) (one_if (p.stream == s)) seats lt (λ x. count_snoc (λ part. part.stream == s) x.sent p) ∙ ap (λ m. m + one_if (p.stream == s)) (a.sent s) ∙ ap (λ t. sent_of (at s) + one_if (t == s)) of ∙ sent_more at s0 r (record r { sent = n + 1; last_sent = r.last_sent || p.last }) s is (next_of n r next);
  last_sent = λ s. any_changed (λ x. list_any (is_last_of s) x.sent) k0 (noted (Sent p)) ((p.stream == s) && p.last) seats lt (λ x. any_snoc (is_last_of s) x.sent p) ∙ ap (λ b. b || ((p.stream == s) && p.last)) (a.last_sent s) ∙ ap (λ t. known (λ r. r.last_sent) (at s) || ((t == s) && p.last)) of ∙ all_flag (λ x. x.last_sent) at s0 r (record r { sent = n + 1; last_sent = r.last_sent || p.last }) s p.last is refl;
  closed = λ s. any_unchanged (λ x. has_stream s x.closed) k0 (noted (Sent p)) seats (λ x. refl) ∙ a.closed s ∙ rec_keep (known (λ r. r.closed)) at s0 (Some r) (Some (record r { sent = n + 1; last_sent = r.last_sent || p.last })) s is refl;
}

pub agrees_closed : (seats : List SeatLists) (at : ℕ → Option Stream) (k0 s0 : ℕ) (r : Stream) → Agrees seats at → k0 < length seats → at s0 ≡ Some r
    → Agrees (change_at k0 (noted (Closed s0)) seats) (changed at s0 (Some (record r { closed = true })))
agrees_closed seats at k0 s0 r a lt is = record {
  drawn = λ k s. proj_same (λ x. has_stream s x.drawn) k0 (noted (Closed s0)) seats k no_seat (λ x. refl) ∙ a.drawn k s ∙ rec_keep (drawn_by k) at s0 (Some r) (Some (record r { closed = true })) s is refl;
  posted = λ k s. proj_same (λ x. has_stream s x.posted) k0 (noted (Closed s0)) seats k no_seat (λ x. refl) ∙ a.posted k s ∙ rec_keep (posted_by k) at s0 (Some r) (Some (record r { closed = true })) s is refl;
  cancelled = λ k s. proj_same (λ x. has_stream s x.cancelled) k0 (noted (Closed s0)) seats k no_seat (λ x. refl) ∙ a.cancelled k s ∙ rec_keep (cancelled_by k) at s0 (Some r) (Some (record r { closed = true })) s is refl;
  abandoned = λ k s. proj_same (λ x. has_stream s x.abandoned) k0 (noted (Closed s0)) seats k no_seat (λ x. refl) ∙ a.abandoned k s ∙ rec_keep (abandoned_by k) at s0 (Some r) (Some (record r { closed = true })) s is refl;
  received = λ k s d. proj_same (λ x. list_any (is_last_of s) x.received) k0 (noted (Closed s0)) seats k no_seat (λ x. refl) ∙ a.received k s (rec_keep (drawn_by k) at s0 (Some r) (Some (record r { closed = true })) s is refl ∙ d) ∙ rec_keep (known (λ r. r.received_last)) at s0 (Some r) (Some (record r { closed = true })) s is refl;
  unreceived = λ k s none. proj_same (λ x. list_any (is_last_of s) x.received) k0 (noted (Closed s0)) seats k no_seat (λ x. refl) ∙ a.unreceived k s (none_keep at s0 (record r { closed = true }) s none);
  takers = λ k s. proj_same (λ x. has_stream s x.taken) k0 (noted (Closed s0)) seats k no_seat (λ x. refl) ∙ a.takers k s ∙ rec_keep (taken_by k) at s0 (Some r) (Some (record r { closed = true })) s is refl;
  eight = eight_keep at s0 (record r { closed = true }) a.eight (a.eight s0 r is);
  taken = λ s. any_unchanged (λ x. has_stream s x.taken) k0 (noted (Closed s0)) seats (λ x. refl) ∙ a.taken s ∙ rec_keep (known (λ r. r.taken)) at s0 (Some r) (Some (record r { closed = true })) s is refl;
  sent = λ s. weigh_unchanged (λ x. count_by (λ part. part.stream == s) x.sent) k0 (noted (Closed s0)) seats (λ x. refl) ∙ a.sent s ∙ rec_keep sent_of at s0 (Some r) (Some (record r { closed = true })) s is refl;
  last_sent = λ s. any_unchanged (λ x. list_any (is_last_of s) x.sent) k0 (noted (Closed s0)) seats (λ x. refl) ∙ a.last_sent s ∙ rec_keep (known (λ r. r.last_sent)) at s0 (Some r) (Some (record r { closed = true })) s is refl;
  closed = λ s. any_changed (λ x. has_stream s x.closed) k0 (noted (Closed s0)) (s0 == s) seats lt (λ x. any_snoc (λ other. other == s) x.closed s0) ∙ ap (λ b. b || (s0 == s)) (a.closed s) ∙ ap (λ b. known (λ r. r.closed) (at s) || b) (sym (and_true (s0 == s))) ∙ all_flag (λ x. x.closed) at s0 r (record r { closed = true }) s true is (sym (or_true r.closed));
}
