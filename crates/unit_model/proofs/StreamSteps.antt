-- The counts of streams after the steps that change them: a stream is drawn, posted, cancelled, taken or abandoned.
use Rattle.std.proofs.Common.{◌≡◌, ◌≢◌, ℕ, ◌+◌, ◌<◌, ◌≤◌, List, length, refl, sym, ap, ◌∙◌, arith, inl, inr, ◌⊎◌}
use Rattle.std.proofs.lemmas.Bool.{cases_eq, cases_lt}
use Rattle.unit_model.specs.Core.{queue_of, item_of, blank}
use Rattle.unit_model.specs.Effects.{noted}
use Rattle.unit_model.specs.StreamCounts.{StreamCounts, drawn, posted, cancelled, abandoned, taken, line_tags, by_seat, by_all}
use Rattle.unit_model.specs.Weights.{is_number}
use Rattle.unit_model.specs.declared.machine.Core.{Core}
use Rattle.unit_model.specs.declared.machine.Item.{Item}
use Rattle.unit_model.specs.declared.machine.Note.TheVariants.{Drawn, Posted, Cancelled, Abandoned, Taken}
use Rattle.unit_model.specs.declared.machine.Seat.{Seat as SeatLists}
use Rattle.unit_model.proofs.Changes.{changed_length}
use Rattle.unit_model.proofs.ItemChanges.{SetsItem, each_item, weigh_items}
use Rattle.unit_model.proofs.SeatNotes.{Adds, Stays, Grows, stays, grows, rises, seat_in_all, all_less, all_less_at}
use Rattle.unit_model.proofs.StreamFrames.{SameFrame, SameLine}
use Rattle.unit_model.proofs.Weights.{is_number_same, is_number_other, weigh_at}

one_at : (n x : ℕ) → x ≡ n → is_number n x ≡ 1
one_at n x same = ap (is_number n) same ∙ is_number_same n

pub drawn_at_most_once : (core : Core) → StreamCounts core → (stream : ℕ) → by_all drawn core stream ≤ 1
drawn_at_most_once core counts s =
    elim (cases_eq s 0) [
      | inl zero ↦ omega (arith, counts.no_other s (inl zero))
      | inr some ↦ elim (cases_lt s core.next) [
        | inl below ↦ omega (arith, counts.drawn_once s (omega (arith, some)) below)
        | inr above ↦ omega (arith, counts.no_other s (inr above))
      ]
    ]

pub posted_at_most_once : (core : Core) → StreamCounts core → (stream : ℕ) → by_all posted core stream ≤ 1
posted_at_most_once core counts s =
    omega (arith, all_less posted drawn core s (λ k. counts.posted_by_drawer k s), drawn_at_most_once core counts s)

-- 0 isn't drawn
pub drawn_some : (core : Core) (seat stream : ℕ) → StreamCounts core → 1 ≤ by_seat drawn core seat stream → stream ≢ 0
drawn_some core seat stream counts has zero =
    absurd (omega (arith, has, seat_in_all drawn core seat stream refl, counts.no_other stream (inl zero)))

off_before : (core new : Core) (stream s : ℕ) → new.next ≡ stream + 1 → stream ≡ core.next → (s ≡ 0) ⊎ (new.next ≤ s) → (s ≡ 0) ⊎ (core.next ≤ s)
off_before core new stream s next is_next (inl zero) = inl zero
off_before core new stream s next is_next (inr above) = inr (omega (arith, above, next, is_next))

pub draws : (core new : Core) (seat stream : ℕ) → Adds core new seat (Drawn stream) → new.shape ≡ core.shape → new.next ≡ stream + 1 → stream ≡ core.next → SameLine core new → StreamCounts core → StreamCounts new
draws core new seat stream adds shape next is_next line old =
    let d : Grows drawn core new seat stream = grows drawn core new seat (Drawn stream) stream adds (λ l. refl) in
    let p : Stays posted core new = stays posted core new seat (Drawn stream) adds (λ l. refl) in
    let c : Stays cancelled core new = stays cancelled core new seat (Drawn stream) adds (λ l. refl) in
    let a : Stays abandoned core new = stays abandoned core new seat (Drawn stream) adds (λ l. refl) in
    let t : Stays taken core new = stays taken core new seat (Drawn stream) adds (λ l. refl) in
    record {
      seats = ap length adds.seats ∙ changed_length seat (noted (Drawn stream)) core.seats ∙ old.seats ∙ ap (λ s. s.engines + s.workers) (sym shape);
      next = omega (arith, next);
      drawn_once = λ s low high. elim (cases_eq stream s) [
        | inl this ↦ omega (arith, d.all s, one_at s stream this, old.no_other s (inr (omega (arith, this, is_next))))
        | inr other ↦ omega (arith, d.all s, is_number_other s stream other, old.drawn_once s low (omega (arith, high, next, other, is_next)))
      ];
      no_other = λ s off.
          let other : stream ≢ s = omega (arith, off, next, is_next, old.next) in
          omega (arith, d.all s, is_number_other s stream other, old.no_other s (off_before core new stream s next is_next off));
      posted_by_drawer = λ k s. omega (arith, p.each k s, rises drawn core new seat stream d k s, old.posted_by_drawer k s);
      one_state = λ s some. omega (arith, line.tags s, t.all s, c.all s, p.all s, old.one_state s some);
      no_zero = omega (arith, t.all 0, c.all 0, p.all 0, old.no_zero);
      cancelled_by_poster = λ k s. omega (arith, c.each k s, p.each k s, old.cancelled_by_poster k s);
      abandoned_by_poster = λ k s. omega (arith, a.each k s, p.each k s, old.abandoned_by_poster k s);
      abandoned_is_taken = λ s. omega (arith, a.all s, t.all s, old.abandoned_is_taken s);
      part_is_poster = λ i tagged.
          let same = line.items i tagged in
          let before = old.part_is_poster i (rw same.0 at tagged) in
          rw same.0 (rw same.1 (omega (arith, before, p.each (item_of core 0 i).part (item_of core 0 i).tag)));
    }

-- what an item of the line's queue counts for before and after
tags_change : (core new : Core) (item : ℕ) (now : Item) → SetsItem core new 0 item now → (s : ℕ) → line_tags new s + is_number s (item_of core 0 item).tag ≡ line_tags core s + is_number s now.tag
tags_change core new item now s stream = weigh_items (λ i. is_number stream i.tag) core new 0 item now s

-- a list that grows by a stream stays within another one that has it once more
pub stays_within : (list : SeatLists → List ℕ) (core new : Core) (seat stream : ℕ) (other : ℕ → ℕ → ℕ) → Grows list core new seat stream → ((k s : ℕ) → by_seat list core k s ≤ other k s) → by_seat list core seat stream + 1 ≤ other seat stream → (k s : ℕ) → by_seat list new k s ≤ other k s
stays_within list core new seat stream other g le more k s =
    elim (cases_eq k seat) [
      | inr away ↦ omega (arith, g.elsewhere k s away, le k s)
      | inl here ↦ rw here (elim (cases_eq stream s) [
        | inr beside ↦ omega (arith, g.here s, is_number_other s stream beside, le seat s)
        | inl this ↦ rw (sym this) (omega (arith, g.here stream, is_number_same stream, more))
      ])
    ]

pub posts : (core new : Core) (seat item stream : ℕ) (now : Item) → Adds core new seat (Posted stream) → SameFrame core new → SetsItem core new 0 item now → now.tag ≡ stream → now.part ≡ seat → (item_of core 0 item).tag ≡ 0 → 1 ≤ by_seat drawn core seat stream → by_seat posted core seat stream ≡ 0 → StreamCounts core → StreamCounts new
posts core new seat item stream now adds frame sets tag part untagged has fresh old =
    let d : Stays drawn core new = stays drawn core new seat (Posted stream) adds (λ l. refl) in
    let p : Grows posted core new seat stream = grows posted core new seat (Posted stream) stream adds (λ l. refl) in
    let c : Stays cancelled core new = stays cancelled core new seat (Posted stream) adds (λ l. refl) in
    let a : Stays abandoned core new = stays abandoned core new seat (Posted stream) adds (λ l. refl) in
    let t : Stays taken core new = stays taken core new seat (Posted stream) adds (λ l. refl) in
    let some : stream ≢ 0 = drawn_some core seat stream old has in
    let more : by_seat posted core seat stream + 1 ≤ by_seat drawn core seat stream = omega (arith, fresh, has) in
    let up : (k s : ℕ) → by_seat posted core k s ≤ by_seat posted new k s = rises posted core new seat stream p in
    record {
      seats = frame.seats ∙ old.seats ∙ ap (λ s. s.engines + s.workers) (sym frame.shape);
      next = omega (arith, old.next, frame.next);
      drawn_once = λ s low high. d.all s ∙ old.drawn_once s low (omega (arith, high, frame.next));
      no_other = λ s off. d.all s ∙ old.no_other s (rw frame.next at off);
      posted_by_drawer = λ k s. omega (arith, d.each k s, stays_within posted core new seat stream (λ k s. by_seat drawn core k s) p old.posted_by_drawer more k s);
      one_state = λ s ne. omega (arith, tags_change core new item now sets s, is_number_other s (item_of core 0 item).tag (omega (arith, ne, untagged)), ap (is_number s) tag, t.all s, c.all s, p.all s, old.one_state s ne);
      no_zero = omega (arith, is_number_other 0 stream some, t.all 0, c.all 0, p.all 0, old.no_zero);
      cancelled_by_poster = λ k s. omega (arith, c.each k s, up k s, old.cancelled_by_poster k s);
      abandoned_by_poster = λ k s. omega (arith, a.each k s, up k s, old.abandoned_by_poster k s);
      abandoned_is_taken = λ s. omega (arith, a.all s, t.all s, old.abandoned_is_taken s);
      part_is_poster = λ i.
          each_item (λ x. x.tag ≢ 0 → 1 ≤ by_seat posted new x.part x.tag) core new 0 item now sets 0 i
          (λ line this tagged. rw tag (rw part (omega (arith, p.here stream, is_number_same stream))))
          (λ beside tagged. omega (arith, old.part_is_poster i tagged, up (item_of core 0 i).part (item_of core 0 i).tag));
    }

-- the stream of a tagged item of the line's queue is in no other state
pub tagged_alone : (core : Core) (item stream : ℕ) → StreamCounts core → item < length (queue_of core 0).items → (item_of core 0 item).tag ≡ stream → stream ≢ 0 → (1 ≤ line_tags core stream) × (by_all cancelled core stream ≡ 0) × (by_all taken core stream ≡ 0)
tagged_alone core item stream old inside tag some =
    let here : 1 ≤ line_tags core stream = omega (arith, weigh_at (λ i. is_number stream i.tag) (queue_of core 0).items item blank inside, one_at stream (item_of core 0 item).tag tag) in
    let once = posted_at_most_once core old stream in
    let state = old.one_state stream some in
    (here, omega (arith, here, once, state), omega (arith, here, once, state))

pub cancels : (core new : Core) (seat item stream : ℕ) (now : Item) → Adds core new seat (Cancelled stream) → SameFrame core new → SetsItem core new 0 item now → now.tag ≡ 0 → (item_of core 0 item).tag ≡ stream → stream ≢ 0 → 1 ≤ by_seat posted core seat stream → StreamCounts core → StreamCounts new
cancels core new seat item stream now adds frame sets untagged tag some has old =
    let d : Stays drawn core new = stays drawn core new seat (Cancelled stream) adds (λ l. refl) in
    let p : Stays posted core new = stays posted core new seat (Cancelled stream) adds (λ l. refl) in
    let c : Grows cancelled core new seat stream = grows cancelled core new seat (Cancelled stream) stream adds (λ l. refl) in
    let a : Stays abandoned core new = stays abandoned core new seat (Cancelled stream) adds (λ l. refl) in
    let t : Stays taken core new = stays taken core new seat (Cancelled stream) adds (λ l. refl) in
    let alone = tagged_alone core item stream old sets.inside tag some in
    let more : by_seat cancelled core seat stream + 1 ≤ by_seat posted core seat stream = omega (arith, seat_in_all cancelled core seat stream refl, alone.1, has) in
    record {
      seats = frame.seats ∙ old.seats ∙ ap (λ s. s.engines + s.workers) (sym frame.shape);
      next = omega (arith, old.next, frame.next);
      drawn_once = λ s low high. d.all s ∙ old.drawn_once s low (omega (arith, high, frame.next));
      no_other = λ s off. d.all s ∙ old.no_other s (rw frame.next at off);
      posted_by_drawer = λ k s. omega (arith, p.each k s, d.each k s, old.posted_by_drawer k s);
      one_state = λ s ne. omega (arith, tags_change core new item now sets s, is_number_other s now.tag (omega (arith, ne, untagged)), ap (is_number s) tag, t.all s, c.all s, p.all s, old.one_state s ne);
      no_zero = omega (arith, is_number_other 0 stream some, t.all 0, c.all 0, p.all 0, old.no_zero);
      cancelled_by_poster = λ k s. omega (arith, p.each k s, stays_within cancelled core new seat stream (λ k s. by_seat posted core k s) c old.cancelled_by_poster more k s);
      abandoned_by_poster = λ k s. omega (arith, a.each k s, p.each k s, old.abandoned_by_poster k s);
      abandoned_is_taken = λ s. omega (arith, a.all s, t.all s, old.abandoned_is_taken s);
      part_is_poster = λ i.
          each_item (λ x. x.tag ≢ 0 → 1 ≤ by_seat posted new x.part x.tag) core new 0 item now sets 0 i
          (λ line this tagged. absurd (tagged untagged))
          (λ beside tagged. omega (arith, old.part_is_poster i tagged, p.each (item_of core 0 i).part (item_of core 0 i).tag));
    }

pub takes : (core new : Core) (seat item stream : ℕ) (now : Item) → Adds core new seat (Taken stream) → SameFrame core new → SetsItem core new 0 item now → now.tag ≡ 0 → (item_of core 0 item).tag ≡ stream → stream ≢ 0 → StreamCounts core → StreamCounts new
takes core new seat item stream now adds frame sets untagged tag some old =
    let d : Stays drawn core new = stays drawn core new seat (Taken stream) adds (λ l. refl) in
    let p : Stays posted core new = stays posted core new seat (Taken stream) adds (λ l. refl) in
    let c : Stays cancelled core new = stays cancelled core new seat (Taken stream) adds (λ l. refl) in
    let a : Stays abandoned core new = stays abandoned core new seat (Taken stream) adds (λ l. refl) in
    let t : Grows taken core new seat stream = grows taken core new seat (Taken stream) stream adds (λ l. refl) in
    record {
      seats = frame.seats ∙ old.seats ∙ ap (λ s. s.engines + s.workers) (sym frame.shape);
      next = omega (arith, old.next, frame.next);
      drawn_once = λ s low high. d.all s ∙ old.drawn_once s low (omega (arith, high, frame.next));
      no_other = λ s off. d.all s ∙ old.no_other s (rw frame.next at off);
      posted_by_drawer = λ k s. omega (arith, p.each k s, d.each k s, old.posted_by_drawer k s);
      one_state = λ s ne. omega (arith, tags_change core new item now sets s, is_number_other s now.tag (omega (arith, ne, untagged)), ap (is_number s) tag, t.all s, c.all s, p.all s, old.one_state s ne);
      no_zero = omega (arith, is_number_other 0 stream some, t.all 0, c.all 0, p.all 0, old.no_zero);
      cancelled_by_poster = λ k s. omega (arith, c.each k s, p.each k s, old.cancelled_by_poster k s);
      abandoned_by_poster = λ k s. omega (arith, a.each k s, p.each k s, old.abandoned_by_poster k s);
      abandoned_is_taken = λ s. omega (arith, a.all s, t.all s, old.abandoned_is_taken s);
      part_is_poster = λ i.
          each_item (λ x. x.tag ≢ 0 → 1 ≤ by_seat posted new x.part x.tag) core new 0 item now sets 0 i
          (λ line this tagged. absurd (tagged untagged))
          (λ beside tagged. omega (arith, old.part_is_poster i tagged, p.each (item_of core 0 i).part (item_of core 0 i).tag));
    }

pub abandons : (core new : Core) (seat stream : ℕ) → Adds core new seat (Abandoned stream) → SameFrame core new → SameLine core new → 1 ≤ by_seat posted core seat stream → by_seat abandoned core seat stream ≡ 0 → 1 ≤ by_all taken core stream → StreamCounts core → StreamCounts new
abandons core new seat stream adds frame line has fresh is_taken old =
    let d : Stays drawn core new = stays drawn core new seat (Abandoned stream) adds (λ l. refl) in
    let p : Stays posted core new = stays posted core new seat (Abandoned stream) adds (λ l. refl) in
    let c : Stays cancelled core new = stays cancelled core new seat (Abandoned stream) adds (λ l. refl) in
    let a : Grows abandoned core new seat stream = grows abandoned core new seat (Abandoned stream) stream adds (λ l. refl) in
    let t : Stays taken core new = stays taken core new seat (Abandoned stream) adds (λ l. refl) in
    let more : by_seat abandoned core seat stream + 1 ≤ by_seat posted core seat stream = omega (arith, fresh, has) in
    let none : by_all abandoned core stream ≡ 0 =
    omega (arith, all_less_at abandoned posted core stream seat adds.inside (λ k. old.abandoned_by_poster k stream), posted_at_most_once core old stream, has, fresh) in
    record {
      seats = frame.seats ∙ old.seats ∙ ap (λ s. s.engines + s.workers) (sym frame.shape);
      next = omega (arith, old.next, frame.next);
      drawn_once = λ s low high. d.all s ∙ old.drawn_once s low (omega (arith, high, frame.next));
      no_other = λ s off. d.all s ∙ old.no_other s (rw frame.next at off);
      posted_by_drawer = λ k s. omega (arith, p.each k s, d.each k s, old.posted_by_drawer k s);
      one_state = λ s ne. omega (arith, line.tags s, t.all s, c.all s, p.all s, old.one_state s ne);
      no_zero = omega (arith, t.all 0, c.all 0, p.all 0, old.no_zero);
      cancelled_by_poster = λ k s. omega (arith, c.each k s, p.each k s, old.cancelled_by_poster k s);
      abandoned_by_poster = λ k s. omega (arith, p.each k s, stays_within abandoned core new seat stream (λ k s. by_seat posted core k s) a old.abandoned_by_poster more k s);
      abandoned_is_taken = λ s. elim (cases_eq stream s) [
        | inr other ↦ omega (arith, a.all s, t.all s, is_number_other s stream other, old.abandoned_is_taken s)
        | inl this ↦ rw (sym this) (omega (arith, a.all stream, t.all stream, is_number_same stream, none, is_taken))
      ];
      part_is_poster = λ i tagged.
          let same = line.items i tagged in
          let before = old.part_is_poster i (rw same.0 at tagged) in
          rw same.0 (rw same.1 (omega (arith, before, p.each (item_of core 0 i).part (item_of core 0 i).tag)));
    }
