-- All stays held right by each step that changes a chunk's owner, and by the opening of a segment.
use Rattle.std.proofs.Common.{◌≡◌, ◌≢◌, ℕ, ◌+◌, ◌<◌, ◌≤◌, ◌==◌, List, length, get_or, set, refl, sym, ap, subst, ◌∙◌, arith, inl, inr, ◌⊎◌}
use Rattle.std.proofs.lemmas.Bool.{cases_Bool}
use Rattle.std.proofs.lemmas.List.{length-set}
use Rattle.unit_model.proofs.ChangedCore.{each_item_changed, each_set, each_set_all}
use Rattle.unit_model.proofs.HeldFrames.{keeps_shape, keeps_streams}
use Rattle.unit_model.specs.Core.{blank, no_queue, queue_of, item_of, owner_of, chunk_number}
use Rattle.unit_model.specs.Effects.{set_all}
use Rattle.unit_model.specs.Holding.{IsHeldRight, HasItsOwners, HasItsShape, HasItsSegments, FitsQueue, IsInRun, end_segment}
use Rattle.unit_model.specs.Lists.{change_at}
use Rattle.unit_model.specs.Runs.{chunks_for}
use Rattle.unit_model.specs.declared.machine.Core.{Core}
use Rattle.unit_model.specs.declared.machine.Item.{Item}
use Rattle.unit_model.specs.declared.machine.Owner.{Owner}
use Rattle.unit_model.specs.declared.machine.Owner.TheVariants.{Free, Seat, Message}
use Rattle.unit_model.specs.declared.machine.Queue.{Queue}
use Rattle.unit_model.specs.declared.machine.Seat.{Seat as SeatLists}
use Rattle.unit_model.specs.declared.runs.Run.{Run}
use Rattle.unit_model.specs.declared.shape.Shape.{Shape}

-- ---- one chunk

-- a chunk that no message owns goes to one who is no message
pub one_owner : (core : Core) (number : ℕ) (new : Owner) → HasItsOwners core → number < length core.owners → ((queue item : ℕ) → owner_of core number ≡ Message queue item → ⊥) → ((queue item : ℕ) → new ≡ Message queue item → ⊥) → ((seat : ℕ) → new ≡ Seat seat → seat < core.shape.engines + core.shape.workers) → HasItsOwners (record core { owners = set core.owners number new })
one_owner core number new owners inside was is there = record {
  messages = λ n queue item. each_set (λ k owner. owner ≡ Message queue item → ((item_of core queue item).tag ≢ 0) × IsInRun (item_of core queue item).run k) core.owners number new Free inside
      (λ same. absurd (is queue item same)) (λ k other. owners.messages k queue item) n;
  runs = λ n queue item armed. each_set (λ k owner. IsInRun (item_of core queue item).run k → owner ≡ Message queue item) core.owners number new Free inside
      (λ within. absurd (was queue item (owners.runs number queue item armed within))) (λ k other. owners.runs k queue item armed) n;
  fits = owners.fits;
  seats = λ n seat. each_set (λ k owner. owner ≡ Seat seat → seat < core.shape.engines + core.shape.workers) core.owners number new Free inside
      (there seat) (λ k other. owners.seats k seat) n;
}

pub held_owner : (core : Core) (number : ℕ) (new : Owner) → IsHeldRight core → HasItsOwners (record core { owners = set core.owners number new }) → HasItsSegments (record core { owners = set core.owners number new }) → IsHeldRight (record core { owners = set core.owners number new })
held_owner core number new held owners segments =
    let all = set core.owners number new in
    record {
      shape = keeps_shape core core.next core.opened all core.queues core.seats held.shape (length-set core.owners number new) refl (λ q. refl) refl;
      queues = held.queues;
      owners = owners;
      segments = segments;
      streams = keeps_streams core core.next core.opened all core.queues held.streams held.streams.next;
    }

-- ---- the chunks of a run

-- a chunk of the run has the new owner, and every other one its old one
pub owner_cases : (owners : List Owner) (run : Run) (new : Owner) → chunk_number run.segment run.chunk + chunks_for run.size ≤ length owners → (n : ℕ) → (IsInRun run n × (get_or (set_all owners (chunk_number run.segment run.chunk) (chunks_for run.size) new) n Free ≡ new)) ⊎ ((IsInRun run n → ⊥) × (get_or (set_all owners (chunk_number run.segment run.chunk) (chunks_for run.size) new) n Free ≡ get_or owners n Free))
owner_cases owners run new inside =
    each_set_all (λ n owner. (IsInRun run n × (owner ≡ new)) ⊎ ((IsInRun run n → ⊥) × (owner ≡ get_or owners n Free)))
    owners (chunk_number run.segment run.chunk) (chunks_for run.size) new Free inside (λ n low high. inl ((low, high), refl)) (λ n other. inr (other, refl))

-- an item is the new one, or as it was
item_cases : (queues : List Queue) (q i : ℕ) (change : Queue → Queue) (new : Item) → (change (get_or queues q no_queue)).items ≡ set (get_or queues q no_queue).items i new → i < length (get_or queues q no_queue).items → (m j : ℕ) → ((m ≡ q) × (j ≡ i) × (get_or (get_or (change_at q change queues) m no_queue).items j blank ≡ new)) ⊎ ((m ≡ q → j ≡ i → ⊥) × (get_or (get_or (change_at q change queues) m no_queue).items j blank ≡ get_or (get_or queues m no_queue).items j blank))
item_cases queues q i change new sets inside =
    each_item_changed (λ m j item. ((m ≡ q) × (j ≡ i) × (item ≡ new)) ⊎ ((m ≡ q → j ≡ i → ⊥) × (item ≡ get_or (get_or queues m no_queue).items j blank)))
    queues q i change new sets inside (inl (refl, refl, refl)) (λ m j other. inr (other, refl))

end_is_there : (shape : Shape) (queue : ℕ) → end_segment shape queue ≤ shape.out_segments + shape.back_segments
end_is_there shape queue =
    elim (cases_Bool (queue == 0)) [
      | inl line ↦ let end : end_segment shape queue ≡ shape.out_segments = rw line refl in omega (arith, end)
      | inr back ↦ let end : end_segment shape queue ≡ shape.out_segments + shape.back_segments = rw back refl in omega (arith, end)
    ]

-- a run that fits is there
pub run_is_there : (core : Core) (queue : ℕ) (run : Run) → HasItsShape core → FitsQueue core.shape queue run → chunk_number run.segment run.chunk + chunks_for run.size ≤ length core.owners
run_is_there core queue run shape fits = omega (arith, shape.chunks, fits.in_segment, fits.on_side.1, end_is_there core.shape queue)

-- an item that is armed gets the chunks of its run, which no message had
pub armed_owners : (core : Core) (q i : ℕ) (new : Item) (change : Queue → Queue) (seats : List SeatLists) → HasItsOwners core → HasItsShape core → (change (queue_of core q)).items ≡ set (queue_of core q).items i new → i < length (queue_of core q).items → (item_of core q i).tag ≡ 0 → new.tag ≢ 0 → FitsQueue core.shape q new.run → ((n : ℕ) → IsInRun new.run n → (m j : ℕ) → owner_of core n ≡ Message m j → ⊥) → HasItsOwners (record core { owners = set_all core.owners (chunk_number new.run.segment new.run.chunk) (chunks_for new.run.size) (Message q i); queues = change_at q change core.queues; seats = seats })
armed_owners core q i new change seats owners shape sets inside none armed fits free =
    let owner_is = owner_cases core.owners new.run (Message q i) (run_is_there core q new.run shape fits) in
    let item_is = item_cases core.queues q i change new sets inside in
    record {
      messages = λ n m j is. elim (owner_is n) [
        | inl here ↦
            let same : Message q i ≡ Message m j = sym here.1 ∙ is in
            let queue : m ≡ q = cc in
            let item : j ≡ i = cc in
            elim (item_is m j) [
              | inl this ↦ (λ zero. armed (sym (ap (λ (x : Item). x.tag) this.2) ∙ zero), subst (λ (run : Run). IsInRun run n) (sym (ap (λ (x : Item). x.run) this.2)) here.0)
              | inr that ↦ absurd (that.0 queue item)
            ]
        | inr away ↦
            let was = owners.messages n m j (sym away.1 ∙ is) in
            elim (item_is m j) [
              | inl this ↦ let queue : m ≡ q = this.0 in let item : j ≡ i = this.1 in let zero : (item_of core m j).tag ≡ 0 = cc in absurd (was.0 zero)
              | inr that ↦ (λ zero. was.0 (sym (ap (λ (x : Item). x.tag) that.1) ∙ zero), subst (λ (run : Run). IsInRun run n) (sym (ap (λ (x : Item). x.run) that.1)) was.1)
            ]
      ];
      runs = λ n m j has within. elim (item_is m j) [
        | inl this ↦
            let queue : m ≡ q = this.0 in
            let item : j ≡ i = this.1 in
            let same : Message q i ≡ Message m j = cc in
            elim (owner_is n) [
              | inl here ↦ here.1 ∙ same
              | inr away ↦ absurd (away.0 (subst (λ (run : Run). IsInRun run n) (ap (λ (x : Item). x.run) this.2) within))
            ]
        | inr that ↦
            let was = owners.runs n m j (λ zero. has (ap (λ (x : Item). x.tag) that.1 ∙ zero)) (subst (λ (run : Run). IsInRun run n) (ap (λ (x : Item). x.run) that.1) within) in
            elim (owner_is n) [
              | inl here ↦ absurd (free n here.0 m j was)
              | inr away ↦ away.1 ∙ was
            ]
      ];
      fits = λ m j has. elim (item_is m j) [
        | inl this ↦ subst (λ (k : ℕ). FitsQueue core.shape k (get_or (get_or (change_at q change core.queues) m no_queue).items j blank).run) (sym this.0) (subst (λ (run : Run). FitsQueue core.shape q run) (sym (ap (λ (x : Item). x.run) this.2)) fits)
        | inr that ↦ subst (λ (run : Run). FitsQueue core.shape m run) (sym (ap (λ (x : Item). x.run) that.1)) (owners.fits m j (λ zero. has (ap (λ (x : Item). x.tag) that.1 ∙ zero)))
      ];
      seats = λ n seat is. elim (owner_is n) [
        | inl here ↦ absurd (cc (here.1, is))
        | inr away ↦ owners.seats n seat (sym away.1 ∙ is)
      ];
    }

-- an item that loses its tag gives the chunks of its run to a seat that is there
pub settled_owners : (core : Core) (q i seat : ℕ) (new : Item) (change : Queue → Queue) (seats : List SeatLists) → HasItsOwners core → HasItsShape core → (change (queue_of core q)).items ≡ set (queue_of core q).items i new → i < length (queue_of core q).items → (item_of core q i).tag ≢ 0 → new.tag ≡ 0 → new.run ≡ (item_of core q i).run → seat < core.shape.engines + core.shape.workers → HasItsOwners (record core { owners = set_all core.owners (chunk_number new.run.segment new.run.chunk) (chunks_for new.run.size) (Seat seat); queues = change_at q change core.queues; seats = seats })
settled_owners core q i seat new change seats owners shape sets inside armed none same_run there =
    let fits = subst (λ (run : Run). FitsQueue core.shape q run) (sym same_run) (owners.fits q i armed) in
    let owner_is = owner_cases core.owners new.run (Seat seat) (run_is_there core q new.run shape fits) in
    let item_is = item_cases core.queues q i change new sets inside in
    record {
      messages = λ n m j is. elim (owner_is n) [
        | inl here ↦ absurd (cc (here.1, is))
        | inr away ↦
            let was = owners.messages n m j (sym away.1 ∙ is) in
            elim (item_is m j) [
              | inl this ↦
                  let queue : m ≡ q = this.0 in
                  let item : j ≡ i = this.1 in
                  let run : (item_of core m j).run ≡ new.run = cc in
                  absurd (away.0 (subst (λ (run : Run). IsInRun run n) run was.1))
              | inr that ↦ (λ zero. was.0 (sym (ap (λ (x : Item). x.tag) that.1) ∙ zero), subst (λ (run : Run). IsInRun run n) (sym (ap (λ (x : Item). x.run) that.1)) was.1)
            ]
      ];
      runs = λ n m j has within. elim (item_is m j) [
        | inl this ↦ absurd (has (ap (λ (x : Item). x.tag) this.2 ∙ none))
        | inr that ↦
            let was = owners.runs n m j (λ zero. has (ap (λ (x : Item). x.tag) that.1 ∙ zero)) (subst (λ (run : Run). IsInRun run n) (ap (λ (x : Item). x.run) that.1) within) in
            elim (owner_is n) [
              | inl here ↦
                  let mine = owners.runs n q i armed (subst (λ (run : Run). IsInRun run n) same_run here.0) in
                  let both : Message m j ≡ Message q i = sym was ∙ mine in
                  let queue : m ≡ q = cc in
                  let item : j ≡ i = cc in
                  absurd (that.0 queue item)
              | inr away ↦ away.1 ∙ was
            ]
      ];
      fits = λ m j has. elim (item_is m j) [
        | inl this ↦ absurd (has (ap (λ (x : Item). x.tag) this.2 ∙ none))
        | inr that ↦ subst (λ (run : Run). FitsQueue core.shape m run) (sym (ap (λ (x : Item). x.run) that.1)) (owners.fits m j (λ zero. has (ap (λ (x : Item). x.tag) that.1 ∙ zero)))
      ];
      seats = λ n k is. elim (owner_is n) [
        | inl here ↦ let both : Seat seat ≡ Seat k = sym here.1 ∙ is in let same : seat ≡ k = cc in omega (arith, same)
        | inr away ↦ owners.seats n k (sym away.1 ∙ is)
      ];
    }
