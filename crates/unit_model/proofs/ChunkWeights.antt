-- What the chunks that seats own weigh, where one owner changes or those of a run.
use Rattle.std.proofs.Common.{ℕ, zero, suc, ◌+◌, ◌≡◌, ◌≤◌, ◌<◌, inr, Bool, true, false, cond, List, length, get_or, set, refl, ap, arith, get_or-set_same, get_or-set_other}
use Rattle.std.proofs.lemmas.List.{length-set}
use Rattle.unit_model.proofs.ChangedCore.{length-set_all, set_all_outside}
use Rattle.unit_model.proofs.Weights.{weigh_range, below_change, below_none, below_same}
use Rattle.unit_model.specs.ChunkWeights.{is_seats, seat_weight, run_numbers}
use Rattle.unit_model.specs.Core.{chunk_number}
use Rattle.unit_model.specs.Effects.{set_all}
use Rattle.unit_model.specs.Holding.{IsInRun}
use Rattle.unit_model.specs.Runs.{chunks_for}
use Rattle.unit_model.specs.Weights.{weigh, below}
use Rattle.unit_model.specs.declared.machine.Owner.{Owner}
use Rattle.unit_model.specs.declared.machine.Owner.TheVariants.{Free, Seat, Message}
use Rattle.unit_model.specs.declared.runs.Run.{Run}

-- ---- one owner and a run of owners

-- what a chunk weighs by its owner
pub term : (f : ℕ → ℕ) → ℕ → Owner → ℕ
term f number owner = cond (is_seats owner) (f number) 0

pub weight_set : (owners : List Owner) (i : ℕ) (owner : Owner) (f : ℕ → ℕ) → i < length owners → seat_weight (set owners i owner) f + term f i (get_or owners i Free) ≡ seat_weight owners f + term f i owner
unfolding term
weight_set owners i owner f lt =
    omega (
      arith,
      ap (below (λ n. cond (is_seats (get_or (set owners i owner) n Free)) (f n) 0)) (length-set owners i owner),
      below_change (λ n. cond (is_seats (get_or owners n Free)) (f n) 0) (λ n. cond (is_seats (get_or (set owners i owner) n Free)) (f n) 0) (length owners) i lt
          (λ n within other. ap (λ (o : Owner). cond (is_seats o) (f n) 0) (get_or-set_other owners i n owner Free other)),
      ap (λ (o : Owner). cond (is_seats o) (f i) 0) (get_or-set_same owners i owner Free lt),
    )

pub weight_all : (owners : List Owner) (first count : ℕ) (owner : Owner) (f : ℕ → ℕ) → first + count ≤ length owners
    → seat_weight (set_all owners first count owner) f + below (λ i. term f (first + i) (get_or owners (first + i) Free)) count ≡ seat_weight owners f + below (λ i. term f (first + i) owner) count
weight_all owners first zero owner f le = omega arith
weight_all owners first (suc count) owner f le =
    omega (
      arith,
      weight_all owners first count owner f (omega (arith, le)),
      weight_set (set_all owners first count owner) (first + count) owner f (omega (arith, le, length-set_all owners first count owner)),
      ap (term f (first + count)) (set_all_outside owners first count owner Free (first + count) (inr (omega arith))),
    )

-- a run that no seat owned goes to a seat
pub weight_gained : (owners : List Owner) (run : Run) (s : ℕ) (f : ℕ → ℕ) → chunk_number run.segment run.chunk + chunks_for run.size ≤ length owners → ((n : ℕ) → IsInRun run n → is_seats (get_or owners n Free) ≡ false)
    → seat_weight (set_all owners (chunk_number run.segment run.chunk) (chunks_for run.size) (Seat s)) f ≡ seat_weight owners f + weigh f (run_numbers run)
unfolding term
weight_gained owners run s f le off =
    let first : ℕ = chunk_number run.segment run.chunk in
    let count : ℕ = chunks_for run.size in
    omega (
      arith,
      weight_all owners first count (Seat s) f le,
      below_none (λ i. term f (first + i) (get_or owners (first + i) Free)) count (λ i lt. ap (λ (b : Bool). cond b (f (first + i)) 0) (off (first + i) (omega arith, omega (arith, lt)))),
      weigh_range f first count,
    )

-- a run of a seat goes to a message
pub weight_lost : (owners : List Owner) (run : Run) (queue item : ℕ) (f : ℕ → ℕ) → chunk_number run.segment run.chunk + chunks_for run.size ≤ length owners → ((n : ℕ) → IsInRun run n → is_seats (get_or owners n Free) ≡ true)
    → seat_weight (set_all owners (chunk_number run.segment run.chunk) (chunks_for run.size) (Message queue item)) f + weigh f (run_numbers run) ≡ seat_weight owners f
unfolding term
weight_lost owners run queue item f le on =
    let first : ℕ = chunk_number run.segment run.chunk in
    let count : ℕ = chunks_for run.size in
    omega (
      arith,
      weight_all owners first count (Message queue item) f le,
      below_none (λ i. term f (first + i) (Message queue item)) count (λ i lt. refl),
      below_same (λ i. term f (first + i) (get_or owners (first + i) Free)) (λ i. f (first + i)) count (λ i lt. ap (λ (b : Bool). cond b (f (first + i)) 0) (on (first + i) (omega arith, omega (arith, lt)))),
      weigh_range f first count,
    )
