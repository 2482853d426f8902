-- Steps as one law, and what code that makes them sets.
use Rattle.std.proofs.Common.{ℕ, ◌+◌, ◌-◌, ◌/◌, ◌%◌, ◌≡◌, ◌<◌, refl, sym, ap, ◌∙◌, subst, arith, div-add-mod'}
use Rattle.chunk_map.specs.Words.{SetsBit}
use Rattle.nncq_ring.specs.Words.{entry_of}
use Rattle.unit_model.specs.Holding.{items_of}
use Rattle.unit_model.specs.Soundness.{IsSound}
use Rattle.unit_model.specs.declared.machine.Core.{Core}
use Rattle.unit_model.specs.declared.machine.Step.{Step}
use Rattle.unit_model.specs.declared.machine.Step.TheVariants.{Draw, Claim, Release, Open, GetItem, SetRun, SetPart, Arm, Push, Pop, Settle, GiveItem, Abandon}
use Rattle.unit_model.specs.declared.shape.Shape.{Shape}
use Rattle.fabric_words.specs.Laws.{StepIsShown}
use Rattle.fabric_words.specs.Makes.{Makes, PutsEntry}
use Rattle.fabric_words.specs.Needs.{Needs}
use Rattle.fabric_words.specs.Places.{Sets, SetsChunk, queues_of}
use Rattle.fabric_words.specs.Shown.{Shows, IsStep}
use Rattle.fabric_words.specs.declared.place.Place.{Place}
use Rattle.fabric_words.specs.declared.place.Place.TheVariants.{Tail, Slot, Chunks}
use Rattle.fabric_words.specs.declared.place.Side.{Side}
use Rattle.fabric_words.proofs.ItemSteps.{set_run_step, set_part_step, arm_step, settle_step}
use Rattle.fabric_words.proofs.OtherSteps.{draw_step, claim_step, release_step, open_step, abandon_step}
use Rattle.fabric_words.proofs.RingSteps.{push_step, give_step, pop_step, get_step, help_step}

each_step : (step : Step) → StepIsShown step
each_step (Draw seat stream) = draw_step seat stream
each_step (Claim seat segment chunk) = claim_step seat segment chunk
each_step (Release seat segment chunk) = release_step seat segment chunk
each_step (Open seat count) = open_step seat count
each_step (GetItem seat queue item place) = get_step seat queue item place
each_step (SetRun seat queue item run) = set_run_step seat queue item run
each_step (SetPart seat queue item part) = set_part_step seat queue item part
each_step (Arm seat queue item stream) = arm_step seat queue item stream
each_step (Push seat queue item place) = push_step seat queue item place
each_step (Pop seat queue item place) = pop_step seat queue item place
each_step (Settle seat queue item stream) = settle_step seat queue item stream
each_step (GiveItem seat queue item place) = give_step seat queue item place
each_step (Abandon seat stream) = abandon_step seat stream

-- a change that is made is the step, of a core of this shape
pub made_step : (shape : Shape) (word word' : Place → ℕ) (step : Step) → Makes shape word word' step → (core : Core) → core.shape ≡ shape → IsSound core → Shows word core → Needs word core step → IsStep word' core step
made_step shape word word' step made core is sound shows needs =
    each_step step word word' core sound shows needs (subst (λ (s : Shape). Makes s word word' step) (sym is) made)

-- and a tail that is moved on leaves what is shown
pub tail_helped : (shape : Shape) (word word' : Place → ℕ) (queue size tail : ℕ) (side : Side) → size ≡ items_of shape queue → queue < queues_of shape → word (Tail queue side) ≡ tail → word (Slot queue side (tail % size)) / size ≡ tail / size
    → Sets shape word word' (Tail queue side) (tail + 1) → (core : Core) → core.shape ≡ shape → Shows word core → Shows word' core
tail_helped shape word word' queue size tail side is_size there at full sets core is shows =
    let size' : size ≡ items_of core.shape queue = is_size ∙ sym (ap (λ (s : Shape). items_of s queue) is) in
    help_step word word' core shows queue tail side
    (subst (λ (s : Shape). queue < queues_of s) (sym is) there)
    at
    (subst (λ (n : ℕ). word (Slot queue side (tail % n)) / n ≡ tail / n) size' full)
    (subst (λ (s : Shape). Sets s word word' (Tail queue side) (tail + 1)) (sym is) sets)

-- the entry of an item at a place
pub entry_is : (n place item : ℕ) → place - place % n + item ≡ entry_of n place item
entry_is n place item = omega (arith, div-add-mod' place n)

pub entry_put : (shape : Shape) (word word' : Place → ℕ) (queue size place item : ℕ) (side : Side) → size ≡ items_of shape queue → Sets shape word word' (Slot queue side (place % size)) (place - place % size + item) → PutsEntry shape word word' queue side place item
entry_put shape word word' queue size place item side is sets =
    subst (λ (n : ℕ). Sets shape word word' (Slot queue side (place % n)) (entry_of n place item)) is
    (subst (λ (x : ℕ). Sets shape word word' (Slot queue side (place % size)) x) (entry_is size place item) sets)

-- a map word of which one bit is set
pub chunk_set : (shape : Shape) (word word' : Place → ℕ) (number value x : ℕ) → Sets shape word word' (Chunks (number / 64)) x → SetsBit (word (Chunks (number / 64))) x (number % 64) value → SetsChunk shape word word' number value
chunk_set shape word word' number value x sets bits = record {
  set = record { here = refl; others = sets.others };
  bit = subst (λ (y : ℕ). SetsBit (word (Chunks (number / 64))) y (number % 64) value) (sym sets.here) bits;
}
