-- What each step keeps, each list of steps keeps; and what is kept says each point.
use Rattle.std.proofs.Common.{◌≡◌, ℕ, false, List, [], ◌∷◌, arith, refl, inl, inr}
use Rattle.std.proofs.lemmas.Bool.{cases_Bool}
use Rattle.unit_model.specs.Conditions.{has_stream}
use Rattle.unit_model.specs.Core.{seat_of}
use Rattle.unit_model.specs.Effects.{after_step}
use Rattle.unit_model.specs.Holding.{HasNoStreamZero}
use Rattle.unit_model.specs.Opening.{opened_core}
use Rattle.unit_model.specs.Running.{AllEnabled, Enabled, after_steps}
use Rattle.unit_model.specs.Shapes.{IsValid}
use Rattle.unit_model.specs.SoundStreams.{IsInNone}
use Rattle.unit_model.specs.Soundness.{EachPointHolds, IsSound}
use Rattle.unit_model.specs.StreamCounts.{StreamCounts}
use Rattle.unit_model.specs.Weights.{times}
use Rattle.unit_model.specs.declared.machine.Core.{Core}
use Rattle.unit_model.specs.declared.machine.Step.{Step}
use Rattle.unit_model.specs.declared.shape.Shape.{Shape}
use Rattle.unit_model.proofs.HeldOpening.{opened_holds_right}
use Rattle.unit_model.proofs.HeldSound.{sound_from_held, names_from_held, held_from_sound}
use Rattle.unit_model.proofs.HeldSteps.{step_holds_right}
use Rattle.unit_model.proofs.OpenedCounts.{parts_at_first, streams_at_first}
use Rattle.unit_model.proofs.PartLaw.{keeps as keeps_parts}
use Rattle.unit_model.proofs.PartPoints.{points_of_counts}
use Rattle.unit_model.proofs.PointCounts.{parts_of_points, streams_of_points}
use Rattle.unit_model.proofs.SeatNotes.{has_counts}
use Rattle.unit_model.proofs.StreamLaw.{keeps as keeps_streams}

kept_by_all : (P : Core → Type 0) → ((core : Core) (step : Step) → P core → Enabled core step → P (after_step core step)) → (core : Core) (steps : List Step) → P core → AllEnabled core steps → P (after_steps core steps)
kept_by_all P keep core [] old all = old
kept_by_all P keep core (step ∷ steps) old all = kept_by_all P keep (after_step core step) steps (keep core step old all.0) all.1

pub streams_by_all : (core : Core) (steps : List Step) → StreamCounts core → AllEnabled core steps → StreamCounts (after_steps core steps)
streams_by_all core steps old all = kept_by_all StreamCounts keeps_streams core steps old all

pub sound_at_first : (shape : Shape) → IsValid shape → IsSound (opened_core shape)
sound_at_first shape valid = record {
  held = opened_holds_right shape valid;
  streams = streams_at_first shape;
  parts = parts_at_first shape;
}

pub keeps_sound : (core : Core) (step : Step) → IsSound core → Enabled core step → IsSound (after_step core step)
keeps_sound core step old met = record {
  held = step_holds_right core step old.held met;
  streams = keeps_streams core step old.streams met;
  parts = keeps_parts core step old.held old.streams old.parts met;
}

pub sound_by_all : (core : Core) (steps : List Step) → IsSound core → AllEnabled core steps → IsSound (after_steps core steps)
sound_by_all core steps old all = kept_by_all IsSound keeps_sound core steps old all

-- ---- each point

pub points_of_sound : (core : Core) → IsSound core → EachPointHolds core
points_of_sound core sound = record {
  next = sound.streams.next;
  holdings = sound_from_held core sound.held;
  names = names_from_held core sound.held;
  streams = points_of_counts core sound.streams sound.parts;
}

-- what doesn't count isn't there
not_there : (stream : ℕ) (streams : List ℕ) → times stream streams ≡ 0 → has_stream stream streams ≡ false
not_there stream streams none =
    elim (cases_Bool (has_stream stream streams)) [
      | inr away ↦ away
      | inl here ↦ absurd (omega (arith, none, has_counts stream streams here))
    ]

no_zero : (core : Core) → EachPointHolds core → HasNoStreamZero core
no_zero core points =
    let none : (seat : ℕ) → IsInNone (seat_of core seat) 0 = points.streams.drawn.no_other 0 (inl refl) in
    record {
      next = points.next;
      drawn = λ seat. not_there 0 (seat_of core seat).drawn (none seat).drawn;
      taken = λ seat. not_there 0 (seat_of core seat).taken (none seat).taken;
    }

pub sound_of_points : (core : Core) → EachPointHolds core → IsSound core
sound_of_points core points =
    let streams = streams_of_points core points.names.shape.seats points.next points.streams in
    record {
      held = held_from_sound core points.holdings points.names (no_zero core points);
      streams = streams;
      parts = parts_of_points core streams points.streams;
    }

pub points_after_run : (shape : Shape) (steps : List Step) → IsValid shape → AllEnabled (opened_core shape) steps → EachPointHolds (after_steps (opened_core shape) steps)
points_after_run shape steps valid all =
    points_of_sound (after_steps (opened_core shape) steps) (sound_by_all (opened_core shape) steps (sound_at_first shape valid) all)
