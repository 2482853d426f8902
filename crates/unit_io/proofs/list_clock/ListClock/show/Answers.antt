use Rattle.std.proofs.Common.{subst}
use Rattle.unit_io.specs.Readings.{IsClock}
use Rattle.unit_io.proofs.list_clock.ListClock.show.Goals as goal

pub returns-clause-clock : goal.returns-clause-clock
returns-clause-clock c =
    subst IsClock c.self.view_is (record { some = c.self.invariant.0; within = c.self.invariant.1; rising = c.self.invariant.2 })
