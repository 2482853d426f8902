use Rattle.unit_model.proofs.SoundRuns.{points_after_run}
use Rattle.unit_model.proofs.laws.nothing_ends_twice.Goals as goal

pub returns : goal.returns
returns c shape steps valid all =
    let points = points_after_run shape steps valid all in
    (points.streams.taken, points.streams.received)
