use Rattle.unit_model.proofs.SoundRuns.{points_after_run}
use Rattle.unit_model.proofs.laws.each_point_holds_after_every_run.Goals as goal

pub returns : goal.returns
returns c shape steps valid all = points_after_run shape steps valid all
