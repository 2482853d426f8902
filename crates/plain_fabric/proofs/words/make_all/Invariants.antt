use Rattle.std.proofs.Common.{◌≡◌, length, take}
use Rattle.plain_fabric.specs.Stepping.{MakesAll}
use Rattle.plain_fabric.proofs.words.make_all.Given as goal

abbrev pub invariant-loop-step : goal.invariant-loop-step
invariant-loop-step l = record {
  made : MakesAll l.layout.shape l.fn.words l.words (take l.step-index l.steps);
  long : length l.words ≡ length l.fn.words;
}
