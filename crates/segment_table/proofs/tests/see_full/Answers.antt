use Rattle.std.proofs.Common.{◌+◌, ◌∙◌}
use Rattle.segment_table.specs.Owning.{first_of}
use Rattle.segment_table.proofs.tests.see_full.Goals as goal

pub returns-in-Full-clause-full : goal.returns-in-Full-clause-full
returns-in-Full-clause-full c i lt = let there = c.requires.full i lt in (there.0, c.in-Full.ensures.kept (first_of c.args.held + i) ∙ there.1)
