use Rattle.std.proofs.Common.{◌∙◌, sym}
use Rattle.path_normal.proofs.PathLemmas.{adds_upwards}
use Rattle.path_normal.proofs.normal.add_segment.Goals as goal

pub returns-then-goes_up-clause-adds : goal.returns-then-goes_up-clause-adds
returns-then-goes_up-clause-adds c =
    adds_upwards c.args.segment.now c.args.path.now.items c.drop_segment.new.path.items (sym c.says_nothing.ensures ∙ c.if-says_nothing.false) (sym c.goes_up.ensures ∙ c.if-goes_up.true) c.drop_segment.ensures
