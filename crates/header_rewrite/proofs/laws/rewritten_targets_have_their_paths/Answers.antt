use Rattle.path_normal.specs.Variables.{expansion_of}
use Rattle.header_rewrite.specs.Rewrite.{path_in_target}
use Rattle.header_rewrite.proofs.TargetLemmas.{path_again}
use Rattle.header_rewrite.proofs.laws.rewritten_targets_have_their_paths.Goals as goal

pub returns : goal.returns
returns c = λ text request small. path_again (path_in_target (expansion_of text request)) request.query small
