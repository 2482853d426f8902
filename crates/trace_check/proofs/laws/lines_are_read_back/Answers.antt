use Rattle.trace_check.proofs.OneSpelling.{one_spelling}
use Rattle.trace_check.proofs.ReadBack.{read_back}
use Rattle.trace_check.proofs.laws.lines_are_read_back.Goals as goal

pub returns : goal.returns
returns c = record {
  read = λ step text fits e. read_back step fits text e;
  spelled = λ step text e. one_spelling step text e;
}
