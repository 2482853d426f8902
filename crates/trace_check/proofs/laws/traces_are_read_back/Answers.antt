use Rattle.trace_check.proofs.JoinedLines.{said, says}
use Rattle.trace_check.proofs.laws.traces_are_read_back.Goals as goal

pub returns : goal.returns
returns c = record {
  read = λ shape steps bytes is. says shape steps bytes is;
  spelled = λ shape steps bytes lines. said shape steps bytes lines;
}
