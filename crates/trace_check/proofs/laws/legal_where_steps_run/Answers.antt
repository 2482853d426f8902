use Rattle.trace_check.proofs.LegalTraces.{legal_says, said_legal}
use Rattle.trace_check.proofs.laws.legal_where_steps_run.Goals as goal

pub returns : goal.returns
returns c = record {
  legal = λ bytes is_legal. legal_says bytes is_legal;
  enabled = λ bytes shape steps says met. said_legal bytes shape steps says met;
}
