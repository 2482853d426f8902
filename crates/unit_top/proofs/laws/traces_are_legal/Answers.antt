use Rattle.unit_top.proofs.LegalLemmas.{all_legal}
use Rattle.unit_top.proofs.laws.traces_are_legal.Goals as goal

pub returns : goal.returns
returns c = all_legal c.any_trace_is_legal.ensures c.traces_are_read_back.ensures.read c.legal_where_steps_run.ensures.enabled
