use Rattle.std.proofs.lemmas.List.FromFn.{length-range_with_len}
use Rattle.unit_model.specs.Runs.{chunks_for}
use Rattle.unit_model.proofs.Weights.{times_in_range, times_off_range}
use Rattle.unit_model.proofs.runs.run_has_its_chunks.Goals as goal

pub returns-clause-inside : goal.returns-clause-inside
returns-clause-inside c = λ run chunk low high. times_in_range chunk run.chunk (chunks_for run.size) low high

pub returns-clause-outside : goal.returns-clause-outside
returns-clause-outside c = λ run chunk off. times_off_range chunk run.chunk (chunks_for run.size) off

pub returns-clause-count : goal.returns-clause-count
returns-clause-count c = λ run. length-range_with_len run.chunk (chunks_for run.size)
