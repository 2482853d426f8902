use Rattle.std.proofs.Common.{ap}
use Rattle.std.proofs.lemmas.List.Elements.{All-map}
use Rattle.serde_json.specs.Data.{Data}
use Rattle.conf_validate.specs.Configuration.{changes_in, format_of, step_of, text_in}
use Rattle.conf_validate.specs.Plain.{ChangesNothing, IsPlainStep, steps_in}
use Rattle.conf_validate.proofs.CleanLemmas.{all_weaker}
use Rattle.conf_validate.proofs.laws.plain_documents_change_nothing.Goals as goal

pub returns-clause-log : goal.returns-clause-log
returns-clause-log c document plain = ap format_of plain.access_log

changes_nothing : (d : Data) → IsPlainStep d → ChangesNothing (step_of d)
changes_nothing d action = (ap text_in action.rewrite, ap changes_in action.response_headers)

pub returns-clause-steps : goal.returns-clause-steps
returns-clause-steps c document plain =
    All-map ChangesNothing step_of (steps_in document) (all_weaker (steps_in document) changes_nothing plain.steps)
