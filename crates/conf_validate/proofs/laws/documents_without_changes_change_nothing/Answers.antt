use Rattle.std.proofs.Common.{ap}
use Rattle.std.proofs.lemmas.List.Elements.{All-map}
use Rattle.serde_json.specs.Data.{Data}
use Rattle.conf_validate.specs.Configuration.{changes_in, format_of, step_of, text_in}
use Rattle.conf_validate.specs.Laws.{HasNoChange}
use Rattle.conf_validate.specs.Plain.{ChangesNothing, steps_in}
use Rattle.conf_validate.proofs.CleanLemmas.{all_weaker}
use Rattle.conf_validate.proofs.laws.documents_without_changes_change_nothing.Goals as goal

pub returns-clause-log : goal.returns-clause-log
returns-clause-log c document none = ap format_of none

changes_nothing : (d : Data) → HasNoChange d → ChangesNothing (step_of d)
changes_nothing d none = (ap text_in none.rewrite, ap changes_in none.response_headers)

pub returns-clause-steps : goal.returns-clause-steps
returns-clause-steps c document none =
    All-map ChangesNothing step_of (steps_in document) (all_weaker (steps_in document) changes_nothing none)
