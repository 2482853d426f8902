use Rattle.conf_validate.specs.Configuration.{configuration_of}
use Rattle.conn_machine.proofs.UnchangedLemmas.{unchanged_reply, plain_reply}
use Rattle.conn_machine.proofs.laws.answers_without_changes.Goals as goal

pub returns-clause-unchanged : goal.returns-clause-unchanged
returns-clause-unchanged c connection document r none =
    unchanged_reply connection (configuration_of document) r (c.documents_without_changes_change_nothing.ensures.steps document none)

pub returns-clause-plain : goal.returns-clause-plain
returns-clause-plain c connection document r plain =
    plain_reply connection (configuration_of document) r (c.plain_documents_change_nothing.ensures.steps document plain)
    (c.plain_documents_need_no_variables.ensures.target document connection.listener r plain)
    (λ step. c.plain_documents_need_no_variables.ensures.location document step r plain)
