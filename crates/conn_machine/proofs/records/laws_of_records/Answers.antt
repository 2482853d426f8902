use Rattle.conn_machine.proofs.RecordLemmas.{came_short, plain_short, rewritten_short}
use Rattle.conn_machine.proofs.records.laws_of_records.Goals as goal

pub returns-clause-came : goal.returns-clause-came
returns-clause-came c bytes ended limit m used stream name from to is low short =
    came_short limit stream name from to m c.request_record_length.ensures c.short_requests_can_be_written.ensures (c.laws_of_units.ensures.bounded bytes ended limit m used is) low short

pub returns-clause-plain : goal.returns-clause-plain
returns-clause-plain c connection conf bytes ended m used stream kept is none =
    plain_short connection conf stream m c.request_record_length.ensures c.short_requests_can_be_written.ensures kept (c.laws_of_units.ensures.bounded bytes ended conf.max_body m used is) none

pub returns-clause-rewritten : goal.returns-clause-rewritten
returns-clause-rewritten c connection conf bytes ended m used stream kept is =
    rewritten_short connection conf stream m c.request_record_length.ensures c.short_requests_can_be_written.ensures
    c.rewritten_targets_are_short.ensures.path c.rewritten_targets_are_short.ensures.target kept (c.laws_of_units.ensures.bounded bytes ended conf.max_body m used is)
