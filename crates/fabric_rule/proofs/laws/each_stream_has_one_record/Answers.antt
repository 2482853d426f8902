use Rattle.fabric_rule.proofs.Records.{armed_record, one_record, posted_record}
use Rattle.fabric_rule.proofs.laws.each_stream_has_one_record.Goals as goal

pub returns-clause-posted : goal.returns-clause-posted
returns-clause-posted g c = posted_record g.row.H.Denot

pub returns-clause-one : goal.returns-clause-one
returns-clause-one g c = one_record g.row.H.Denot

pub returns-clause-armed : goal.returns-clause-armed
returns-clause-armed g c = armed_record g.row.H.Denot
