use Rattle.fabric_rule.proofs.Contents.{kept_stay}
use Rattle.fabric_rule.proofs.Frames.{of_fabric}
use Rattle.fabric_rule.proofs.ListFrames.{counted_stay, in_work_stay, lists_stay, lists_there, posts_stay, records_stay, records_there, streams_stay, works_stay}
use Rattle.fabric_rule.proofs.laws.lists_and_works_stay.Goals as goal

pub returns-clause-posts : goal.returns-clause-posts
returns-clause-posts c = posts_stay

pub returns-clause-records : goal.returns-clause-records
returns-clause-records c = records_stay

pub returns-clause-records_there : goal.returns-clause-records_there
returns-clause-records_there c = records_there

pub returns-clause-lists : goal.returns-clause-lists
returns-clause-lists c = lists_stay

pub returns-clause-works : goal.returns-clause-works
returns-clause-works c = works_stay

pub returns-clause-counted : goal.returns-clause-counted
returns-clause-counted c = counted_stay

pub returns-clause-in_work : goal.returns-clause-in_work
returns-clause-in_work c = in_work_stay

pub returns-clause-kept : goal.returns-clause-kept
returns-clause-kept c = kept_stay

pub returns-clause-streams : goal.returns-clause-streams
returns-clause-streams c = streams_stay

pub returns-clause-there : goal.returns-clause-there
returns-clause-there c = lists_there

pub returns-clause-fabric : goal.returns-clause-fabric
returns-clause-fabric c = of_fabric
