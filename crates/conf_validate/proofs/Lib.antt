mod MemberLemmas
mod Sizes
mod WalkLemmas
mod LowerLemmas
mod SearchLemmas
mod CleanLemmas
mod MatchLemmas
mod DestinationLemmas
mod ChangeLemmas
mod KeptLemmas
mod PlainLemmas
pub mod PlainPassLemmas
mod GoalLemmas
mod EntryLemmas
mod PathLemmas
mod FaultLemmas
