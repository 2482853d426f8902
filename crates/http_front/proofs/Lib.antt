pub mod AnswerLemmas
mod ArrivingLemmas
mod BlankLemmas
mod BlockLemmas
mod BoundLemmas
mod ChunkLemmas
mod ChunkLineLemmas
mod ClosingLemmas
mod ContentStays
mod CutLemmas
mod Cuts
mod Examples
mod FoundLemmas
mod FrontLemmas
mod FrontStays
mod HeadLemmas
pub mod KeptLemmas
pub mod LengthLemmas
mod Numbers
mod ProgressLemmas
mod ReaderLemmas
mod RequestLemmas
pub mod SessionLemmas
mod SearchLemmas
mod StageLemmas
mod StandsLemmas
mod StayLemmas
mod UnitLemmas
