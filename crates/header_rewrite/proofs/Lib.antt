pub mod LengthLemmas
pub mod TargetLemmas
pub mod PlainLemmas
