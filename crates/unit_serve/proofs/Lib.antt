pub mod Passing
pub mod Values
pub mod WalkKept
