pub mod AtRest
pub mod Contents
pub mod Laws
pub mod Plains
pub mod Schedule
pub mod Stepping
