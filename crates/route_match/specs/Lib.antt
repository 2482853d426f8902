pub mod Matches
pub mod Source
pub mod Target
pub mod There
pub mod Passes
pub mod Plain
