pub mod Case
pub mod Glob
pub mod TextPattern
