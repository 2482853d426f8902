pub mod Places
pub mod Readings
pub mod Steps
pub mod LastSums
pub mod NewSeats
