pub mod SeatFacts
pub mod Stepping
pub mod RunSlots
pub mod Filling
