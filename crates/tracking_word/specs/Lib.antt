pub mod Words
pub mod Parts
pub mod Views
pub mod Rule
pub mod Seats
pub mod Ends
