pub mod Events
pub mod Seats
pub mod Rule
pub mod Owning
pub mod Ends
pub mod NoReplies
