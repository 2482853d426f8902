pub mod Keys
pub mod Replies
pub mod Control
pub mod Plans
