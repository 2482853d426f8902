pub mod History
pub mod Lists
pub mod Newest
