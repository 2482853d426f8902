pub mod View
pub mod Paths
pub mod Document
pub mod Places
pub mod Answers
pub mod Text
pub mod Laws
