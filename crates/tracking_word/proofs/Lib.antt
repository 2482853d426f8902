pub mod Words
pub mod Parts
pub mod Exact
mod Steps
