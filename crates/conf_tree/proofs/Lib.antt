pub mod Views
pub mod Documents
mod Order
mod Listed
mod Members
mod Search
mod Indices
mod Items
mod Children
mod Decimals
mod Reading
mod Writing
mod Parts
mod Through
mod IndexLemmas
mod LevelLemmas
mod LawLemmas
