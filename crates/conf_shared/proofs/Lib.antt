pub mod AddingLemmas
pub mod ListLemmas
pub mod PrefixLemmas
