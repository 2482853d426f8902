pub mod PathLemmas
pub mod QueryLemmas
pub mod PieceLemmas
pub mod LawLemmas
pub mod ExpansionLemmas
