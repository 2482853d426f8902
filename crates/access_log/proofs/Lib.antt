pub mod BufferLemmas
pub mod ValueLemmas
pub mod LineLemmas
