pub mod GlobLemmas
pub mod ListLemmas
pub mod CutLemmas
pub mod PlainLemmas
