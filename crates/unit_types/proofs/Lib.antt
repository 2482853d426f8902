pub mod CutLemmas
pub mod NameLemmas
pub mod NumeralLemmas
pub mod SliceLemmas
pub mod SpelledLemmas
