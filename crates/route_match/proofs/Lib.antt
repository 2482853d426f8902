mod ChainedLemmas
mod LocationLemmas
mod PassLemmas
mod PlainLawLemmas
mod PlainLemmas
mod StepLemmas
mod ThereLemmas
mod WalkLemmas
