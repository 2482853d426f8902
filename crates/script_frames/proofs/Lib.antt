mod FrameLemmas
mod SpelledFrames
mod SpellingLemmas
