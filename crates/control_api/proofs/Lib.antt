mod FrontLemmas
mod KeyLemmas
