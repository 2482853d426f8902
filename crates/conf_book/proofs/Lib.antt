mod BookLemmas
