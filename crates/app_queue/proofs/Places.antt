-- The words of one queue stand apart, and setting one changes that one alone.
use Rattle.std.proofs.Common.{ℕ, ◌+◌, ◌≡◌, ◌≢◌, ◌<◌, ⊎_elim, List, length, set, ap, arith, get_or-set_same, get_or-set_other}
use Rattle.nncq_ring.specs.Words.{SameWords, SetsEntry, SetsTail, SetsHead}
use Rattle.app_queue.specs.declared.layout.Place.{Place}
use Rattle.app_queue.specs.declared.layout.Place.TheVariants.{InRing, TagOf, RunOf, PartOf}
use Rattle.app_queue.specs.declared.side.Side.{Side}
use Rattle.app_queue.specs.declared.side.Side.TheVariants.{Free, Line}
use Rattle.app_queue.specs.Layout.{word_at, word_count, IsReal, IsLayout, word_of, ring_of, one_queue, queue_words}
use Rattle.app_queue.specs.Queues.{RingsStay, OtherRingsStay, WordsStay, SetsWord}

places_apart : (n : ℕ) (p r : Place) → IsReal n p → IsReal n r → word_at n p ≡ word_at n r → p ≡ r
places_apart n (InRing Free i) (InRing Free j) one two is = let same : i ≡ j = omega (arith, is) in ap (λ (k : ℕ). InRing Free k) same
places_apart n (InRing Free i) (InRing Line j) one two is = absurd (omega (arith, one, two, is))
places_apart n (InRing Free i) (TagOf j) one two is = absurd (omega (arith, one, two, is))
places_apart n (InRing Free i) (RunOf j) one two is = absurd (omega (arith, one, two, is))
places_apart n (InRing Free i) (PartOf j) one two is = absurd (omega (arith, one, two, is))
places_apart n (InRing Line i) (InRing Free j) one two is = absurd (omega (arith, one, two, is))
places_apart n (InRing Line i) (InRing Line j) one two is = let same : i ≡ j = omega (arith, is) in ap (λ (k : ℕ). InRing Line k) same
places_apart n (InRing Line i) (TagOf j) one two is = absurd (omega (arith, one, two, is))
places_apart n (InRing Line i) (RunOf j) one two is = absurd (omega (arith, one, two, is))
places_apart n (InRing Line i) (PartOf j) one two is = absurd (omega (arith, one, two, is))
places_apart n (TagOf i) (InRing Free j) one two is = absurd (omega (arith, one, two, is))
places_apart n (TagOf i) (InRing Line j) one two is = absurd (omega (arith, one, two, is))
places_apart n (TagOf i) (TagOf j) one two is = let same : i ≡ j = omega (arith, is) in ap (λ (k : ℕ). TagOf k) same
places_apart n (TagOf i) (RunOf j) one two is = absurd (omega (arith, one, two, is))
places_apart n (TagOf i) (PartOf j) one two is = absurd (omega (arith, one, two, is))
places_apart n (RunOf i) (InRing Free j) one two is = absurd (omega (arith, one, two, is))
places_apart n (RunOf i) (InRing Line j) one two is = absurd (omega (arith, one, two, is))
places_apart n (RunOf i) (TagOf j) one two is = absurd (omega (arith, one, two, is))
places_apart n (RunOf i) (RunOf j) one two is = let same : i ≡ j = omega (arith, is) in ap (λ (k : ℕ). RunOf k) same
places_apart n (RunOf i) (PartOf j) one two is = absurd (omega (arith, one, two, is))
places_apart n (PartOf i) (InRing Free j) one two is = absurd (omega (arith, one, two, is))
places_apart n (PartOf i) (InRing Line j) one two is = absurd (omega (arith, one, two, is))
places_apart n (PartOf i) (TagOf j) one two is = absurd (omega (arith, one, two, is))
places_apart n (PartOf i) (RunOf j) one two is = absurd (omega (arith, one, two, is))
places_apart n (PartOf i) (PartOf j) one two is = let same : i ≡ j = omega (arith, is) in ap (λ (k : ℕ). PartOf k) same

word_there : (n : ℕ) (p : Place) → IsReal n p → word_at n p < word_count n
word_there n (InRing Free o) real = omega (arith, real)
word_there n (InRing Line o) real = omega (arith, real)
word_there n (TagOf i) real = omega (arith, real)
word_there n (RunOf i) real = omega (arith, real)
word_there n (PartOf i) real = omega (arith, real)

pub is_layout : (n : ℕ) → IsLayout n
is_layout n = record { there = word_there n; apart = places_apart n }

-- the number behind a meaning
abbrev pub number_of : Place → ℕ
number_of (InRing side o) = o
number_of (TagOf i) = i
number_of (RunOf i) = i
number_of (PartOf i) = i

-- the ring of a ring's word
abbrev pub side_of : Place → Side
side_of (InRing side o) = side
side_of (TagOf i) = Free
side_of (RunOf i) = Free
side_of (PartOf i) = Free

module _ (n : ℕ) (words : List ℕ) (wide : length words ≡ word_count n) (x : ℕ) where
  pub word_here : (p : Place) → IsReal n p → word_of n (set words (word_at n p) x) p ≡ x
  word_here p real = let there : word_at n p < word_count n = word_there n p real in get_or-set_same words (word_at n p) x 0 (omega (arith, wide, there))

  pub word_else : (p r : Place) → IsReal n p → IsReal n r → r ≢ p → word_of n (set words (word_at n p) x) r ≡ word_of n words r
  word_else p r one two ne = get_or-set_other words (word_at n p) (word_at n r) x 0 (λ is. ne (places_apart n r p two one is))

  -- ---- a word of a ring

  -- two words of a ring with other numbers
  ring_else : (side : Side) (a b : ℕ) → a < 32 + n → b < 32 + n → b ≢ a → word_of n (set words (word_at n (InRing side a)) x) (InRing side b) ≡ word_of n words (InRing side b)
  ring_else side a b one two ne = word_else (InRing side a) (InRing side b) one two (λ is. ne (ap number_of is))

  pub entry_set : (side : Side) (slot : ℕ) → slot < n → SetsEntry n (ring_of n words side) (ring_of n (set words (word_at n (InRing side (32 + slot))) x) side) slot x
  entry_set side slot lt = record {
    head = ring_else side (32 + slot) 0 (omega (arith, lt)) (omega arith) (λ is. absurd (omega (arith, is)));
    tail = ring_else side (32 + slot) 16 (omega (arith, lt)) (omega arith) (λ is. absurd (omega (arith, is)));
    here = word_here (InRing side (32 + slot)) (omega (arith, lt));
    others = λ j below_n ne. ring_else side (32 + slot) (32 + j) (omega (arith, lt)) (omega (arith, below_n)) (λ is. ne (omega (arith, is)));
  }

  pub tail_set : (side : Side) → SetsTail n (ring_of n words side) (ring_of n (set words (word_at n (InRing side 16)) x) side) x
  tail_set side = record {
    head = ring_else side 16 0 (omega arith) (omega arith) (λ is. absurd (omega (arith, is)));
    tail = word_here (InRing side 16) (omega arith);
    entries = λ j below_n. ring_else side 16 (32 + j) (omega arith) (omega (arith, below_n)) (λ is. absurd (omega (arith, is)));
  }

  pub head_set : (side : Side) → SetsHead n (ring_of n words side) (ring_of n (set words (word_at n (InRing side 0)) x) side) x
  head_set side = record {
    head = word_here (InRing side 0) (omega arith);
    tail = ring_else side 0 16 (omega arith) (omega arith) (λ is. absurd (omega (arith, is)));
    entries = λ j below_n. ring_else side 0 (32 + j) (omega arith) (omega (arith, below_n)) (λ is. absurd (omega (arith, is)));
  }

  -- a ring of which the word that is set is none
  pub ring_stays : (p : Place) → IsReal n p → (side : Side) → ((o : ℕ) → InRing side o ≢ p) → SameWords n (ring_of n words side) (ring_of n (set words (word_at n p) x) side)
  ring_stays p real side none = record {
    head = word_else p (InRing side 0) real (omega arith) (none 0);
    tail = word_else p (InRing side 16) real (omega arith) (none 16);
    entries = λ j below_n. word_else p (InRing side (32 + j)) real (omega (arith, below_n)) (none (32 + j));
  }

  pub other_rings : (side : Side) (o : ℕ) → o < 32 + n → OtherRingsStay (one_queue n) 0 side (queue_words n words).ring (queue_words n (set words (word_at n (InRing side o)) x)).ring
  other_rings side o real r lt other apart =
      ring_stays (InRing side o) real other
      (λ o' is. ⊎_elim (λ ne. absurd (ne (omega (arith, lt)))) (λ ne. let same : other ≡ side = cc is in absurd (ne same)) apart)

  pub tags_else : (p : Place) → IsReal n p → ((i : ℕ) → TagOf i ≢ p) → WordsStay (one_queue n) (queue_words n words).tag (queue_words n (set words (word_at n p) x)).tag
  tags_else p real none q lt i below_n = word_else p (TagOf i) real below_n (none i)

  pub runs_else : (p : Place) → IsReal n p → ((i : ℕ) → RunOf i ≢ p) → WordsStay (one_queue n) (queue_words n words).run (queue_words n (set words (word_at n p) x)).run
  runs_else p real none q lt i below_n = word_else p (RunOf i) real below_n (none i)

  pub parts_else : (p : Place) → IsReal n p → ((i : ℕ) → PartOf i ≢ p) → WordsStay (one_queue n) (queue_words n words).part (queue_words n (set words (word_at n p) x)).part
  parts_else p real none q lt i below_n = word_else p (PartOf i) real below_n (none i)

  -- ---- the word of an item

  pub rings_else : (p : Place) → IsReal n p → ((side : Side) (o : ℕ) → InRing side o ≢ p) → RingsStay (one_queue n) (queue_words n words).ring (queue_words n (set words (word_at n p) x)).ring
  rings_else p real none q lt side = ring_stays p real side (none side)

  pub tag_set : (item : ℕ) → item < n → SetsWord (one_queue n) (queue_words n words).tag (queue_words n (set words (word_at n (TagOf item)) x)).tag 0 item x
  tag_set item lt = record {
    here = record { here = word_here (TagOf item) lt; others = λ i below_n ne. word_else (TagOf item) (TagOf i) lt below_n (λ is. ne (ap number_of is)) };
    others = λ r r_lt ne. absurd (ne (omega (arith, r_lt)));
  }

  pub run_set : (item : ℕ) → item < n → SetsWord (one_queue n) (queue_words n words).run (queue_words n (set words (word_at n (RunOf item)) x)).run 0 item x
  run_set item lt = record {
    here = record { here = word_here (RunOf item) lt; others = λ i below_n ne. word_else (RunOf item) (RunOf i) lt below_n (λ is. ne (ap number_of is)) };
    others = λ r r_lt ne. absurd (ne (omega (arith, r_lt)));
  }

  pub part_set : (item : ℕ) → item < n → SetsWord (one_queue n) (queue_words n words).part (queue_words n (set words (word_at n (PartOf item)) x)).part 0 item x
  part_set item lt = record {
    here = record { here = word_here (PartOf item) lt; others = λ i below_n ne. word_else (PartOf item) (PartOf i) lt below_n (λ is. ne (ap number_of is)) };
    others = λ r r_lt ne. absurd (ne (omega (arith, r_lt)));
  }
