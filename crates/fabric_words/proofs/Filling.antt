-- Words that are set one after another, until they are those of a fabric that was just made.
use Rattle.std.proofs.Common.{ℕ, ◌+◌, ◌-◌, ◌*◌, ◌/◌, ◌%◌, ◌^◌, ◌≡◌, ◌≢◌, ◌≤◌, ◌<◌, ◌==◌, ◌&&◌, inl, inr, Bool, true, false, replicate, refl, sym, ap, ◌∙◌, subst, arith, mod-lt}
use Rattle.std.specs.Int.{bit_at}
use Rattle.std.proofs.lemmas.Bool.{cases_eq}
use Rattle.std.proofs.lemmas.Nat.Bits.{bit_at_ones}
use Rattle.chunk_map.proofs.WordChanges.{all_zero}
use Rattle.chunk_map.specs.Words.{is_free}
use Rattle.nncq_ring.specs.RingWords.{StartsFull}
use Rattle.nncq_ring.specs.Words.{Words, SameWords, entry_of}
use Rattle.unit_model.specs.Holding.{items_of}
use Rattle.unit_model.specs.Shapes.{IsValid}
use Rattle.unit_model.specs.declared.shape.Shape.{Shape}
use Rattle.fabric_words.specs.Offsets.{offset_of, width_of, word_in}
use Rattle.fabric_words.specs.Opened.{StartsEmpty, HasBegun, IsOpened, ChangesOnly, ChangesRing, ChangesRings, ChangesMap}
use Rattle.fabric_words.specs.Places.{HasItem, IsThere, Sets, is_of_map, is_of_ring, is_of_rings, is_same_side, queues_of, segments_of, ring_of, map_of}
use Rattle.fabric_words.specs.declared.place.Place.{Place}
use Rattle.fabric_words.specs.declared.place.Place.TheVariants.{NextStream, OpenedOut, OpenedBack, Head, Tail, Slot, Tag, RunWord, PartWord, Chunks}
use Rattle.fabric_words.specs.declared.place.Side.{Side}
use Rattle.fabric_words.specs.declared.place.Side.TheVariants.{FreeSide, LineSide}
use Rattle.fabric_words.proofs.Frames.{other_queue, other_side, own_ring}
use Rattle.fabric_words.proofs.Opened.{sizes}

-- ---- words that no one changed

same_only : (shape : Shape) (test : Place → Bool) (word : Place → ℕ) → ChangesOnly shape test word word
same_only shape test word place there off = refl

-- a word that passes is set
set_only : (shape : Shape) (test : Place → Bool) (old word word' : Place → ℕ) (place : Place) (x : ℕ) → ChangesOnly shape test old word → Sets shape word word' place x → test place ≡ true → ChangesOnly shape test old word'
set_only shape test old word word' place x before sets passes other there off =
    sets.others other there (λ is. absurd (cc (passes, off, ap test is))) ∙ before other there off

no_ring : (place : Place) → is_of_rings place ≡ false → (queue : ℕ) (side : Side) → is_of_ring queue side place ≡ false
no_ring NextStream off queue side = refl
no_ring OpenedOut off queue side = refl
no_ring OpenedBack off queue side = refl
no_ring (Head q s) off queue side = absurd (cc off)
no_ring (Tail q s) off queue side = absurd (cc off)
no_ring (Slot q s slot) off queue side = absurd (cc off)
no_ring (Tag q i) off queue side = refl
no_ring (RunWord q i) off queue side = refl
no_ring (PartWord q i) off queue side = refl
no_ring (Chunks k) off queue side = refl

-- ---- one ring

module _ (shape : Shape) (old word : Place → ℕ) (queue slot : ℕ) where
  -- so far the slots below this one of a line are set
  pub record LineSoFar (n start : ℕ) : Type 0 where
    pub head : word (Head queue LineSide) ≡ start
    pub tail : word (Tail queue LineSide) ≡ start
    pub entries : (place : ℕ) → place < start → start ≤ place + n → place % n < slot → word (Slot queue LineSide (place % n)) ≡ entry_of n place 0
    pub others : ChangesRing shape old word queue LineSide

  -- and so of a free ring
  pub record FreeSoFar (n start : ℕ) : Type 0 where
    pub head : word (Head queue FreeSide) ≡ start
    pub tail : word (Tail queue FreeSide) ≡ start + n
    pub entries : (value : ℕ) → value < n → (start + value) % n < slot → word (Slot queue FreeSide ((start + value) % n)) ≡ entry_of n (start + value) value
    pub others : ChangesRing shape old word queue FreeSide

pub line_begun : (shape : Shape) (old one word : Place → ℕ) (queue n start : ℕ) → queue < queues_of shape → Sets shape old one (Head queue LineSide) start → Sets shape one word (Tail queue LineSide) start → LineSoFar shape old word queue 0 n start
line_begun shape old one word queue n start there head tail = record {
  head = tail.others (Head queue LineSide) there (λ is. absurd (cc is)) ∙ head.here;
  tail = tail.here;
  entries = λ place before near low. absurd (omega (arith, low));
  others = set_only shape (is_of_ring queue LineSide) old one word (Tail queue LineSide) start
      (set_only shape (is_of_ring queue LineSide) old old one (Head queue LineSide) start (same_only shape (is_of_ring queue LineSide) old) head (own_ring queue LineSide))
      tail (own_ring queue LineSide);
}

pub line_goes_on : (shape : Shape) (old word word' : Place → ℕ) (queue slot x n start : ℕ) → queue < queues_of shape → n ≡ items_of shape queue → slot < n → LineSoFar shape old word queue slot n start
    → Sets shape word word' (Slot queue LineSide slot) x → ((place : ℕ) → place < start → start ≤ place + n → place % n ≡ slot → x ≡ place / n * n)
    → LineSoFar shape old word' queue (slot + 1) n start
line_goes_on shape old word word' queue slot x n start there size lt now sets first =
    let within : (j : ℕ) → j < n → HasItem shape queue j = λ j low. record { in_queues = there; in_items = omega (arith, low, size) } in
    record {
      head = sets.others (Head queue LineSide) there (λ is. absurd (cc is)) ∙ now.head;
      tail = sets.others (Tail queue LineSide) there (λ is. absurd (cc is)) ∙ now.tail;
      entries = λ place before near low. elim (cases_eq (place % n) slot) [
        | inl same ↦ ap (λ (j : ℕ). word' (Slot queue LineSide j)) same ∙ sets.here ∙ (let is : x ≡ place / n * n + 0 = omega (arith, first place before near same) in is)
        | inr other ↦ sets.others (Slot queue LineSide (place % n)) (within (place % n) (omega (arith, low, lt))) (λ is. absurd (other (cc is))) ∙ now.entries place before near (omega (arith, low, other))
      ];
      others = set_only shape (is_of_ring queue LineSide) old word word' (Slot queue LineSide slot) x now.others sets (own_ring queue LineSide);
    }

pub line_done : (shape : Shape) (old word : Place → ℕ) (queue slot n start : ℕ) → 0 < n → n ≤ slot → LineSoFar shape old word queue slot n start → StartsEmpty n start (ring_of word queue LineSide)
line_done shape old word queue slot n start pos all now = record {
  head = now.head;
  tail = now.tail;
  entries = λ place before near. now.entries place before near (omega (arith, mod-lt place pos, all));
}

pub free_begun : (shape : Shape) (old one word : Place → ℕ) (queue n start : ℕ) → queue < queues_of shape → Sets shape old one (Head queue FreeSide) start → Sets shape one word (Tail queue FreeSide) (start + n) → FreeSoFar shape old word queue 0 n start
free_begun shape old one word queue n start there head tail = record {
  head = tail.others (Head queue FreeSide) there (λ is. absurd (cc is)) ∙ head.here;
  tail = tail.here;
  entries = λ value small low. absurd (omega (arith, low));
  others = set_only shape (is_of_ring queue FreeSide) old one word (Tail queue FreeSide) (start + n)
      (set_only shape (is_of_ring queue FreeSide) old old one (Head queue FreeSide) start (same_only shape (is_of_ring queue FreeSide) old) head (own_ring queue FreeSide))
      tail (own_ring queue FreeSide);
}

pub free_goes_on : (shape : Shape) (old word word' : Place → ℕ) (queue slot x n start : ℕ) → queue < queues_of shape → n ≡ items_of shape queue → slot < n → FreeSoFar shape old word queue slot n start
    → Sets shape word word' (Slot queue FreeSide slot) x → ((value : ℕ) → value < n → (start + value) % n ≡ slot → x ≡ entry_of n (start + value) value)
    → FreeSoFar shape old word' queue (slot + 1) n start
free_goes_on shape old word word' queue slot x n start there size lt now sets full =
    let within : (j : ℕ) → j < n → HasItem shape queue j = λ j low. record { in_queues = there; in_items = omega (arith, low, size) } in
    record {
      head = sets.others (Head queue FreeSide) there (λ is. absurd (cc is)) ∙ now.head;
      tail = sets.others (Tail queue FreeSide) there (λ is. absurd (cc is)) ∙ now.tail;
      entries = λ value small low. elim (cases_eq ((start + value) % n) slot) [
        | inl same ↦ ap (λ (j : ℕ). word' (Slot queue FreeSide j)) same ∙ sets.here ∙ full value small same
        | inr other ↦ sets.others (Slot queue FreeSide ((start + value) % n)) (within ((start + value) % n) (omega (arith, low, lt))) (λ is. absurd (other (cc is))) ∙ now.entries value small (omega (arith, low, other))
      ];
      others = set_only shape (is_of_ring queue FreeSide) old word word' (Slot queue FreeSide slot) x now.others sets (own_ring queue FreeSide);
    }

pub free_done : (shape : Shape) (old word : Place → ℕ) (queue slot n start : ℕ) → 0 < n → n ≤ slot → FreeSoFar shape old word queue slot n start → StartsFull n start (ring_of word queue FreeSide)
free_done shape old word queue slot n start pos all now = record {
  head = now.head;
  tail = now.tail;
  entries = λ value small. now.entries value small (omega (arith, mod-lt (start + value) pos, all));
}

-- ---- all rings

-- a ring of which no word changed is as it was
ring_same : (shape : Shape) (word word' : Place → ℕ) (test : Place → Bool) (queue : ℕ) (side : Side) → queue < queues_of shape → ChangesOnly shape test word word' → test (Head queue side) ≡ false → test (Tail queue side) ≡ false → ((j : ℕ) → test (Slot queue side j) ≡ false)
    → SameWords (items_of shape queue) (ring_of word queue side) (ring_of word' queue side)
ring_same shape word word' test queue side there changes head tail slots = record {
  head = changes (Head queue side) there head;
  tail = changes (Tail queue side) there tail;
  entries = λ j lt. changes (Slot queue side j) (record { in_queues = there; in_items = lt }) (slots j);
}

still_full : (n start : ℕ) (w w' : Words) → 0 < n → SameWords n w w' → StartsFull n start w → StartsFull n start w'
still_full n start w w' pos same full = record {
  head = same.head ∙ full.head;
  tail = same.tail ∙ full.tail;
  entries = λ value small. same.entries ((start + value) % n) (mod-lt (start + value) pos) ∙ full.entries value small;
}

still_empty : (n start : ℕ) (w w' : Words) → 0 < n → SameWords n w w' → StartsEmpty n start w → StartsEmpty n start w'
still_empty n start w w' pos same empty = record {
  head = same.head ∙ empty.head;
  tail = same.tail ∙ empty.tail;
  entries = λ place before near. same.entries (place % n) (mod-lt place pos) ∙ empty.entries place before near;
}

-- a ring stays where one of another queue, or the other one of its queue, changes
ring_left : (shape : Shape) (word word' : Place → ℕ) (queue : ℕ) (side : Side) (q : ℕ) (s : Side) → q < queues_of shape → ChangesRing shape word word' queue side → (queue == q && is_same_side side s) ≡ false → SameWords (items_of shape q) (ring_of word q s) (ring_of word' q s)
ring_left shape word word' queue side q s there changes off = ring_same shape word word' (is_of_ring queue side) q s there changes off off (λ j. off)

-- so far the queues below this one have begun
pub record QueuesSoFar (shape : Shape) (old word : Place → ℕ) (queue : ℕ) : Type 0 where
  pub begun : (q : ℕ) → q < queue → HasBegun shape word q
  pub others : ChangesRings shape old word

pub no_queues : (shape : Shape) (old : Place → ℕ) → QueuesSoFar shape old old 0
no_queues shape old = record { begun = λ q lt. absurd (omega (arith, lt)); others = same_only shape is_of_rings old }

pub queues_go_on : (shape : Shape) (old word one word' : Place → ℕ) (queue : ℕ) → IsValid shape → queue < queues_of shape → QueuesSoFar shape old word queue
    → ChangesRing shape word one queue FreeSide → StartsFull (items_of shape queue) shape.start (ring_of one queue FreeSide)
    → ChangesRing shape one word' queue LineSide → StartsEmpty (items_of shape queue) shape.start (ring_of word' queue LineSide)
    → QueuesSoFar shape old word' (queue + 1)
queues_go_on shape old word one word' queue valid there now free full line empty = record {
  begun = λ q lt. elim (cases_eq q queue) [
    | inl same ↦ subst (HasBegun shape word') (sym same) (record {
      free = still_full (items_of shape queue) shape.start (ring_of one queue FreeSide) (ring_of word' queue FreeSide) (sizes shape queue valid).0
          (ring_left shape one word' queue LineSide queue FreeSide there line (other_side queue queue LineSide FreeSide refl)) full;
      line = empty;
    })
    | inr other ↦
        let in_queues : q < queues_of shape = omega (arith, lt, there, other) in
        let off : (side s : Side) → (queue == q && is_same_side side s) ≡ false = λ side s. other_queue queue q side s (λ is. other (sym is)) in
        let had = now.begun q (omega (arith, lt, other)) in
        let pos = (sizes shape q valid).0 in
        let n : ℕ = items_of shape q in
        record {
          free = still_full n shape.start (ring_of one q FreeSide) (ring_of word' q FreeSide) pos (ring_left shape one word' queue LineSide q FreeSide in_queues line (off LineSide FreeSide))
              (still_full n shape.start (ring_of word q FreeSide) (ring_of one q FreeSide) pos (ring_left shape word one queue FreeSide q FreeSide in_queues free (off FreeSide FreeSide)) had.free);
          line = still_empty n shape.start (ring_of one q LineSide) (ring_of word' q LineSide) pos (ring_left shape one word' queue LineSide q LineSide in_queues line (off LineSide LineSide))
              (still_empty n shape.start (ring_of word q LineSide) (ring_of one q LineSide) pos (ring_left shape word one queue FreeSide q LineSide in_queues free (off FreeSide LineSide)) had.line);
        }
  ];
  others = λ place in_shape off. line place in_shape (no_ring place off queue LineSide) ∙ free place in_shape (no_ring place off queue FreeSide) ∙ now.others place in_shape off;
}

-- ---- the map

-- so far the map words below this one are all ones
pub record MapSoFar (shape : Shape) (old word : Place → ℕ) (number : ℕ) : Type 0 where
  pub ones : (k : ℕ) → k < number → word (Chunks k) ≡ 2 ^ 64 - 1
  pub others : ChangesMap shape old word

pub no_words : (shape : Shape) (old : Place → ℕ) → MapSoFar shape old old 0
no_words shape old = record { ones = λ k lt. absurd (omega (arith, lt)); others = same_only shape is_of_map old }

pub map_goes_on : (shape : Shape) (old word word' : Place → ℕ) (number : ℕ) → number < 10 * segments_of shape → MapSoFar shape old word number → Sets shape word word' (Chunks number) (2 ^ 64 - 1) → MapSoFar shape old word' (number + 1)
map_goes_on shape old word word' number there now sets = record {
  ones = λ k lt. elim (cases_eq k number) [
    | inl same ↦ ap (λ (j : ℕ). word' (Chunks j)) same ∙ sets.here
    | inr other ↦ sets.others (Chunks k) (omega (arith, lt, there, other)) (λ is. absurd (other (cc is))) ∙ now.ones k (omega (arith, lt, other))
  ];
  others = set_only shape is_of_map old word word' (Chunks number) (2 ^ 64 - 1) now.others sets refl;
}

pub map_done : (shape : Shape) (old word : Place → ℕ) (number : ℕ) → 10 * segments_of shape ≤ number → MapSoFar shape old word number → (chunk : ℕ) → chunk < 640 * segments_of shape → is_free (map_of word) chunk ≡ true
map_done shape old word number all now chunk lt =
    ap (λ (w : ℕ). bit_at w (chunk % 64) == 1) (now.ones (chunk / 64) (omega (arith, lt, all)))
    ∙ ap (λ (d : ℕ). d == 1) (bit_at_ones 64 (chunk % 64) (omega arith))

-- ---- all words

pub zeros : (shape : Shape) (place : Place) → word_in shape (replicate (width_of shape) 0) place ≡ 0
zeros shape place = all_zero (width_of shape) (offset_of shape place)

module _ (shape : Shape) (zero_words mapped ringed streamed outed word : Place → ℕ) (valid : IsValid shape) (none : (place : Place) → zero_words place ≡ 0)
    (map : ChangesMap shape zero_words mapped) (ones : (chunk : ℕ) → chunk < 640 * segments_of shape → is_free (map_of mapped) chunk ≡ true)
    (rings : ChangesRings shape mapped ringed) (begun : (queue : ℕ) → queue < queues_of shape → HasBegun shape ringed queue)
    (next : Sets shape ringed streamed NextStream 1) (out : Sets shape streamed outed OpenedOut 1) (back : Sets shape outed word OpenedBack 1) where
  -- a word of a ring, of an item or of the map is as it was before the last three
  three : (place : Place) → IsThere shape place → place ≢ NextStream → place ≢ OpenedOut → place ≢ OpenedBack → word place ≡ ringed place
  three place there a b c = back.others place there c ∙ out.others place there b ∙ next.others place there a

  item_word : (place : Place) → IsThere shape place → is_of_rings place ≡ false → is_of_map place ≡ false → place ≢ NextStream → place ≢ OpenedOut → place ≢ OpenedBack → word place ≡ 0
  item_word place there off off_map a b c = three place there a b c ∙ rings place there off ∙ map place there off_map ∙ none place

  ring_after : (queue : ℕ) (side : Side) → queue < queues_of shape → SameWords (items_of shape queue) (ring_of ringed queue side) (ring_of word queue side)
  ring_after queue side there = record {
    head = three (Head queue side) there (λ is. absurd (cc is)) (λ is. absurd (cc is)) (λ is. absurd (cc is));
    tail = three (Tail queue side) there (λ is. absurd (cc is)) (λ is. absurd (cc is)) (λ is. absurd (cc is));
    entries = λ j lt. three (Slot queue side j) (record { in_queues = there; in_items = lt }) (λ is. absurd (cc is)) (λ is. absurd (cc is)) (λ is. absurd (cc is));
  }

  pub all_opened : IsOpened shape word
  all_opened = record {
    next = back.others NextStream tt (λ is. absurd (cc is)) ∙ out.others NextStream tt (λ is. absurd (cc is)) ∙ next.here;
    out = back.others OpenedOut tt (λ is. absurd (cc is)) ∙ out.here;
    back = back.here;
    rings = λ queue there.
        let pos = (sizes shape queue valid).0 in
        let n : ℕ = items_of shape queue in
        record {
          free = still_full n shape.start (ring_of ringed queue FreeSide) (ring_of word queue FreeSide) pos (ring_after queue FreeSide there) (begun queue there).free;
          line = still_empty n shape.start (ring_of ringed queue LineSide) (ring_of word queue LineSide) pos (ring_after queue LineSide there) (begun queue there).line;
        };
    tag = λ queue item there. item_word (Tag queue item) there refl refl (λ is. absurd (cc is)) (λ is. absurd (cc is)) (λ is. absurd (cc is));
    run = λ queue item there. item_word (RunWord queue item) there refl refl (λ is. absurd (cc is)) (λ is. absurd (cc is)) (λ is. absurd (cc is));
    part = λ queue item there. item_word (PartWord queue item) there refl refl (λ is. absurd (cc is)) (λ is. absurd (cc is)) (λ is. absurd (cc is));
    chunks = λ chunk lt.
        let number : ℕ = chunk / 64 in
        let there : IsThere shape (Chunks number) = omega (arith, lt) in
        ap (λ (w : ℕ). bit_at w (chunk % 64) == 1) (three (Chunks number) there (λ is. absurd (cc is)) (λ is. absurd (cc is)) (λ is. absurd (cc is)) ∙ rings (Chunks number) there refl) ∙ ones chunk lt;
  }
