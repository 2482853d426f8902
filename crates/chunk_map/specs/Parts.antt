-- The part of a rule that speaks of open segments, over views of any type. `noted v` is the number of open segments that the
-- view v has seen.
use Rattle.std.specs.Prelude.{ℕ, ◌+◌, ◌*◌, ◌/◌, ◌≡◌, ◌≤◌, ◌<◌, List, true}
use Rattle.unit_model.specs.Limits.{segment_chunks}
use mathlib.Core.Option.{some}
use lib.ListN.{get_elem?}
use Rattle.unit_model.specs.Weights.{weigh, below}
use Rattle.chunk_map.specs.Words.{is_free}

-- The open segments are the lowest ones. Their number is at least 1 and at least what each view has seen, and each chunk of a
-- segment that isn't open is free.
pub record OpenPart {V : Type 0} (segments : ℕ) (noted : V → ℕ) (opened : ℕ) (word : ℕ → ℕ) (views : List V) : Type 0 where
  pub least : 1 ≤ opened
  pub most : opened ≤ segments
  pub seen : (k : ℕ) (v : V) → get_elem? views k ≡ some v → noted v ≤ opened
  pub closed : (chunk : ℕ) → chunk < segment_chunks * segments
      → opened ≤ chunk / segment_chunks → is_free word chunk ≡ true

-- The number of open segments was 1 at first, and went up by one at each opening: by any weight, the numbers to which it was
-- taken weigh what those from 2 up to the number weigh.
abbrev pub OpeningsCounted : {V : Type 0} → (openings : (ℕ → ℕ) → V → ℕ) → ℕ → List V → Type 0
OpeningsCounted openings opened views = (f : ℕ → ℕ) → weigh (openings f) views + below f 2 ≡ below f (opened + 1)
