-- Where a name stands, or would stand, among members whose names ascend.
use Rattle.std.specs.Prelude.{◌≡◌, ℕ, ◌<◌, ◌≤◌, List, [], ◌∷◌, length, take, drop, slice_index_or, Option, Some, Result, ⊤}
use Rattle.std.specs.Ordering.{nat_cmp}
use Rattle.std.specs.Option.{MatchOption}
use Rattle.std.specs.Result.{MatchResult}
use Rattle.std.specs.declared.cmp.Ordering.TheVariants.{Less, Greater}
use Rattle.std.specs.Cmp.Lexicographic.{slice_cmp}
use Rattle.conf_tree.specs.View.{Named}
use Rattle.conf_tree.specs.Paths.{digits_from, index_of}

-- each of these names comes before k
abbrev pub AreBefore : List ℕ → List Named → Type 0
AreBefore k [] = ⊤
AreBefore k (e ∷ es) = (slice_cmp nat_cmp k e.0 ≡ Greater) × AreBefore k es

-- each of these names comes after k
abbrev pub AreAfter : List ℕ → List Named → Type 0
AreAfter k [] = ⊤
AreAfter k (e ∷ es) = (slice_cmp nat_cmp k e.0 ≡ Less) × AreAfter k es

-- the member at i has the name k
pub record HasNameAt (k : List ℕ) (es : List Named) (i : ℕ) : Type 0 where
  pub within : i < length es
  pub before : AreBefore k (take i es)
  pub here : (d : Named) → (slice_index_or es i d).0 ≡ k

-- no member has the name k, which belongs before the member at i
pub record IsGapAt (k : List ℕ) (es : List Named) (i : ℕ) : Type 0 where
  pub within : i ≤ length es
  pub before : AreBefore k (take i es)
  pub after : AreAfter k (drop i es)

abbrev pub IsPlaceOf : List ℕ → List Named → Result ℕ ℕ → Type 0
IsPlaceOf k es r = MatchResult r (HasNameAt k es) (IsGapAt k es)

-- the index that the key names, where it is below len
abbrev pub IsIndexBelow : List ℕ → ℕ → Option ℕ → Type 0
IsIndexBelow k len r = MatchOption r ((i : ℕ) → index_of k ≡ Some i → len ≤ i) (λ i. (index_of k ≡ Some i) × (i < len))

-- the number that the digits write, where it is below len
abbrev pub IsNumberBelow : List ℕ → ℕ → Option ℕ → Type 0
IsNumberBelow ds len r = MatchOption r ((i : ℕ) → digits_from 0 ds ≡ Some i → len ≤ i) (λ i. (digits_from 0 ds ≡ Some i) × (i < len))
