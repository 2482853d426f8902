-- A binary search among members whose names ascend.
use Rattle.std.proofs.Common.{◌≡◌, ℕ, zero, suc, ◌<◌, List, [], ◌∷◌, length, get_or, take, drop, map, Result, Ok, Err, Ordering, Less, Equal, Greater, is_eq, refl, sym, ap, ◌∙◌, subst, arith, add-one}
use Rattle.std.proofs.lemmas.Cmp.{nat_list_cmp_total}
use Rattle.std.proofs.lemmas.List.Sorted.{searchable_from_sorted}
use Rattle.std.proofs.lemmas.Map.Text.{is_eq-slice_cmp}
use Rattle.std.proofs.lemmas.Slice.Eq.{bytes_eq-Decides}
use Rattle.std.specs.Cmp.Lexicographic.{slice_cmp}
use Rattle.std.specs.List.{AllWithin}
use Rattle.std.specs.List.Sorted.{IsBinarySearchResult, IsSearchInRange, IsSortedBy}
use Rattle.std.specs.Ordering.{nat_cmp, ordering_reverse, is_lt}
use Rattle.conf_tree.proofs.Order.{turned}
use Rattle.conf_tree.specs.Document.{ComeAfter, AreMembers}
use Rattle.conf_tree.specs.Places.{AreBefore, AreAfter, IsPlaceOf}
use Rattle.conf_tree.specs.View.{Named, members_of, named}
use Rattle.conf_tree.specs.declared.tree.Member.{Member}

pub same_key : (k l : List ℕ) → slice_cmp nat_cmp k l ≡ Equal → k ≡ l
same_key k l e = (bytes_eq-Decides k l).0 (sym (is_eq-slice_cmp k l) ∙ ap is_eq e)

-- the answer of a search for k at a member
abbrev answer : List ℕ → Member → Ordering
answer k m = slice_cmp nat_cmp m.key k

after_at : (k : List ℕ) (ms : List Member) (i : ℕ) (d : Member) → ComeAfter k (members_of (map named ms)) → i < length ms → slice_cmp nat_cmp k (get_or ms i d).key ≡ Less
after_at k [] i d h lt = absurd (omega arith)
after_at k (m ∷ ms) zero d h lt = h.0
after_at k (m ∷ ms) (suc i) d h lt = after_at k ms i d h.1 (omega arith)

-- ---- the search may be made

ascends : (ms : List Member) (i : ℕ) (d : Member) → AreMembers (members_of (map named ms)) → suc i < length ms → slice_cmp nat_cmp (get_or ms i d).key (get_or ms (suc i) d).key ≡ Less
ascends [] i d h lt = absurd (omega arith)
ascends (m ∷ ms) zero d h lt = after_at m.key ms 0 d h.2 (omega arith)
ascends (m ∷ ms) (suc i) d h lt = ascends ms i d h.3 (omega arith)

sorted : (ms : List Member) → AreMembers (members_of (map named ms)) → IsSortedBy (λ a b. is_lt (slice_cmp nat_cmp a.key b.key)) ms
sorted ms h i d low lt = rw add-one (ap is_lt (turned (get_or ms (suc i) d).key (get_or ms i d).key ∙ ap ordering_reverse (ascends ms i d h (omega arith))))

-- ---- what it found

before_named : (k : List ℕ) (ms : List Member) (i : ℕ) (d : Member) → AreMembers (members_of (map named ms)) → i < length ms → (get_or ms i d).key ≡ k → AreBefore k (take i (map named ms))
before_named k [] i d h lt e = absurd (omega arith)
before_named k (m ∷ ms) zero d h lt e = tt
before_named k (m ∷ ms) (suc i) d h lt e = (
  turned k m.key ∙ ap ordering_reverse (subst (λ l. slice_cmp nat_cmp m.key l ≡ Less) e (after_at m.key ms i d h.2 (omega arith))),
  before_named k ms i d h.3 (omega arith) e,
)

before_from : (k : List ℕ) (ms : List Member) (i : ℕ) → AllWithin (λ m. answer k m ≡ Less) ms 0 i → AreBefore k (take i (map named ms))
before_from k [] zero h = tt
before_from k [] (suc i) h = tt
before_from k (m ∷ ms) zero h = tt
before_from k (m ∷ ms) (suc i) h = (
  turned k m.key ∙ ap ordering_reverse (h 0 m (omega arith) (omega arith)),
  before_from k ms i (λ j d low high. h (suc j) d (omega arith) (omega arith)),
)

after_from : (k : List ℕ) (ms : List Member) (i : ℕ) → AllWithin (λ m. answer k m ≡ Greater) ms i (length ms) → AreAfter k (drop i (map named ms))
after_from k [] zero h = tt
after_from k [] (suc i) h = tt
after_from k (m ∷ ms) zero h = (
  turned k m.key ∙ ap ordering_reverse (h 0 m (omega arith) (omega arith)),
  after_from k ms zero (λ j d low high. h (suc j) d (omega arith) (omega arith)),
)
after_from k (m ∷ ms) (suc i) h = after_from k ms i (λ j d low high. h (suc j) d (omega arith) (omega arith))

name_of : (ms : List Member) (i : ℕ) (d : Member) (e : Named) → i < length ms → (get_or (map named ms) i e).0 ≡ (get_or ms i d).key
name_of [] i d e lt = absurd (omega arith)
name_of (m ∷ ms) zero d e lt = refl
name_of (m ∷ ms) (suc i) d e lt = name_of ms i d e (omega arith)

count : (ms : List Member) → length (map named ms) ≡ length ms
count [] = refl
count (m ∷ ms) = ap suc (count ms)

-- a list with an element has that element
some_of : (ms : List Member) (i : ℕ) → i < length ms → Member
some_of [] i lt = absurd (omega arith)
some_of (m ∷ ms) i lt = m

pub place_from : (k : List ℕ) (ms : List Member) (r : Result ℕ ℕ) → AreMembers (members_of (map named ms)) → IsSearchInRange r (length ms) → IsBinarySearchResult (answer k) ms r → IsPlaceOf k (map named ms) r
place_from k ms (Ok i) h lt found =
    let d = some_of ms i lt in
    let here = same_key _ k (found d) in
    record { within = omega (arith, lt, count ms); before = before_named k ms i d h lt here; here = λ e. name_of ms i d e lt ∙ here }
place_from k ms (Err i) h le gap =
    let sides = gap (searchable_from_sorted nat_list_cmp_total (λ (m : Member). m.key) ms k (sorted ms h)) in
    record { within = omega (arith, le, count ms); before = before_from k ms i sides.0; after = after_from k ms i sides.1 }
