-- Members as a list: what a name finds where it stands, or where it belongs.
use Rattle.std.proofs.Common.{◌≡◌, ℕ, zero, suc, List, [], ◌∷◌, get_or, set, Some, None, Equal, option_map, refl, ap, arith}
use Rattle.std.proofs.lemmas.Cmp.{nat_list_cmp_total, tied_itself}
use Rattle.std.specs.Cmp.Lexicographic.{slice_cmp}
use Rattle.std.specs.List.{insert, remove}
use Rattle.std.specs.Ordering.{nat_cmp}
use Rattle.serde_json.specs.Data.{Data, member, put}
use Rattle.serde_json.specs.Find.{get_member}
use Rattle.conf_tree.specs.Paths.{remove_member}
use Rattle.conf_tree.specs.Places.{AreAfter, HasNameAt, IsGapAt}
use Rattle.conf_tree.specs.View.{Named, members_of}

same_name : (k l : List ℕ) → k ≡ l → slice_cmp nat_cmp l k ≡ Equal
same_name k l e = rw e (tied_itself nat_list_cmp_total l)

-- ---- where the name stands

pub get_named : (k : List ℕ) (es : List Named) (i : ℕ) (d : Named) → HasNameAt k es i → get_member k (members_of es) ≡ Some (get_or es i d).1
get_named k [] i d h = absurd (omega (arith, h.within))
get_named k (e ∷ es) zero d h = rw (same_name e.0 k (h.here d)) refl
get_named k (e ∷ es) (suc i) d h = rw h.before.0 (get_named k es i d (record { within = omega (arith, h.within); before = h.before.1; here = λ x. h.here x }))

pub put_named : (k : List ℕ) (v : Data) (es : List Named) (i : ℕ) (d : Named) → HasNameAt k es i → put k v (members_of es) ≡ members_of (set es i ((get_or es i d).0, v))
put_named k v [] i d h = absurd (omega (arith, h.within))
put_named k v (e ∷ es) zero d h = rw (same_name e.0 k (h.here d)) refl
put_named k v (e ∷ es) (suc i) d h =
    rw h.before.0 (ap (member e.0 e.1) (put_named k v es i d (record { within = omega (arith, h.within); before = h.before.1; here = λ x. h.here x })))

pub remove_named : (k : List ℕ) (es : List Named) (i : ℕ) → HasNameAt k es i → remove_member k (members_of es) ≡ Some (members_of (remove es i))
remove_named k [] i h = absurd (omega (arith, h.within))
remove_named k (e ∷ es) zero h = rw (same_name e.0 k (h.here e)) refl
remove_named k (e ∷ es) (suc i) h =
    rw h.before.0 (ap (option_map (member e.0 e.1)) (remove_named k es i (record { within = omega (arith, h.within); before = h.before.1; here = λ x. h.here x })))

-- ---- where no member has the name

get_after : (k : List ℕ) (es : List Named) → AreAfter k es → get_member k (members_of es) ≡ None
get_after k [] h = refl
get_after k (e ∷ es) h = rw h.0 (get_after k es h.1)

remove_after : (k : List ℕ) (es : List Named) → AreAfter k es → remove_member k (members_of es) ≡ None
remove_after k [] h = refl
remove_after k (e ∷ es) h = rw h.0 (ap (option_map (member e.0 e.1)) (remove_after k es h.1))

pub get_unnamed : (k : List ℕ) (es : List Named) (i : ℕ) → IsGapAt k es i → get_member k (members_of es) ≡ None
get_unnamed k [] i h = refl
get_unnamed k (e ∷ es) zero h = get_after k (e ∷ es) h.after
get_unnamed k (e ∷ es) (suc i) h = rw h.before.0 (get_unnamed k es i (record { within = omega (arith, h.within); before = h.before.1; after = h.after }))

pub put_unnamed : (k : List ℕ) (v : Data) (es : List Named) (i : ℕ) → IsGapAt k es i → put k v (members_of es) ≡ members_of (insert es i (k, v))
put_unnamed k v [] zero h = refl
put_unnamed k v [] (suc i) h = absurd (omega (arith, h.within))
put_unnamed k v (e ∷ es) zero h = rw h.after.0 refl
put_unnamed k v (e ∷ es) (suc i) h = rw h.before.0 (ap (member e.0 e.1) (put_unnamed k v es i (record { within = omega (arith, h.within); before = h.before.1; after = h.after })))

pub remove_unnamed : (k : List ℕ) (es : List Named) (i : ℕ) → IsGapAt k es i → remove_member k (members_of es) ≡ None
remove_unnamed k [] i h = refl
remove_unnamed k (e ∷ es) zero h = remove_after k (e ∷ es) h.after
remove_unnamed k (e ∷ es) (suc i) h = rw h.before.0 (ap (option_map (member e.0 e.1)) (remove_unnamed k es i (record { within = omega (arith, h.within); before = h.before.1; after = h.after })))
