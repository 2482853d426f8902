-- Where a check stands, byte after byte.
use Rattle.std.proofs.Common.{◌≡◌, ℕ, zero, suc, ◌+◌, ◌<◌, ◌≤◌, true, false, List, [], ◌∷◌, ◌++◌, length, drop, get_or, refl, arith}
use Rattle.std.specs.Prelude.{Option, Some, None, is_some}
use Rattle.std.proofs.Math.Seq.{drop-cons}
use Rattle.trace_check.specs.Bytes.{after_byte, after_bytes}
use Rattle.trace_check.specs.Reading.{Follows, Stands}
use Rattle.trace_check.specs.Verdicts.{Passed, Standing, going, decided}
use Rattle.trace_check.specs.declared.reading.Reading.{Reading}
use Rattle.trace_check.specs.declared.verdict.Verdict.{Verdict}

pub decided_stays : (v : Verdict) (bytes : List ℕ) → after_bytes (decided v) bytes ≡ decided v
decided_stays v [] = refl
decided_stays v (b ∷ bs) = decided_stays v bs

pub after_both : (s : Standing) (xs ys : List ℕ) → after_bytes s (xs ++ ys) ≡ after_bytes (after_bytes s xs) ys
after_both s [] ys = refl
after_both s (x ∷ xs) ys = after_both (after_byte s x) xs ys

-- without a verdict the check goes on
pub still_going : (s : Standing) (reading : Reading) → Stands s None reading → (at : Passed) × (text : List ℕ) × (s ≡ going at text) × Follows at text reading
still_going (going at text) reading stands = (at, text, refl, stands.1)
still_going (decided v) reading stands = absurd (cc stands)

-- with a verdict later bytes change nothing
pub settled_now : (s : Standing) (bytes : List ℕ) (verdict : Option Verdict) (reading : Reading) → is_some verdict ≡ true → Stands s verdict reading
    → Stands (after_bytes s bytes) verdict reading
settled_now (going at text) bytes verdict reading some stands = let bad : is_some {T = Verdict} None ≡ true = rw stands.0 at some in absurd (cc bad)
settled_now (decided v) bytes verdict reading some stands = rw (decided_stays v bytes) stands

pub not_some : {X : Type 0} (o : Option X) → is_some o ≡ false → o ≡ None
not_some None e = refl
not_some (Some x) e = absurd (cc e)

-- the byte at a place, and the bytes behind it
pub next_byte : (bytes : List ℕ) (i : ℕ) → i < length bytes → drop i bytes ≡ get_or bytes i 0 ∷ drop (i + 1) bytes
next_byte bytes i lt = let one : i + 1 ≡ suc i = omega arith in rw one (drop-cons bytes i 0 lt)

drop_past : {X : Type 0} (xs : List X) (i : ℕ) → length xs ≤ i → drop i xs ≡ []
drop_past [] zero le = refl
drop_past [] (suc i) le = refl
drop_past (x ∷ xs) zero le = absurd (omega arith)
drop_past (x ∷ xs) (suc i) le = drop_past xs i (omega arith)

-- no byte is left behind the last one
pub no_byte : (s : Standing) (bytes : List ℕ) (i : ℕ) → length bytes ≤ i → after_bytes s (drop i bytes) ≡ s
no_byte s bytes i le = rw (drop_past bytes i le) refl
