-- Readers of parts: what one takes is spelled so, and what is spelled so it takes, whatever stands behind it.
use Rattle.std.proofs.Common.{◌≡◌, ℕ, ◌+◌, ◌^◌, ◌<◌, ◌≤◌, Bool, true, false, cond, ltb, List, [], ◌∷◌, ◌++◌, length, get_or, take, drop, Option, Some, None, refl, sym, ap, subst, ◌∙◌, append_assoc, arith, inl, inr}
use Rattle.std.specs.Int.{Width, w8, w16, w32, w64, w128, byte_len, from_be_bytes, to_be_bytes}
use Rattle.std.proofs.lemmas.Bool.{cases_lt, ltb-false, le-ltb}
use Rattle.std.proofs.lemmas.List.{take_at, drop_at, take-append-drop, length-append, length-take, get_or-drop, get_or-take, get_or_past}
use Rattle.std.proofs.lemmas.Nat.{be_bytes_2, be_bytes_4, be_bytes_8, from_be_bytes-to_be_bytes_2, from_be_bytes-to_be_bytes_4, from_be_bytes-to_be_bytes_8}
use Rattle.unit_types.specs.Record.{number, length_prefixed}
use Rattle.request_context.specs.Record.{IsShort}
use Rattle.request_context.specs.Reading.{◌>>=◌, both, made, number_at, text_at, minor_at}

abbrev pub IsBytes : List ℕ → Type 0
IsBytes bytes = (i : ℕ) → get_or bytes i 0 < 256

IsBytes-drop : (n : ℕ) (bytes : List ℕ) → IsBytes bytes → IsBytes (drop n bytes)
IsBytes-drop n bytes h i = rw get_or-drop (h (n + i))

IsBytes-take : (n : ℕ) (bytes : List ℕ) → IsBytes bytes → IsBytes (take n bytes)
IsBytes-take n bytes h i =
    elim (cases_lt i n) [
      | inl lt ↦ rw (get_or-take n bytes i 0 lt) (h i)
      | inr le ↦ rw (get_or_past (take n bytes) i 0 (omega (arith, length-take n bytes))) (omega arith)
    ]

-- the value of a step that gave one
pub bind_some : {A B : Type 0} (r : Option A) (f : A → Option B) (y : B) → (r >>= f) ≡ Some y → (x : A) × (r ≡ Some x) × (f x ≡ Some y)
bind_some (Some x) f y e = (x, refl, e)
bind_some None f y e = absurd cc

-- a test that held
pub guard_some : {A : Type 0} (b : Bool) (x y : A) → cond b None (Some x) ≡ Some y → (b ≡ false) × (x ≡ y)
guard_some true x y e = absurd cc
guard_some false x y e = (refl, cc)

pub some_is : {A : Type 0} (x y : A) → Some x ≡ Some y → x ≡ y
some_is x y e = cc

-- what a reader took from the front
pub record Takes (bytes text rest : List ℕ) : Type 0 where
  pub parts : bytes ≡ text ++ rest
  pub rest_fits : IsBytes rest

pub Takes-then : (a x b y c : List ℕ) → Takes a x b → Takes b y c → Takes a (x ++ y) c
Takes-then a x b y c p q = record { parts = p.parts ∙ ap (λ (t : List ℕ). x ++ t) q.parts ∙ sym (append_assoc x y c); rest_fits = q.rest_fits }

pub record IsReader {X : Type 0} (at : List ℕ → Option (X × List ℕ)) (spelled : X → List ℕ) (fits : X → Type 0) : Type 0 where
  pub takes : (bytes : List ℕ) (x : X × List ℕ) → IsBytes bytes → at bytes ≡ Some x → Takes bytes (spelled x.0) x.1 × fits x.0
  pub again : (x : X) (rest : List ℕ) → fits x → at (spelled x ++ rest) ≡ Some (x, rest)

-- ---- one after another, and what is made of a value

pub both_read : {X Y : Type 0} (first : List ℕ → Option (X × List ℕ)) (second : List ℕ → Option (Y × List ℕ)) (spelled : X → List ℕ) (spelled' : Y → List ℕ) (fits : X → Type 0) (fits' : Y → Type 0)
    → IsReader first spelled fits → IsReader second spelled' fits' → IsReader (both first second) (λ p. spelled p.0 ++ spelled' p.1) (λ p. fits p.0 × fits' p.1)
both_read {X = X} {Y = Y} first second spelled spelled' fits fits' ra rb = record {
  takes = λ bytes x ok e.
      let a = bind_some (first bytes) (λ (p : X × List ℕ). second p.1 >>= λ y. Some ((p.0, y.0), y.1)) x e in
      let b = bind_some (second a.0.1) (λ (y : Y × List ℕ). Some ((a.0.0, y.0), y.1)) x a.2 in
      let t = ra.takes bytes a.0 ok a.1 in
      let u = rb.takes a.0.1 b.0 t.0.rest_fits b.1 in
      subst (λ (y : (X × Y) × List ℕ). Takes bytes (spelled y.0.0 ++ spelled' y.0.1) y.1 × (fits y.0.0 × fits' y.0.1)) (some_is ((a.0.0, b.0.0), b.0.1) x b.2)
      (Takes-then bytes (spelled a.0.0) a.0.1 (spelled' b.0.0) b.0.1 t.0 u.0, (t.1, u.1));
  again = λ x rest f.
      ap (both first second) (append_assoc (spelled x.0) (spelled' x.1) rest) ∙ rw (ra.again x.0 (spelled' x.1 ++ rest) f.0, rb.again x.1 rest f.1) refl;
}

pub made_read : {X Y : Type 0} (make : X → Y) (split : Y → X) (at : List ℕ → Option (X × List ℕ)) (spelled : X → List ℕ) (spelled' : Y → List ℕ) (fits : X → Type 0) (fits' : Y → Type 0)
    → ((y : Y) → make (split y) ≡ y) → ((x : X) → spelled' (make x) ≡ spelled x) → ((x : X) → fits x → fits' (make x)) → ((y : Y) → fits' y → fits (split y))
    → IsReader at spelled fits → IsReader (made make at) spelled' fits'
made_read {X = X} {Y = Y} make split at spelled spelled' fits fits' inverse same to from r = record {
  takes = λ bytes y ok e.
      let a = bind_some (at bytes) (λ (x : X × List ℕ). Some (make x.0, x.1)) y e in
      let t = r.takes bytes a.0 ok a.1 in
      subst (λ (z : Y × List ℕ). Takes bytes (spelled' z.0) z.1 × fits' z.0) (some_is (make a.0.0, a.0.1) y a.2)
      (subst (λ (text : List ℕ). Takes bytes text a.0.1) (sym (same a.0.0)) t.0, to a.0.0 t.1);
  again = λ y rest f.
      let text : spelled' y ≡ spelled (split y) = ap spelled' (sym (inverse y)) ∙ same (split y) in
      let read : at (spelled (split y) ++ rest) ≡ Some (split y, rest) = r.again (split y) rest (from y f) in
      ap (λ (t : List ℕ). made make at (t ++ rest)) text ∙ rw (read, inverse y) refl;
}

-- ---- numbers

pub record IsWide (w : Width) (limit : ℕ) : Type 0 where
  pub len : (n : ℕ) → length (to_be_bytes w n) ≡ byte_len w
  pub back : (bytes : List ℕ) → length bytes ≡ byte_len w → IsBytes bytes → to_be_bytes w (from_be_bytes w bytes) ≡ bytes
  pub again : (n : ℕ) → n < limit → from_be_bytes w (to_be_bytes w n) ≡ n
  pub below : (bytes : List ℕ) → IsBytes bytes → from_be_bytes w bytes < limit

wide8-back : (bytes : List ℕ) → length bytes ≡ 1 → IsBytes bytes → to_be_bytes w8 (from_be_bytes w8 bytes) ≡ bytes
wide8-back [] len fits = absurd (omega arith)
wide8-back (b ∷ []) len fits = let lt : b < 256 = fits 0 in ap (λ (x : ℕ). x ∷ []) (omega arith)
wide8-back (b ∷ c ∷ bytes) len fits = absurd (omega arith)

wide8 : IsWide w8 (2 ^ 8)
wide8 = record {
  len = λ n. refl;
  back = wide8-back;
  again = λ n lt. omega arith;
  below = λ bytes fits. omega (arith, fits 0);
}

wide16 : IsWide w16 (2 ^ 16)
wide16 = record {
  len = λ n. refl;
  back = λ bytes len fits. be_bytes_2 bytes _ len fits refl;
  again = λ n lt. from_be_bytes-to_be_bytes_2 n lt;
  below = λ bytes fits. omega (arith, fits 0, fits 1);
}

wide32 : IsWide w32 (2 ^ 32)
wide32 = record {
  len = λ n. refl;
  back = λ bytes len fits. be_bytes_4 bytes _ len fits refl;
  again = λ n lt. from_be_bytes-to_be_bytes_4 n lt;
  below = λ bytes fits. omega (arith, fits 0, fits 1, fits 2, fits 3);
}

wide64 : IsWide w64 (2 ^ 64)
wide64 = record {
  len = λ n. refl;
  back = λ bytes len fits. be_bytes_8 bytes _ len fits refl;
  again = λ n lt. from_be_bytes-to_be_bytes_8 n lt;
  below = λ bytes fits. omega (arith, fits 0, fits 1, fits 2, fits 3, fits 4, fits 5, fits 6, fits 7);
}

number_takes : (w : Width) (limit : ℕ) → IsWide w limit → (bytes : List ℕ) (x : ℕ × List ℕ) → IsBytes bytes → number_at w bytes ≡ Some x → Takes bytes (number w x.0) x.1 × (x.0 < limit)
unfolding number_at number
number_takes w limit wide bytes (n, rest) fits e =
    let g = guard_some (ltb (length bytes) (byte_len w)) (from_be_bytes w (take (byte_len w) bytes), drop (byte_len w) bytes) (n, rest) e in
    let long : byte_len w ≤ length bytes = ltb-false _ _ g.0 in
    let n-is : from_be_bytes w (take (byte_len w) bytes) ≡ n = ap (λ (p : ℕ × List ℕ). p.0) g.1 in
    let rest-is : drop (byte_len w) bytes ≡ rest = ap (λ (p : ℕ × List ℕ). p.1) g.1 in
    let front : to_be_bytes w n ≡ take (byte_len w) bytes = rw (← n-is) (wide.back (take (byte_len w) bytes) (omega (arith, length-take (byte_len w) bytes)) (IsBytes-take (byte_len w) bytes fits)) in
    (record { parts = rw (front, ← rest-is) (sym (take-append-drop (byte_len w) bytes)); rest_fits = rw (← rest-is) (IsBytes-drop (byte_len w) bytes fits) }, rw (← n-is) (wide.below (take (byte_len w) bytes) (IsBytes-take (byte_len w) bytes fits)))

number_again : (w : Width) (limit : ℕ) → IsWide w limit → (n : ℕ) (rest : List ℕ) → n < limit → number_at w (number w n ++ rest) ≡ Some (n, rest)
unfolding number_at number
number_again w limit wide n rest lt =
    let len = wide.len n in
    let long : ltb (length (to_be_bytes w n ++ rest)) (byte_len w) ≡ false = le-ltb _ _ (omega (arith, length-append (to_be_bytes w n) rest)) in
    rw (long, take_at (to_be_bytes w n) rest (byte_len w) len, drop_at (to_be_bytes w n) rest (byte_len w) len, wide.again n lt) refl

number_read : (w : Width) (limit : ℕ) → IsWide w limit → IsReader (number_at w) (number w) (λ n. n < limit)
number_read w limit wide = record { takes = number_takes w limit wide; again = number_again w limit wide }

number8_read : IsReader (number_at w8) (number w8) (λ n. n < 2 ^ 8)
number8_read = number_read w8 (2 ^ 8) wide8

pub number16_read : IsReader (number_at w16) (number w16) (λ n. n < 2 ^ 16)
number16_read = number_read w16 (2 ^ 16) wide16

pub number32_read : IsReader (number_at w32) (number w32) (λ n. n < 2 ^ 32)
number32_read = number_read w32 (2 ^ 32) wide32

pub number64_read : IsReader (number_at w64) (number w64) (λ n. n < 2 ^ 64)
number64_read = number_read w64 (2 ^ 64) wide64

-- how many bytes a number has
pub length-number : (w : Width) (n : ℕ) → length (number w n) ≡ byte_len w
unfolding number
length-number w8 n = refl
length-number w16 n = refl
length-number w32 n = refl
length-number w64 n = refl
length-number w128 n = refl

-- ---- a minor version

minor_takes : (bytes : List ℕ) (x : ℕ × List ℕ) → IsBytes bytes → minor_at bytes ≡ Some x → Takes bytes (number w8 x.0) x.1 × (x.0 ≤ 1)
unfolding minor_at
minor_takes bytes x fits e =
    let a = bind_some (number_at w8 bytes) (λ (n : ℕ × List ℕ). cond (ltb 1 n.0) None (Some n)) x e in
    let g = guard_some (ltb 1 a.0.0) a.0 x a.2 in
    let t = number8_read.takes bytes a.0 fits a.1 in
    subst (λ (y : ℕ × List ℕ). Takes bytes (number w8 y.0) y.1 × (y.0 ≤ 1)) g.1 (t.0, ltb-false _ _ g.0)

minor_again : (n : ℕ) (rest : List ℕ) → n ≤ 1 → minor_at (number w8 n ++ rest) ≡ Some (n, rest)
unfolding minor_at
minor_again n rest le =
    let read : number_at w8 (number w8 n ++ rest) ≡ Some (n, rest) = number8_read.again n rest (omega arith) in
    let small : ltb 1 n ≡ false = le-ltb _ _ le in
    rw (read, small) refl

pub minor_read : IsReader minor_at (number w8) (λ n. n ≤ 1)
minor_read = record { takes = minor_takes; again = minor_again }

-- ---- texts

text_takes : (bytes : List ℕ) (x : List ℕ × List ℕ) → IsBytes bytes → text_at bytes ≡ Some x → Takes bytes (length_prefixed x.0) x.1 × IsShort x.0
unfolding text_at length_prefixed
text_takes bytes x fits e =
    let b = bind_some (number_at w32 bytes) (λ (n : ℕ × List ℕ). cond (ltb (length n.1) n.0) None (Some (take n.0 n.1, drop n.0 n.1))) x e in
    let n = b.0 in
    let t = number32_read.takes bytes n fits b.1 in
    let g = guard_some (ltb (length n.1) n.0) (take n.0 n.1, drop n.0 n.1) x b.2 in
    let long : n.0 ≤ length n.1 = ltb-false _ _ g.0 in
    let len : length (take n.0 n.1) ≡ n.0 = omega (arith, length-take n.0 n.1) in
    let second : Takes n.1 (take n.0 n.1) (drop n.0 n.1) = record { parts = sym (take-append-drop n.0 n.1); rest_fits = IsBytes-drop n.0 n.1 t.0.rest_fits } in
    let both = Takes-then bytes (number w32 n.0) n.1 (take n.0 n.1) (drop n.0 n.1) t.0 second in
    let all : Takes bytes (length_prefixed (take n.0 n.1)) (drop n.0 n.1) = subst (λ (k : ℕ). Takes bytes (number w32 k ++ take n.0 n.1) (drop n.0 n.1)) (sym len) both in
    subst (λ (p : List ℕ × List ℕ). Takes bytes (length_prefixed p.0) p.1 × IsShort p.0) g.1 (all, omega (arith, t.1))

text_again : (text rest : List ℕ) → IsShort text → text_at (length_prefixed text ++ rest) ≡ Some (text, rest)
unfolding text_at length_prefixed
text_again text rest lt =
    let long : ltb (length (text ++ rest)) (length text) ≡ false = le-ltb _ _ (omega (arith, length-append text rest)) in
    let regrouped : (number w32 (length text) ++ text) ++ rest ≡ number w32 (length text) ++ (text ++ rest) = append_assoc (number w32 (length text)) text rest in
    ap text_at regrouped ∙ rw (number32_read.again (length text) (text ++ rest) lt, long, take_at text rest (length text) refl, drop_at text rest (length text) refl) refl

pub text_read : IsReader text_at length_prefixed IsShort
text_read = record { takes = text_takes; again = text_again }
