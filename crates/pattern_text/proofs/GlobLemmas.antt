-- Lemmas on patterns, texts and the iterators that give them.
use Rattle.std.proofs.Common.{◌≡◌, ◌≢◌, ℕ, ◌+◌, ◌<◌, ◌≤◌, Bool, true, false, ◌&&◌, ◌||◌, eqb, List, [], ◌∷◌, ◌++◌, length, get_or, drop, All, Option, Some, None, sym, refl, ap, ◌∙◌, ⊎_elim, append_assoc, arith, length-append}
use Rattle.std.specs.Iterator.{AlwaysYields}
use Rattle.std.specs.Char.{to_ascii_lowercase}
use Rattle.std.proofs.lemmas.Bool.{cond-false, and_left, and_parts, or_left, or_right, or_cases, eq-eqb, ne_eqb, eqb-true, both_ways}
use Rattle.std.proofs.lemmas.Bool.Decides.{nat_tests}
use Rattle.std.proofs.lemmas.List.{drop_more, drop_all, nil_from_length}
use Rattle.std.proofs.lemmas.List.Elements.{All-nil, All-cons, All-head, All-tail, All-append}
use Rattle.pattern_text.specs.declared.case.Case.{Case}
use Rattle.pattern_text.specs.declared.case.Case.TheVariants.{Exact, Ignored}
use Rattle.pattern_text.specs.Case.{folded, folded_all}
use Rattle.pattern_text.specs.TextPattern.{text_matches, some_end}
use Rattle.pattern_text.specs.Glob.{BothBegin}

-- ---- what an iterator gives

module _ {S : Type 0} (steps : S → Option ℕ → S → Type 0) where
  -- where `next` gave nothing, nothing was left
  pub none_left : (s t : S) (bytes : List ℕ) → AlwaysYields steps (λ b. b) s bytes → steps s None t → bytes ≡ []
  none_left s t [] yields ended = refl
  none_left s t (b ∷ bs) yields ended = absurd (yields.0 t ended)

  -- where it gave a byte, that byte was the first one left
  pub one_given : (s : S) (byte : ℕ) (t : S) (bytes : List ℕ) → AlwaysYields steps (λ b. b) s bytes → steps s (Some byte) t → (rest : List ℕ) × (bytes ≡ byte ∷ rest) × AlwaysYields steps (λ b. b) t rest
  one_given s byte t [] yields gave = absurd (yields byte t gave)
  one_given s byte t (b ∷ bs) yields gave =
      let given = yields.1 byte t gave in
      (bs, ap (λ x. x ∷ bs) (sym given.0), given.1)

-- ---- what a byte is compared as

-- a star alone is compared as a star
pub folded_star : (case : Case) → folded case 42 ≡ 42
folded_star Exact = refl
folded_star Ignored = refl

pub folded_no_star : (case : Case) (b : ℕ) → b ≢ 42 → folded case b ≢ 42
folded_no_star Exact b other = other
folded_no_star Ignored b other = lower_no_star b other
  where
    lower_no_star : (b : ℕ) → b ≢ 42 → to_ascii_lowercase b ≢ 42
    lower_no_star b other e = grind (arith, nat_tests)

-- ---- a literal part at the front of both

pub begin_here : (pattern text : List ℕ) → BothBegin pattern text pattern text
begin_here pattern text = record { part = []; no_star = All-nil (λ b. b ≢ 42); pattern_begins = refl; text_begins = refl }

pub begin_further : (pattern text : List ℕ) (byte : ℕ) (ps ts : List ℕ) → byte ≢ 42 → BothBegin pattern text (byte ∷ ps) (byte ∷ ts) → BothBegin pattern text ps ts
begin_further pattern text byte ps ts no_star both = record {
  part = both.part ++ byte ∷ [];
  no_star = All-append (λ b. b ≢ 42) both.part (byte ∷ []) both.no_star (All-cons (λ b. b ≢ 42) byte [] no_star (All-nil (λ b. b ≢ 42)));
  pattern_begins = both.pattern_begins ∙ sym (append_assoc both.part (byte ∷ []) ps);
  text_begins = both.text_begins ∙ sym (append_assoc both.part (byte ∷ []) ts);
}

-- ---- the test

pub matches_nothing_left : (byte : ℕ) (ps : List ℕ) → byte ≢ 42 → text_matches (byte ∷ ps) [] ≡ false
matches_nothing_left byte ps no_star = cond-false _ _ _ (ne_eqb byte 42 no_star)

pub matches_other_byte : (byte b : ℕ) (ps bs : List ℕ) → byte ≢ 42 → b ≢ byte → text_matches (byte ∷ ps) (b ∷ bs) ≡ false
matches_other_byte byte b ps bs no_star differs =
    cond-false _ _ _ (ne_eqb byte 42 no_star) ∙ and_left _ _ (ne_eqb b byte differs)

matches_same_byte : (byte : ℕ) (ps bs : List ℕ) → byte ≢ 42 → text_matches (byte ∷ ps) (byte ∷ bs) ≡ text_matches ps bs
matches_same_byte byte ps bs no_star =
    cond-false _ _ _ (ne_eqb byte 42 no_star) ∙ ap (λ t. t && text_matches ps bs) (eq-eqb byte byte refl)

matches_part : (part ps bs : List ℕ) → All (λ b. b ≢ 42) part → text_matches (part ++ ps) (part ++ bs) ≡ text_matches ps bs
matches_part [] ps bs no_star = refl
matches_part (p ∷ part) ps bs no_star =
    matches_same_byte p (part ++ ps) (part ++ bs) (All-head (λ b. b ≢ 42) p part no_star) ∙ matches_part part ps bs (All-tail (λ b. b ≢ 42) p part no_star)

-- a part that both begin with decides nothing
pub matches_behind_part : (pattern text ps ts : List ℕ) → BothBegin pattern text ps ts → text_matches pattern text ≡ text_matches ps ts
matches_behind_part pattern text ps ts both =
    rw (both.pattern_begins, both.text_begins) (matches_part both.part ps ts both.no_star)

-- a text that a part and a star match begins with the part
begins_where_matched : (part ps text : List ℕ) → All (λ b. b ≢ 42) part → text_matches (part ++ ps) text ≡ true → (rest : List ℕ) × (text ≡ part ++ rest) × (text_matches ps rest ≡ true)
begins_where_matched [] ps text no_star matched = (text, refl, matched)
begins_where_matched (p ∷ part) ps [] no_star matched =
    absurd (both_ways _ (matches_nothing_left p (part ++ ps) (All-head (λ b. b ≢ 42) p part no_star)) matched)
begins_where_matched (p ∷ part) ps (b ∷ bs) no_star matched =
    let head = All-head (λ b. b ≢ 42) p part no_star in
    let both : (eqb b p && text_matches (part ++ ps) bs) ≡ true = sym (cond-false _ _ _ (ne_eqb p 42 head)) ∙ matched in
    let parts = and_parts _ _ both in
    let same : b ≡ p = eqb-true b p parts.0 in
    let behind = begins_where_matched part ps bs (All-tail (λ b. b ≢ 42) p part no_star) parts.1 in
    (behind.0, ap (λ x. b ∷ x) behind.1 ∙ ap (λ x. x ∷ (part ++ behind.0)) same, behind.2)

-- ---- ends of a text

-- the end that passes
pub passing_end : (test : List ℕ → Bool) (text : List ℕ) → some_end test text ≡ true → (front end : List ℕ) × (text ≡ front ++ end) × (test end ≡ true)
passing_end test [] passed = ([], [], refl, passed)
passing_end test (b ∷ bs) passed =
    ⊎_elim
    (λ here. ([], b ∷ bs, refl, here))
    (λ later. let found = passing_end test bs later in (b ∷ found.0, found.1, ap (λ x. b ∷ x) found.2, found.3))
    (or_cases (test (b ∷ bs)) (some_end test bs) passed)

pub some_end_at : (test : List ℕ → Bool) (front end : List ℕ) → test end ≡ true → some_end test (front ++ end) ≡ true
some_end_at test [] [] passed = passed
some_end_at test [] (b ∷ bs) passed = or_left _ _ passed
some_end_at test (f ∷ front) end passed = or_right _ _ (some_end_at test front end passed)

-- of two ends of one text the shorter is an end of the longer
shorter_end : (x y longer shorter : List ℕ) → x ++ longer ≡ y ++ shorter → length shorter ≤ length longer → (front : List ℕ) × (longer ≡ front ++ shorter)
shorter_end [] y longer shorter same fits = (y, same)
shorter_end (a ∷ x) [] longer shorter same fits =
    absurd (omega (arith, ap length same, length-append x longer))
shorter_end (a ∷ x) (b ∷ y) longer shorter same fits =
    let tails : x ++ longer ≡ y ++ shorter = ap (drop 1) same in
    shorter_end x y longer shorter tails fits

nested_end : (text front end part rest inside last : List ℕ) → text ≡ front ++ end → end ≡ part ++ rest → rest ≡ inside ++ last → text ≡ (front ++ (part ++ inside)) ++ last
nested_end text front end part rest inside last outer begun inner =
    outer ∙ ap (λ x. front ++ x) (begun ∙ ap (λ x. part ++ x) inner ∙ sym (append_assoc part inside last)) ∙ sym (append_assoc front (part ++ inside) last)

nested_fits : (part behind front end rest inside last : List ℕ) → part ++ behind ≡ front ++ end → end ≡ part ++ rest → rest ≡ inside ++ last → length last ≤ length behind
nested_fits part behind front end rest inside last outer begun inner =
    omega (arith, ap length outer, ap length begun, ap length inner, length-append part behind, length-append front end, length-append part rest, length-append inside last)

two_bools : (x y : Bool) → (x ≡ true → y ≡ true) → (y ≡ true → x ≡ true) → x ≡ y
two_bools true y to from = sym (to refl)
two_bools false true to from = from refl
two_bools false false to from = refl

-- an earlier star may stop looking once its literal part is found: the first place serves as well as any later one
first_place_serves : (part ps behind : List ℕ) → All (λ b. b ≢ 42) part → some_end (text_matches (part ++ 42 ∷ ps)) (part ++ behind) ≡ some_end (text_matches ps) behind
first_place_serves part ps behind no_star = two_bools _ _ to from
  where
    to : some_end (text_matches (part ++ 42 ∷ ps)) (part ++ behind) ≡ true → some_end (text_matches ps) behind ≡ true
    to passed =
        let outer = passing_end (text_matches (part ++ 42 ∷ ps)) (part ++ behind) passed in
        let begun = begins_where_matched part (42 ∷ ps) outer.1 no_star outer.3 in
        let inner = passing_end (text_matches ps) begun.0 begun.2 in
        let whole = nested_end (part ++ behind) outer.0 outer.1 part begun.0 inner.0 inner.1 outer.2 begun.1 inner.2 in
        let fits = nested_fits part behind outer.0 outer.1 begun.0 inner.0 inner.1 outer.2 begun.1 inner.2 in
        let place = shorter_end part (outer.0 ++ (part ++ inner.0)) behind inner.1 whole fits in
        rw place.1 (some_end_at (text_matches ps) place.0 inner.1 inner.3)

    from : some_end (text_matches ps) behind ≡ true → some_end (text_matches (part ++ 42 ∷ ps)) (part ++ behind) ≡ true
    from passed = some_end_at (text_matches (part ++ 42 ∷ ps)) [] (part ++ behind) (matches_part part (42 ∷ ps) behind no_star ∙ passed)

pub some_end_behind_part : (pattern text ps ts : List ℕ) → BothBegin pattern text (42 ∷ ps) ts → some_end (text_matches pattern) text ≡ some_end (text_matches ps) ts
some_end_behind_part pattern text ps ts both =
    rw (both.pattern_begins, both.text_begins) (first_place_serves both.part ps ts both.no_star)

-- ---- the loop over a part

-- the pattern from a place on, as it is compared
folded_at : (case : Case) (pattern : List ℕ) (at : ℕ) → at < length pattern → folded_all case (drop at pattern) ≡ folded case (get_or pattern at 0) ∷ folded_all case (drop (at + 1) pattern)
folded_at case pattern at within = ap (folded_all case) (drop_more pattern at 0 within)

folded_past : (case : Case) (pattern : List ℕ) (at : ℕ) → length pattern ≤ at → folded_all case (drop at pattern) ≡ []
folded_past case pattern at past = ap (folded_all case) (drop_all at pattern past)

module _ {S : Type 0} (steps : S → Option ℕ → S → Type 0) (case : Case) (pattern bytes : List ℕ) (at : ℕ) where
  -- the part is passed up to a place of the pattern, and the text is left at s
  abbrev pub PassedTo : S → Type 0
  PassedTo s = (behind : List ℕ) × AlwaysYields steps (λ b. b) s behind
      × BothBegin (folded_all case pattern) (folded_all case bytes) (folded_all case (drop at pattern)) (folded_all case behind)

  pub text_ended : (s t : S) → PassedTo s → steps s None t → at < length pattern → get_or pattern at 0 ≢ 42 → text_matches (folded_all case pattern) (folded_all case bytes) ≡ false
  text_ended s t passed ended within other =
      let over : folded_all case passed.0 ≡ [] = ap (folded_all case) (none_left steps s t passed.0 passed.1 ended) in
      let wanted = folded case (get_or pattern at 0) in
      let rest = folded_all case (drop (at + 1) pattern) in
      let same : text_matches (folded_all case (drop at pattern)) (folded_all case passed.0) ≡ text_matches (wanted ∷ rest) [] = rw (folded_at case pattern at within, over) refl in
      matches_behind_part _ _ _ _ passed.2 ∙ same ∙ matches_nothing_left wanted rest (folded_no_star case _ other)

  pub text_differs : (s : S) (byte : ℕ) (t : S) → PassedTo s → steps s (Some byte) t → at < length pattern → get_or pattern at 0 ≢ 42 → folded case byte ≢ folded case (get_or pattern at 0) → text_matches (folded_all case pattern) (folded_all case bytes) ≡ false
  text_differs s byte t passed gave within other differs =
      let given = one_given steps s byte t passed.0 passed.1 gave in
      let wanted = folded case (get_or pattern at 0) in
      let rest = folded_all case (drop (at + 1) pattern) in
      let more : folded_all case passed.0 ≡ folded case byte ∷ folded_all case given.0 = ap (folded_all case) given.1 in
      let same : text_matches (folded_all case (drop at pattern)) (folded_all case passed.0) ≡ text_matches (wanted ∷ rest) (folded case byte ∷ folded_all case given.0) = rw (folded_at case pattern at within, more) refl in
      matches_behind_part _ _ _ _ passed.2 ∙ same ∙ matches_other_byte wanted (folded case byte) rest (folded_all case given.0) (folded_no_star case _ other) differs

  pub text_goes_on : (s : S) (byte : ℕ) (t : S) → PassedTo s → steps s (Some byte) t → length pattern ≤ at → text_matches (folded_all case pattern) (folded_all case bytes) ≡ false
  text_goes_on s byte t passed gave past =
      let given = one_given steps s byte t passed.0 passed.1 gave in
      let more : folded_all case passed.0 ≡ folded case byte ∷ folded_all case given.0 = ap (folded_all case) given.1 in
      let same : text_matches (folded_all case (drop at pattern)) (folded_all case passed.0) ≡ false = rw (folded_past case pattern at past, more) refl in
      matches_behind_part _ _ _ _ passed.2 ∙ same

  pub both_ended : (s t : S) → PassedTo s → steps s None t → length pattern ≤ at → text_matches (folded_all case pattern) (folded_all case bytes) ≡ true
  both_ended s t passed ended past =
      let over : folded_all case passed.0 ≡ [] = ap (folded_all case) (none_left steps s t passed.0 passed.1 ended) in
      let same : text_matches (folded_all case (drop at pattern)) (folded_all case passed.0) ≡ true = rw (folded_past case pattern at past, over) refl in
      matches_behind_part _ _ _ _ passed.2 ∙ same

pub passed_one_more : {S : Type 0} (steps : S → Option ℕ → S → Type 0) (case : Case) (pattern bytes : List ℕ) (at : ℕ) (s : S) (byte : ℕ) (t : S) → PassedTo steps case pattern bytes at s → steps s (Some byte) t → at < length pattern → get_or pattern at 0 ≢ 42 → folded case byte ≡ folded case (get_or pattern at 0) → PassedTo steps case pattern bytes (at + 1) t
passed_one_more steps case pattern bytes at s byte t passed gave within other same =
    let given = one_given steps s byte t passed.0 passed.1 gave in
    let wanted = folded case (get_or pattern at 0) in
    let rest = folded_all case (drop (at + 1) pattern) in
    let more : folded_all case passed.0 ≡ wanted ∷ folded_all case given.0 = ap (folded_all case) given.1 ∙ ap (λ x. x ∷ folded_all case given.0) same in
    let both : BothBegin (folded_all case pattern) (folded_all case bytes) (wanted ∷ rest) (wanted ∷ folded_all case given.0) = rw (folded_at case pattern at within, more) at passed.2 in
    (given.0, given.2, begin_further (folded_all case pattern) (folded_all case bytes) wanted rest (folded_all case given.0) (folded_no_star case _ other) both)

-- ---- the loop over the stars

pub some_end_of_empty : (text : List ℕ) → some_end (text_matches []) text ≡ true
some_end_of_empty [] = refl
some_end_of_empty (b ∷ bs) = some_end_of_empty bs

some_end_here : (test : List ℕ → Bool) (text : List ℕ) → test text ≡ true → some_end test text ≡ true
some_end_here test [] passed = passed
some_end_here test (b ∷ bs) passed = or_left _ _ passed

module _ {S : Type 0} (steps : S → Option ℕ → S → Type 0) (case : Case) (answer : Bool) (pattern : List ℕ) where
  -- the answer is whether the pattern matches some end of what s still gives
  abbrev pub Awaits : S → Type 0
  Awaits s = (behind : List ℕ) × AlwaysYields steps (λ b. b) s behind
      × (answer ≡ some_end (text_matches (folded_all case pattern)) (folded_all case behind))

  pub answer_at_whole : (s : S) → (awaits : Awaits s) → text_matches (folded_all case pattern) (folded_all case awaits.0) ≡ true → true ≡ answer
  answer_at_whole s awaits matched = sym (awaits.2 ∙ some_end_here (text_matches (folded_all case pattern)) (folded_all case awaits.0) matched)

  pub answer_at_empty : (s : S) → length pattern ≡ 0 → Awaits s → true ≡ answer
  answer_at_empty s empty awaits =
      let none : folded_all case pattern ≡ [] = ap (folded_all case) (nil_from_length pattern empty) in
      sym (awaits.2 ∙ ap (λ p. some_end (text_matches p) (folded_all case awaits.0)) none ∙ some_end_of_empty (folded_all case awaits.0))

  pub answer_at_end : (s t : S) → (awaits : Awaits s) → text_matches (folded_all case pattern) (folded_all case awaits.0) ≡ false → steps s None t → false ≡ answer
  answer_at_end s t awaits differs ended =
      let over : folded_all case awaits.0 ≡ [] = ap (folded_all case) (none_left steps s t awaits.0 awaits.1 ended) in
      let missed : text_matches (folded_all case pattern) [] ≡ false = rw over at differs in
      sym (awaits.2 ∙ ap (some_end (text_matches (folded_all case pattern))) over ∙ missed)

  pub awaits_next : (s : S) (byte : ℕ) (t : S) → (awaits : Awaits s) → text_matches (folded_all case pattern) (folded_all case awaits.0) ≡ false → steps s (Some byte) t → Awaits t
  awaits_next s byte t awaits differs gave =
      let given = one_given steps s byte t awaits.0 awaits.1 gave in
      let more : folded_all case awaits.0 ≡ folded case byte ∷ folded_all case given.0 = ap (folded_all case) given.1 in
      let test = text_matches (folded_all case pattern) in
      let missed : test (folded case byte ∷ folded_all case given.0) ≡ false = rw more at differs in
      (given.0, given.2, awaits.2 ∙ ap (some_end test) more ∙ ap (λ b. b || some_end test (folded_all case given.0)) missed)

pub awaits_behind_part : {S : Type 0} (steps : S → Option ℕ → S → Type 0) (case : Case) (answer : Bool) (pattern rest : List ℕ) (s after : S) → (awaits : Awaits steps case answer pattern s) → (behind : List ℕ) × AlwaysYields steps (λ b. b) after behind × BothBegin (folded_all case pattern) (folded_all case awaits.0) (42 ∷ folded_all case rest) (folded_all case behind) → Awaits steps case answer rest after
awaits_behind_part steps case answer pattern rest s after awaits passed =
    (passed.0, passed.1, awaits.2 ∙ some_end_behind_part _ _ _ _ passed.2)
