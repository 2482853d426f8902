-- The numbers that the getters of matches give are those that the matches for the words write.
use Rattle.std.proofs.Common.{ℕ, ◌≡◌, ◌<◌, ◌≤◌, ◌^◌, Bool, cond, false, zero, suc, pos, List, [], ◌∷◌, ◌++◌, length, map, slice_index, slice_index_or, Option, Some, None, refl, sym, ap, ◌∙◌, subst, true, inl, inr, arith}
use Rattle.std.proofs.lemmas.Bool.{cases_lt}
use Rattle.std.proofs.lemmas.Int.{ints}
use Rattle.std.proofs.lemmas.List.{get_or_append_left, get_or_push, length-append}
use Rattle.std.specs.Prelude.{IfSome, option_and_then, option_map, slice_get, unwrap_or}
use Rattle.std.specs.List.{find}
use Rattle.std.specs.Str.{bytes_eq}
use Rattle.std.specs.Str.Parse.{IsNumeral, digits_value, starts_with_minus, without_leading_plus}
use Rattle.std.specs.Borrow.{Bor}
use Rattle.clap.specs.Facts.{parser_of_value}
use Rattle.clap.specs.Faults.{is_simple_and_free}
use Rattle.clap.specs.Kinds.{value_kinds, values_kinds}
use Rattle.clap.specs.Matches.{first_value, found_of, matched_of, raw_values}
use Rattle.clap.specs.Simple.{HasMatchesOf, is_simple, matches_of}
use Rattle.clap.specs.Values.{Accepts, IsSignedIn, refused_kind}
use Rattle.clap.specs.ValueTests.{accepts}
use Rattle.clap.specs.Walk.{Row, Rule, most_values}
use Rattle.clap.specs.Words.{Text, all_of, first_of}
use Rattle.clap.specs.declared.builder.value_parser.ValueParser.{ValueParser}
use Rattle.clap.specs.declared.builder.value_parser.ValueParser.TheVariants.{Signed}
use Rattle.clap.specs.declared.parser.matches.ArgMatches.{ArgMatches}
use Rattle.clap.proofs.OnLiterals.{clap_on_literals}
use Rattle.clap.proofs.ValueTestLemmas.{accepts-Accepts}
use Rattle.clap.proofs.WalkLemmas.{first_value-rows, raw_values-rows}
use Rattle.unit_serve.specs.Serve.{AreValuesOf, EachReadsAs, IsNumberIn, IsValueOf, ReadsAs, serve}
use Rattle.unit_serve.proofs.Passing.{HasPassing}
use Rattle.unit_serve.proofs.WalkKept.{both_pass}

pub free : is_simple_and_free serve ≡ true
unfolding clap_on_literals
free = refl

pub simple : is_simple serve ≡ true
unfolding clap_on_literals
simple = refl

-- ---- a text that passed

signed_number : (low high : ℕ) (text : Text) → 1 ≤ low → IsSignedIn (pos low) (pos high) text
    → IsNumeral 10 (without_leading_plus text) × (low ≤ digits_value 10 (without_leading_plus text)) × (digits_value 10 (without_leading_plus text) ≤ high)
signed_number low high text above passed = go (starts_with_minus text) refl
  where
    go : (b : Bool) → starts_with_minus text ≡ b
        → IsNumeral 10 (without_leading_plus text) × (low ≤ digits_value 10 (without_leading_plus text)) × (digits_value 10 (without_leading_plus text) ≤ high)
    go true minus =
        let low_ok = rw minus at passed.2 in
        absurd (omega (arith, ints, low_ok, above))
    go false minus =
        let numeral = rw minus at passed.0 in
        let low_ok = rw minus at passed.2 in
        let high_ok = rw minus at passed.3 in
        (numeral, omega (arith, ints, low_ok), omega (arith, ints, high_ok))

number_in : (bits low high : ℕ) (text : Text) (n : ℕ) → 1 ≤ low → high < 2 ^ bits → IsSignedIn (pos low) (pos high) text → ReadsAs bits text n
    → IsNumberIn low high text n
number_in bits low high text n above fits passed reads =
    let p = signed_number low high text above passed in
    let value : n ≡ digits_value 10 (without_leading_plus text) = reads p.0 (omega (arith, p.2, fits)) in
    record { numeral = p.0; value = value; least = omega (arith, value, p.1); most = omega (arith, value, p.2) }

accepted : (ignore_case : Bool) (p : ValueParser) (text : Text) → value_kinds ignore_case p text ≡ [] → Accepts ignore_case p text
accepted ignore_case p text e = accepts-Accepts ignore_case p text (go (accepts ignore_case p text) e)
  where
    go : (b : Bool) → cond b [] (refused_kind p ∷ []) ≡ [] → b ≡ true
    go true none = refl
    go false none = cc

signed_at : (ignore_case : Bool) (low high : ℕ) (texts : List Text) → values_kinds ignore_case (Signed (pos low) (pos high)) texts ≡ []
    → (i : ℕ) → i < length texts → IsSignedIn (pos low) (pos high) (slice_index_or texts i [])
signed_at ignore_case low high [] e i lt = absurd (omega (arith, lt))
signed_at ignore_case low high (t ∷ ts) e zero lt = accepted ignore_case (Signed (pos low) (pos high)) t (both_pass _ _ e).0
signed_at ignore_case low high (t ∷ ts) e (suc i) lt = signed_at ignore_case low high ts (both_pass (value_kinds ignore_case (Signed (pos low) (pos high)) t) _ e).1 i (omega (arith, lt))

-- ---- what the getters give

number_there : (bits n : ℕ) (text : Text) (r : Option (Bor Text)) → option_map (λ (s : Bor Text). s.now) r ≡ Some text
    → IfSome r (λ t. ReadsAs bits t.now n) → ReadsAs bits text n
number_there bits n text None is told = absurd (cc is)
number_there bits n text (Some t) is told = subst (λ (x : Text). ReadsAs bits x n) (ap (λ (o : Option Text). unwrap_or o []) is) told

first_from_all : (id : Text) (rows : List Row) (texts : List Text) → all_of id rows ≡ Some texts → first_of id rows ≡ slice_get texts 0
first_from_all id rows texts e = go (find (λ r. bytes_eq r.id id) rows) e
  where
    go : (o : Option Row) → option_map (λ r. r.values) o ≡ Some texts → option_and_then (λ r. slice_get r.values 0) o ≡ slice_get texts 0
    go None none = cc
    go (Some r) is = ap (λ (o : Option (List Text)). slice_get (unwrap_or o []) 0) is

-- the number of the first value of an argument
pub value_read : (words : List Text) (m : ArgMatches) (id : Text) (a : Rule) (bits low high n : ℕ) (r : Option (Bor Text)) → HasMatchesOf serve words m
    → HasPassing id a (matches_of serve words) → a.parser ≡ Some (Signed (pos low) (pos high)) → 1 ≤ low → high < 2 ^ bits
    → option_map (λ (s : Bor Text). s.now) r ≡ first_value (found_of m) id → IfSome r (λ t. ReadsAs bits t.now n) → IsValueOf id low high words n
value_read words m id a bits low high n r has passing parser above fits got told =
    go passing.0 passing.1 (subst (λ (p : Option ValueParser). values_kinds a.ignore_case (parser_of_value p) passing.0 ≡ []) parser passing.2.0) passing.2.1
  where
    go : (texts : List Text) → all_of id (matches_of serve words) ≡ Some texts → values_kinds a.ignore_case (Signed (pos low) (pos high)) texts ≡ []
        → 1 ≤ length texts → IsValueOf id low high words n
    go [] all pass some = absurd (omega (arith, some))
    go (t ∷ ts) all pass some =
        let first : first_of id (matches_of serve words) ≡ Some t = first_from_all id (matches_of serve words) (t ∷ ts) all in
        let gives = got ∙ first_value-rows (found_of m) id ∙ ap (first_of id) (has simple).0 ∙ first in
        record {
          text = t;
          first = first;
          number = number_in bits low high t n above fits (signed_at a.ignore_case low high (t ∷ ts) pass 0 (omega (arith, some))) (number_there bits n t r gives told);
        }

numbers_there : (bits : ℕ) (ns : List ℕ) (texts : List Text) (r : Option (Bor (List (Bor Text)))) → option_map (λ (s : Bor (List (Bor Text))). map (λ (v : Bor Text). v.now) s.now) r ≡ Some texts
    → IfSome r (λ ts. EachReadsAs bits (map (λ (t : Bor Text). t.now) ts.now) ns) → EachReadsAs bits texts ns
numbers_there bits ns texts None is told = absurd (cc is)
numbers_there bits ns texts (Some ts) is told = subst (λ (xs : List Text). EachReadsAs bits xs ns) (ap (λ (o : Option (List Text)). unwrap_or o []) is) told

-- and those of all its values
pub values_read : (words : List Text) (m : ArgMatches) (id : Text) (a : Rule) (bits low high most : ℕ) (ns : List ℕ) (r : Option (Bor (List (Bor Text)))) → HasMatchesOf serve words m
    → HasPassing id a (matches_of serve words) → a.parser ≡ Some (Signed (pos low) (pos high)) → most_values a ≡ most → 1 ≤ low → high < 2 ^ bits
    → option_map (λ (s : Bor (List (Bor Text))). map (λ (v : Bor Text). v.now) s.now) r ≡ option_map raw_values (matched_of (found_of m) id)
    → IfSome r (λ ts. EachReadsAs bits (map (λ (t : Bor Text). t.now) ts.now) ns) → AreValuesOf id low high most words ns
values_read words m id a bits low high most ns r has passing parser few above fits got told =
    let texts = passing.0 in
    let pass = subst (λ (p : Option ValueParser). values_kinds a.ignore_case (parser_of_value p) texts ≡ []) parser passing.2.0 in
    let gives = got ∙ raw_values-rows (found_of m) id ∙ ap (all_of id) (has simple).0 ∙ passing.1 in
    let reads = numbers_there bits ns texts r gives told in
    record {
      texts = texts;
      all = passing.1;
      count = reads.count;
      some = omega (arith, reads.count, passing.2.1);
      few = omega (arith, reads.count, passing.2.2, few);
      each = λ i lt.
          let under : i < length texts = omega (arith, lt, reads.count) in
          number_in bits low high _ _ above fits (signed_at a.ignore_case low high texts pass i under) (reads.each i under);
    }

pub numbers_more : (bits : ℕ) (texts : List Text) (ns : List ℕ) (text : Text) (n : ℕ) → EachReadsAs bits texts ns → ReadsAs bits text n
    → EachReadsAs bits (texts ++ text ∷ []) (ns ++ n ∷ [])
numbers_more bits texts ns text n before last = record {
  count = omega (arith, before.count, length-append ns (n ∷ []), length-append texts (text ∷ []));
  each = each;
}
  where
    each : (i : ℕ) → i < length (texts ++ text ∷ []) → ReadsAs bits (slice_index_or (texts ++ text ∷ []) i []) (slice_index (ns ++ n ∷ []) i)
    each i lt =
        elim (cases_lt i (length texts)) [
          | inl under ↦
              let of_text : slice_index_or (texts ++ text ∷ []) i [] ≡ slice_index_or texts i [] = get_or_append_left texts (text ∷ []) [] i under in
              let number : slice_index (ns ++ n ∷ []) i ≡ slice_index ns i = get_or_append_left ns (n ∷ []) 0 i (omega (arith, before.count, under)) in
              subst (λ (t : Text). ReadsAs bits t (slice_index (ns ++ n ∷ []) i)) (sym of_text)
              (subst (ReadsAs bits (slice_index_or texts i [])) (sym number) (before.each i under))
          | inr over ↦
              let last_text : length texts ≡ i = omega (arith, over, lt, length-append texts (text ∷ [])) in
              let of_text : slice_index_or (texts ++ text ∷ []) i [] ≡ text = get_or_push texts text [] i last_text in
              let number : slice_index (ns ++ n ∷ []) i ≡ n = get_or_push ns n 0 i (omega (arith, before.count, last_text)) in
              subst (λ (t : Text). ReadsAs bits t (slice_index (ns ++ n ∷ []) i)) (sym of_text) (subst (ReadsAs bits text) (sym number) last)
        ]
