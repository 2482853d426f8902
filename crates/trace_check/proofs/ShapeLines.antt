-- The line of a shape is read back as that shape, and a text that is read as a shape is its line without LF.
use Rattle.std.proofs.Common.{◌≡◌, ◌∙◌, ℕ, ◌-◌, ◌^◌, ◌<◌, ◌≤◌, ◌&&◌, nat_le, max, Bool, true, false, if◌then◌else◌, List, [], ◌∷◌, ◌++◌, refl, sym, ap, subst, arith}
use Rattle.std.specs.Prelude.{Option, Some, None, bytes_eq, codes, decimal}
use Rattle.std.proofs.lemmas.Bool.{and_parts, leb-true}
use Rattle.std.proofs.lemmas.Option.{option_and_then_some, same_Some}
use Rattle.std.proofs.lemmas.Slice.Eq.{bytes_eq-Decides}
use Rattle.trace_check.proofs.OneSpelling.{cut_joined, first_spelled, last_one, number_spelled, one_more}
use Rattle.trace_check.proofs.ReadBack.{first_back, last_back, same_front, text_of}
use Rattle.unit_types.proofs.SpelledLemmas.{cut_at}
use Rattle.trace_check.specs.Lines.{rest_of_shape, shape_of, u32_limit, u64_limit}
use Rattle.trace_check.specs.Numbers.{cut, first_number, number_of}
use Rattle.trace_check.specs.Traces.{shape_line, shape_numbers}
use Rattle.trace_check.specs.Verdicts.{is_from_1_to, is_valid}
use Rattle.unit_model.specs.Lines.{numbers_text}
use Rattle.unit_model.specs.declared.shape.Shape.{Shape}

-- ---- what is read is spelled so

abbrev pub IsRest : ℕ → ℕ → List ℕ → Shape → Type 0
IsRest items back_items text shape = (rest : List ℕ) × (shape_numbers shape ≡ items ∷ back_items ∷ rest) × (32 ∷ text ≡ numbers_text rest)

rest_spelled : (items back_items : ℕ) (text : List ℕ) (shape : Shape) → rest_of_shape items back_items text ≡ Some shape → IsRest items back_items text shape
unfolding rest_of_shape
rest_spelled items back_items text shape e =
    option_and_then_some _ (first_number u32_limit text) shape e (λ out is-out after-out.
    option_and_then_some _ (first_number u32_limit out.1) shape after-out (λ back is-back after-back.
    option_and_then_some _ (first_number u32_limit back.1) shape after-back (λ engines is-engines after-engines.
    option_and_then_some _ (first_number u32_limit engines.1) shape after-engines (λ workers is-workers after-workers.
    option_and_then_some _ (number_of u64_limit workers.1) shape after-workers (λ start is-start last.
    let o = first_spelled u32_limit text out (omega arith) is-out in
    let b = first_spelled u32_limit out.1 back (omega arith) is-back in
    let g = first_spelled u32_limit back.1 engines (omega arith) is-engines in
    let w = first_spelled u32_limit engines.1 workers (omega arith) is-workers in
    let s = number_spelled u64_limit start workers.1 (omega arith) is-start in
    let one = one_more engines.1 workers.1 workers.0 (start ∷ []) w.1 (last_one workers.1 start s.1) in
    let two = one_more back.1 engines.1 engines.0 (workers.0 ∷ start ∷ []) g.1 one in
    let three = one_more out.1 back.1 back.0 (engines.0 ∷ workers.0 ∷ start ∷ []) b.1 two in
    let rest = out.0 ∷ back.0 ∷ engines.0 ∷ workers.0 ∷ start ∷ [] in
    let read : Shape = record { items = items; back_items = back_items; out_segments = out.0; back_segments = back.0; engines = engines.0; workers = workers.0; start = start } in
    let P : Shape → Type 0 = λ p. IsRest items back_items text p in
    subst P (same_Some read shape last) (rest, refl, one_more text out.1 out.0 (back.0 ∷ engines.0 ∷ workers.0 ∷ start ∷ []) o.1 three))))))

by_name : (name : List ℕ) (b : Bool) (o : Option (ℕ × List ℕ)) (items : ℕ × List ℕ) → bytes_eq name (codes "shape") ≡ b → (if b then o else None) ≡ Some items
    → (name ≡ codes "shape") × (o ≡ Some items)
by_name name true o items is e = ((bytes_eq-Decides name (codes "shape")).0 is, e)
by_name name false o items is e = absurd (cc e)

pub shape_spelled : (shape : Shape) (text : List ℕ) → shape_of text ≡ Some shape → shape_line shape ≡ text ++ 10 ∷ []
unfolding shape_of
shape_spelled shape text e =
    option_and_then_some _ (cut text) shape e (λ parts is-cut after.
    option_and_then_some _ (if bytes_eq parts.0 (codes "shape") then first_number u32_limit parts.1 else None) shape after (λ items is-items after-items.
    option_and_then_some _ (first_number u32_limit items.1) shape after-items (λ back is-back after-back.
    let named = by_name parts.0 (bytes_eq parts.0 (codes "shape")) (first_number u32_limit parts.1) items refl is-items in
    let i = first_spelled u32_limit parts.1 items (omega arith) named.1 in
    let b = first_spelled u32_limit items.1 back (omega arith) is-back in
    let r = rest_spelled items.0 back.0 back.1 shape after-back in
    let all = one_more parts.1 items.1 items.0 (back.0 ∷ r.0) i.1 (one_more items.1 back.1 back.0 r.0 b.1 r.2) in
    let spelled : text ≡ codes "shape" ++ 32 ∷ parts.1 = cut_joined text parts is-cut ∙ ap (λ name. name ++ 32 ∷ parts.1) named.0 in
    ap (λ ns. (codes "shape" ++ numbers_text ns) ++ 10 ∷ []) r.1
    ∙ ap (λ ds. (codes "shape" ++ ds) ++ 10 ∷ []) (sym all)
    ∙ ap (λ t. t ++ 10 ∷ []) (sym spelled))))

-- ---- what is spelled so is read

abbrev pub FitsShape : Shape → Type 0
FitsShape shape =
    (shape.items < 2 ^ 32) × (shape.back_items < 2 ^ 32) × (shape.out_segments < 2 ^ 32) × (shape.back_segments < 2 ^ 32)
    × (shape.engines < 2 ^ 32) × (shape.workers < 2 ^ 32) × (shape.start < 2 ^ 64)

at_most : (most n : ℕ) → is_from_1_to most n ≡ true → n ≤ most
at_most most n e = leb-true n most (and_parts (nat_le 1 n) (nat_le n most) e).1

pub valid_fits : (shape : Shape) → is_valid shape ≡ true → FitsShape shape
valid_fits shape e =
    let items = is_from_1_to 16384 shape.items in
    let back_items = is_from_1_to 16384 shape.back_items in
    let out = is_from_1_to 8 shape.out_segments in
    let back = is_from_1_to 8 shape.back_segments in
    let engines = is_from_1_to 4 shape.engines in
    let workers = is_from_1_to 4 shape.workers in
    let low = nat_le (max shape.items shape.back_items) shape.start in
    let high = nat_le shape.start (2 ^ 62 - 16385) in
    let all = and_parts (items && back_items) ((out && back) && ((engines && workers) && (low && high))) e in
    let i = and_parts items back_items all.0 in
    let b = and_parts (out && back) ((engines && workers) && (low && high)) all.1 in
    let g = and_parts out back b.0 in
    let c = and_parts (engines && workers) (low && high) b.1 in
    let t = and_parts engines workers c.0 in
    let p = and_parts low high c.1 in (
      omega (arith, at_most 16384 shape.items i.0),
      omega (arith, at_most 16384 shape.back_items i.1),
      omega (arith, at_most 8 shape.out_segments g.0),
      omega (arith, at_most 8 shape.back_segments g.1),
      omega (arith, at_most 4 shape.engines t.0),
      omega (arith, at_most 4 shape.workers t.1),
      omega (arith, leb-true shape.start (2 ^ 62 - 16385) p.1),
    )

rest_back : (shape : Shape) → FitsShape shape
    → rest_of_shape shape.items shape.back_items (decimal shape.out_segments ++ 32 ∷ (decimal shape.back_segments ++ 32 ∷ (decimal shape.engines ++ 32 ∷ (decimal shape.workers ++ 32 ∷ (decimal shape.start ++ []))))) ≡ Some shape
unfolding rest_of_shape
rest_back shape fits =
    let four = decimal shape.start ++ [] in
    let three = decimal shape.workers ++ 32 ∷ four in
    let two = decimal shape.engines ++ 32 ∷ three in
    let one = decimal shape.back_segments ++ 32 ∷ two in
    rw (
      first_back u32_limit shape.out_segments one (omega (arith, fits.2)) (omega (arith, fits.2)),
      first_back u32_limit shape.back_segments two (omega (arith, fits.3)) (omega (arith, fits.3)),
      first_back u32_limit shape.engines three (omega (arith, fits.4)) (omega (arith, fits.4)),
      first_back u32_limit shape.workers four (omega (arith, fits.5)) (omega (arith, fits.5)),
      last_back u64_limit shape.start (omega (arith, fits.6)) fits.6,
    ) refl

pub shape_back : (shape : Shape) (text : List ℕ) → is_valid shape ≡ true → shape_line shape ≡ text ++ 10 ∷ [] → shape_of text ≡ Some shape
unfolding shape_of
shape_back shape text valid e =
    let fits = valid_fits shape valid in
    let three = decimal shape.out_segments ++ 32 ∷ (decimal shape.back_segments ++ 32 ∷ (decimal shape.engines ++ 32 ∷ (decimal shape.workers ++ 32 ∷ (decimal shape.start ++ [])))) in
    let two = decimal shape.back_items ++ 32 ∷ three in
    let one = decimal shape.items ++ 32 ∷ two in
    let read : shape_of (codes "shape" ++ 32 ∷ one) ≡ Some shape =
    rw (
      cut_at 32 (codes "shape") one refl,
      first_back u32_limit shape.items two (omega (arith, fits.0)) (omega (arith, fits.0)),
      first_back u32_limit shape.back_items three (omega (arith, fits.1)) (omega (arith, fits.1)),
    ) (rest_back shape fits) in
    ap shape_of (same_front (text_of (codes "shape") (shape_numbers shape)) text 10 e) ∙ read
