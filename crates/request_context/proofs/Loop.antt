-- Reading fields one after the other, as a loop does.
use Rattle.std.proofs.Common.{◌≡◌, ℕ, suc, ◌-◌, ◌+◌, ◌≤◌, ◌<◌, List, [], ◌∷◌, ◌++◌, Option, Some, None, refl, sym, ap, ◌∙◌, append_assoc, arith}
use Rattle.std.proofs.lemmas.List.{append-nil}
use Rattle.unit_types.specs.declared.field.Field.{Field}
use Rattle.request_context.specs.declared.reading.ReadError.{ReadError}
use Rattle.request_context.specs.declared.reading.ReadError.TheVariants.{Memory, NoRecord}
use Rattle.request_context.specs.Reading.{◌>>=◌, Fails, field_at, fields_at}

-- what was read before, and what is still read
abbrev pub with_front : List Field → Option (List Field × List ℕ) → Option (List Field × List ℕ)
with_front front read = read >>= λ x. Some (front ++ x.0, x.1)

regroup : (front : List Field) (field : Field) (read : Option (List Field × List ℕ)) → with_front front (read >>= λ x. Some (field ∷ x.0, x.1)) ≡ with_front (front ++ field ∷ []) read
regroup front field (Some x) = ap (λ (fields : List Field). Some (fields, x.1)) (simp append_assoc)
regroup front field None = refl

pub goes_on : (front : List Field) (count i : ℕ) (bytes : List ℕ) (field : Field) (after : List ℕ) (total : Option (List Field × List ℕ)) → i < count → field_at bytes ≡ Some (field, after)
    → with_front front (fields_at (count - i) bytes) ≡ total → with_front (front ++ field ∷ []) (fields_at (count - (i + 1)) after) ≡ total
unfolding fields_at
goes_on front count i bytes field after total lt h so_far =
    let k : count - i ≡ suc (count - (i + 1)) = omega arith in
    let one : with_front front (fields_at (count - i) bytes) ≡ with_front (front ++ field ∷ []) (fields_at (count - (i + 1)) after) = rw (k, h) (regroup front field (fields_at (count - (i + 1)) after)) in
    sym one ∙ so_far

pub ends : (e : ReadError) (front : List Field) (count i : ℕ) (bytes : List ℕ) (total : Option (List Field × List ℕ)) → i < count → Fails e (field_at bytes)
    → with_front front (fields_at (count - i) bytes) ≡ total → Fails e total
unfolding fields_at
ends Memory front count i bytes total lt h so_far = tt
ends NoRecord front count i bytes total lt h so_far =
    let k : count - i ≡ suc (count - (i + 1)) = omega arith in
    let one : with_front front (fields_at (count - i) bytes) ≡ None = rw (k, h) refl in
    sym so_far ∙ one

pub is_done : (front : List Field) (count i : ℕ) (bytes : List ℕ) (total : Option (List Field × List ℕ)) → count ≤ i → with_front front (fields_at (count - i) bytes) ≡ total → total ≡ Some (front, bytes)
unfolding fields_at
is_done front count i bytes total le so_far =
    let k : count - i ≡ 0 = omega arith in
    let one : with_front front (fields_at (count - i) bytes) ≡ Some (front, bytes) = rw k (ap (λ (fields : List Field). Some (fields, bytes)) (append-nil front)) in
    sym so_far ∙ one
