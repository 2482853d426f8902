-- A request out of a head whose parts stand at places of its block.
use Rattle.std.proofs.Common.{ℕ, ◌≡◌, refl, sym, ap, ◌∙◌, List, [], ◌∷◌, take, map}
use Rattle.httparse.specs.Grammar.{RequestHead, IsField, IsRequestHead, field_value, is_token_byte}
use Rattle.httparse.specs.Grammar as grammar
use Rattle.httparse.specs.Spans.{header_bytes, name_and_value, IsRequestAt}
use Rattle.httparse.specs.declared.spans.HeaderSpan.{HeaderSpan}
use Rattle.httparse.specs.declared.spans.RequestSpans.{RequestSpans}
use Rattle.unit_types.specs.declared.field.Field.{Field}
use Rattle.unit_types.specs.Text.{lowercase}
use Rattle.http_front.specs.Message.{field_of, field_at}

-- ---- fields at their places

abbrev field_by : List ℕ × List ℕ → Field
field_by p = record { name = lowercase p.0; value = p.1 }

same_fields : (block : List ℕ) (headers : List HeaderSpan) (fields : List grammar.Field)
    → map (header_bytes block) headers ≡ map name_and_value fields → map (field_at block) headers ≡ map field_of fields
same_fields block headers fields same = by_pairs headers ∙ ap (map field_by) same ∙ sym (by_fields fields)
  where
    by_pairs : (hs : List HeaderSpan) → map (field_at block) hs ≡ map field_by (map (header_bytes block) hs)
    by_pairs [] = refl
    by_pairs (h ∷ hs) = ap (λ fs. field_at block h ∷ fs) (by_pairs hs)

    by_fields : (fs : List grammar.Field) → map field_of fs ≡ map field_by (map name_and_value fs)
    by_fields [] = refl
    by_fields (f ∷ fs) = ap (λ gs. field_of f ∷ gs) (by_fields fs)

pub request_fields : (block : List ℕ) (headers : List HeaderSpan) (spans : RequestSpans) (h : RequestHead) → IsRequestAt block headers spans h
    → map (field_at block) (take spans.headers headers) ≡ map field_of h.fields
request_fields block headers spans h at = same_fields block (take spans.headers headers) h.fields at.fields
