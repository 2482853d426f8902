-- The checks of a head, in their order (RFC 9112, sections 3 and 6; RFC 9110, section 15.5).
use Rattle.std.specs.Prelude.{ℕ, ◌+◌, ◌-◌, ◌*◌, Bool, true, false, not, ◌&&◌, ◌||◌, List, [], ◌∷◌, length, ◌==◌, nat_lt, Option, Some, None, codes, if◌then◌else◌}
use Rattle.std.specs.List.{list_all}
use Rattle.std.specs.Char.{is_ascii_digit}
use Rattle.unit_types.specs.declared.field.Field.{Field}
use Rattle.http_front.specs.Head.{lines_in}
use Rattle.unit_types.specs.Limits.{field_limit}
use Rattle.http_front.specs.Fields.{count_of}
use Rattle.http_front.specs.Framing.{has_length, has_coding, is_chunked, length_text, content_length}
use Rattle.http_front.specs.Target.{is_faulty_target}

-- more lines than that between the request line and the empty line: the fields are too large (431, RFC 6585, section 5)
abbrev pub has_too_many_lines : List ℕ → Bool
has_too_many_lines block = nat_lt (field_limit + 2) (length (lines_in block))

-- a check of a head: the status that refuses it, and whether it does, by the minor version, the target and the fields
pub record Check : Type 0 where
  pub status : ℕ
  pub refuses : ℕ → List ℕ → List Field → Bool

-- the target is of no form that is served (400, RFC 9112, section 3.2)
abbrev pub target_check : Check
target_check = record { status = 400; refuses = λ minor target fields. is_faulty_target target }

-- exactly one Host field in HTTP/1.1, at most one in HTTP/1.0 (400, RFC 9112, section 3.2)
abbrev pub lacks_host : ℕ → List Field → Bool
lacks_host minor fields =
    if minor == 1 then not (count_of (codes "host") fields == 1) else nat_lt 1 (count_of (codes "host") fields)

abbrev pub host_check : Check
host_check = record { status = 400; refuses = λ minor target fields. lacks_host minor fields }

-- Transfer-Encoding stands beside Content-Length, or in HTTP/1.0, which has none: a sign of smuggling (400, RFC 9112,
-- sections 6.1 and 6.3)
abbrev pub is_ambiguous : ℕ → List Field → Bool
is_ambiguous minor fields = has_coding fields && (has_length fields || minor == 0)

abbrev pub framing_check : Check
framing_check = record { status = 400; refuses = λ minor target fields. is_ambiguous minor fields }

-- the only transfer coding that is understood is `chunked` alone (501, RFC 9112, section 6.1)
abbrev pub has_other_coding : List Field → Bool
has_other_coding fields = has_coding fields && not (is_chunked fields)

abbrev pub coding_check : Check
coding_check = record { status = 501; refuses = λ minor target fields. has_other_coding fields }

abbrev pub has_digits : List ℕ → Bool
has_digits text = list_all is_ascii_digit text

-- Content-Length = 1*DIGIT (RFC 9110, section 8.6), here of at most 19 digits, and stands once (400, RFC 9112, section 6.3)
abbrev pub is_length_text : List ℕ → Bool
is_length_text text = nat_lt 0 (length text) && nat_lt (length text) 20 && has_digits text

abbrev pub has_faulty_length : List Field → Bool
has_faulty_length fields =
    has_length fields && not (count_of (codes "content-length") fields == 1 && is_length_text (length_text fields))

abbrev pub length_check : Check
length_check = record { status = 400; refuses = λ minor target fields. has_faulty_length fields }

-- the content is longer than what is taken (413, RFC 9110, section 15.5.14)
abbrev pub is_too_long : ℕ → List Field → Bool
is_too_long limit fields = nat_lt limit (content_length fields)

abbrev pub size_check : ℕ → Check
size_check limit = record { status = 413; refuses = λ minor target fields. is_too_long limit fields }

-- the checks of a head that the grammar has, in their order, given the largest content that is taken
abbrev pub head_checks : ℕ → List Check
head_checks limit =
    target_check ∷ host_check ∷ framing_check ∷ coding_check ∷ length_check ∷ size_check limit ∷ []

-- the status of the first check that refuses the head
abbrev pub refusal_step : Bool → ℕ → Option ℕ → Option ℕ
refusal_step true status rest = Some status
refusal_step false status rest = rest

abbrev pub first_refusal : List Check → ℕ → List ℕ → List Field → Option ℕ
first_refusal [] minor target fields = None
first_refusal (check ∷ checks) minor target fields =
    refusal_step (check.refuses minor target fields) check.status (first_refusal checks minor target fields)

abbrev pub refusal_of : ℕ → ℕ → List ℕ → List Field → Option ℕ
refusal_of limit minor target fields = first_refusal (head_checks limit) minor target fields
