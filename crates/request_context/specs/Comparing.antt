-- Comparing bytes with a value, where none is made of them: what stands behind the value that they begin with, or nothing
-- where they don't begin with it. Behind nothing stands nothing.
use Rattle.std.specs.Prelude.{◌≡◌, ◌==◌, ℕ, List, [], length, fold, Option, Some, None, if◌then◌else◌}
use Rattle.std.specs.Int.{Width, w16, w32, w64}
use Rattle.std.specs.Str.{bytes_eq}
use Rattle.unit_types.specs.declared.field.Field.{Field}
use Rattle.unit_types.specs.declared.message.Addr.{Addr}
use Rattle.unit_types.specs.declared.message.Request.{Request}
use Rattle.request_context.specs.declared.asked.Asked.{Asked}
use Rattle.request_context.specs.declared.kept.Form.{Form}
use Rattle.request_context.specs.declared.kept.Form.TheVariants.{Value, Record}
use Rattle.request_context.specs.Reading.{◌>>=◌, number_at, text_at, minor_at, asked_at, make_asked, make_head, make_addr}

-- behind a number
abbrev pub after_number : Width → ℕ → Option (List ℕ) → Option (List ℕ)
after_number w n bytes = do
  given ← bytes
  found ← number_at w given
  if found.0 == n then Some found.1 else None

-- behind a minor version
abbrev pub after_minor : ℕ → Option (List ℕ) → Option (List ℕ)
after_minor minor bytes = do
  given ← bytes
  found ← minor_at given
  if found.0 == minor then Some found.1 else None

-- behind a text with its length
abbrev pub after_text : List ℕ → Option (List ℕ) → Option (List ℕ)
after_text text bytes = do
  given ← bytes
  found ← text_at given
  if bytes_eq found.0 text then Some found.1 else None

-- behind an address
unfoldable pub after_addr : Addr → Option (List ℕ) → Option (List ℕ)
after_addr addr bytes = after_number w16 addr.port (after_number w32 addr.ip bytes)

-- behind a field
unfoldable pub after_field : Field → Option (List ℕ) → Option (List ℕ)
after_field field bytes = after_text field.value (after_text field.name bytes)

-- behind fields, one after the other
unfoldable pub after_fields : List Field → Option (List ℕ) → Option (List ℕ)
after_fields fields bytes = fold (λ (rest : Option (List ℕ)) (field : Field). after_field field rest) bytes fields

-- behind the number of fields and these
unfoldable pub after_field_list : List Field → Option (List ℕ) → Option (List ℕ)
after_field_list fields bytes = after_fields fields (after_number w32 (length fields) bytes)

-- behind the parts of a request that stand before the addresses
unfoldable pub after_head : Request → Option (List ℕ) → Option (List ℕ)
after_head request bytes =
    after_text request.host (after_text request.query (after_text request.path (after_text request.target (after_text request.method (after_minor request.minor bytes)))))

-- behind a whole record
unfoldable pub after_asked : Asked → Option (List ℕ) → Option (List ℕ)
after_asked asked bytes =
    after_text asked.request.body (after_field_list asked.request.fields (after_addr asked.request.to (after_addr asked.request.from
    (after_head asked.request (after_text asked.name (after_number w64 asked.stream bytes))))))

-- ---- what was asked, as a value or as its record

-- the address 0.0.0.0 with port 0
abbrev pub no_addr : Addr
no_addr = make_addr (0, 0)

-- what was read; an empty request, where nothing was
abbrev pub read_or_empty : Option (Asked × List ℕ) → Asked
read_or_empty (Some read) = read.0
read_or_empty None = make_asked (0, ([], (make_head (0, ([], ([], ([], ([], []))))), (no_addr, (no_addr, ([], []))))))

-- the request of which bytes are the record, where they are one
unfoldable pub asked_in : List ℕ → Asked
asked_in bytes = read_or_empty (asked_at bytes)

-- the request in either form
abbrev pub asked_of : Form → Asked
asked_of (Value asked) = asked
asked_of (Record bytes) = asked_in bytes

-- where it is a record, this is the whole of its bytes
abbrev pub IsForm : Form → Type 0
IsForm form = (bytes : List ℕ) → form ≡ Record bytes → asked_at bytes ≡ Some (asked_in bytes, [])
