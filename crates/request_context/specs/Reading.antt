-- Reading the parts of a record from left to right: a value and the bytes behind it, where there is one.
use Rattle.std.specs.Prelude.{◌≡◌, ℕ, zero, suc, List, [], ◌∷◌, length, take, drop, Option, Some, None, Result, Ok, Err, nat_lt, if◌then◌else◌}
use Rattle.std.specs.Int.{Width, w8, w16, w32, w64, byte_len, from_be_bytes}
use Rattle.unit_types.specs.declared.field.Field.{Field}
use Rattle.unit_types.specs.declared.message.Addr.{Addr}
use Rattle.unit_types.specs.declared.message.Reply.{Reply}
use Rattle.unit_types.specs.declared.message.Request.{Request}
use Rattle.request_context.specs.declared.asked.Asked.{Asked}
use Rattle.request_context.specs.declared.reading.Head.{Head}
use Rattle.request_context.specs.declared.reading.ReadError.{ReadError}
use Rattle.request_context.specs.declared.reading.ReadError.TheVariants.{Memory, NoRecord}

infixl 10 ◌>>=◌
abbrev pub ◌>>=◌ : {A B : Type 0} → Option A → (A → Option B) → Option B
(Some x) >>= f = f x
None >>= f = None

-- what a function returned is what reading gives, unless memory ran out
abbrev pub Fails : {Y : Type 0} → ReadError → Option Y → Type 0
Fails Memory read = Unit {0}
Fails NoRecord read = read ≡ None

abbrev pub Gives : {X Y : Type 0} → (X → Y) → Result X ReadError → Option Y → Type 0
Gives view (Ok x) read = read ≡ Some (view x)
Gives view (Err e) read = Fails e read

unfoldable pub number_at : Width → List ℕ → Option (ℕ × List ℕ)
number_at w bytes = if nat_lt (length bytes) (byte_len w) then None else Some (from_be_bytes w (take (byte_len w) bytes), drop (byte_len w) bytes)

unfoldable pub text_at : List ℕ → Option (List ℕ × List ℕ)
text_at bytes = do
  n ← number_at w32 bytes
  if nat_lt (length n.1) n.0 then None else Some (take n.0 n.1, drop n.0 n.1)

-- a byte that is 0 or 1
unfoldable pub minor_at : List ℕ → Option (ℕ × List ℕ)
minor_at bytes = do
  n ← number_at w8 bytes
  if nat_lt 1 n.0 then None else Some n

-- one value after another
abbrev pub both : {X Y : Type 0} → (List ℕ → Option (X × List ℕ)) → (List ℕ → Option (Y × List ℕ)) → List ℕ → Option ((X × Y) × List ℕ)
both first second bytes = do
  x ← first bytes
  y ← second x.1
  Some ((x.0, y.0), y.1)

-- what is made of a value
abbrev pub made : {X Y : Type 0} → (X → Y) → (List ℕ → Option (X × List ℕ)) → List ℕ → Option (Y × List ℕ)
made make at bytes = do
  x ← at bytes
  Some (make x.0, x.1)

abbrev pub make_addr : ℕ × ℕ → Addr
make_addr x = record { ip = x.0; port = x.1 }

unfoldable pub addr_at : List ℕ → Option (Addr × List ℕ)
addr_at bytes = made make_addr (both (number_at w32) (number_at w16)) bytes

abbrev pub make_field : List ℕ × List ℕ → Field
make_field x = record { name = x.0; value = x.1 }

unfoldable pub field_at : List ℕ → Option (Field × List ℕ)
field_at bytes = made make_field (both text_at text_at) bytes

unfoldable pub fields_at : ℕ → List ℕ → Option (List Field × List ℕ)
fields_at zero bytes = Some ([], bytes)
fields_at (suc n) bytes = do
  first ← field_at bytes
  others ← fields_at n first.1
  Some (first.0 ∷ others.0, others.1)

unfoldable pub field_list_at : List ℕ → Option (List Field × List ℕ)
field_list_at bytes = do
  n ← number_at w32 bytes
  fields_at n.0 n.1

abbrev pub make_head : ℕ × (List ℕ × (List ℕ × (List ℕ × (List ℕ × List ℕ)))) → Head
make_head x = record { minor = x.0; method = x.1.0; target = x.1.1.0; path = x.1.1.1.0; query = x.1.1.1.1.0; host = x.1.1.1.1.1 }

unfoldable pub head_at : List ℕ → Option (Head × List ℕ)
head_at bytes = made make_head (both minor_at (both text_at (both text_at (both text_at (both text_at text_at))))) bytes

abbrev pub make_request : Head → Addr → Addr → List Field → List ℕ → Request
make_request head from to fields body = record {
  method = head.method;
  target = head.target;
  path = head.path;
  query = head.query;
  host = head.host;
  minor = head.minor;
  fields = fields;
  from = from;
  to = to;
  body = body;
}

abbrev pub make_asked : ℕ × (List ℕ × (Head × (Addr × (Addr × (List Field × List ℕ))))) → Asked
make_asked x = record { stream = x.0; name = x.1.0; request = make_request x.1.1.0 x.1.1.1.0 x.1.1.1.1.0 x.1.1.1.1.1.0 x.1.1.1.1.1.1 }

unfoldable pub asked_at : List ℕ → Option (Asked × List ℕ)
asked_at bytes = made make_asked (both (number_at w64) (both text_at (both head_at (both addr_at (both addr_at (both field_list_at text_at)))))) bytes

abbrev pub make_reply : ℕ × (List Field × List ℕ) → Reply
make_reply x = record { status = x.0; fields = x.1.0; body = x.1.1 }

unfoldable pub reply_at : List ℕ → Option (Reply × List ℕ)
reply_at bytes = made make_reply (both (number_at w16) (both field_list_at text_at)) bytes
