-- What the handlers of the measurements reply: `hello` greets, and each other name gives the content of the request back,
-- at most 10,000,000 bytes of it.
use Rattle.std.proofs.Common.{ℕ, ◌≤◌, lit≤, lit<, refl, List, [], ◌∷◌, ◌++◌, Bool, true, false, length, take, codes, bytes_eq, if◌then◌else◌, arith}
use Rattle.std.specs.List.Sorted.{IsStrictlySortedBy}
use Rattle.std.proofs.lemmas.List.{length-take}
use Rattle.std.proofs.lemmas.List.Sums.{AllPass-from_list_all}
use Rattle.std.proofs.lemmas.List.Elements.{All-cons, All-nil}
use Rattle.unit_types.specs.Handlers.{IsNameList, IsReply, IsWritable}
use Rattle.unit_types.specs.Limits.{IsShortName}
use Rattle.unit_types.specs.Record.{number, length_prefixed, field_bytes, field_list_bytes, reply_record}
use Rattle.unit_types.specs.Token.{is_tchar, IsToken, is_value_byte, IsFieldValue}
use Rattle.unit_types.specs.declared.message.Reply.{Reply}
use Rattle.unit_types.specs.declared.message.Request.{Request}

-- a content of plain text
abbrev pub text_reply : List ℕ → Reply
text_reply body = record {
  status = 200;
  fields = record { name = codes "Content-Type"; value = codes "text/plain" } ∷ [];
  body = body;
}

-- what `hello` says
abbrev pub greeting : List ℕ
greeting = codes "Hello, world!" ++ 10 ∷ []

-- the reply by the name
abbrev pub measured_reply : List ℕ → Request → Reply
measured_reply name request =
    text_reply (if bytes_eq name (codes "hello") then greeting else take 10000000 request.body)

token : IsToken (codes "Content-Type")
unfolding is_tchar
token = (lit< tt, AllPass-from_list_all is_tchar (codes "Content-Type") refl)

plain : IsFieldValue (codes "text/plain")
plain = AllPass-from_list_all is_value_byte (codes "text/plain") refl

-- a reply with that content, where it is no longer than the longest
text_fits : (body : List ℕ) → length body ≤ 10000000 → IsReply (text_reply body)
unfolding reply_record field_list_bytes field_bytes length_prefixed number
text_fits body short = record {
  final_status = (lit≤ tt, lit≤ tt);
  writable = All-cons IsWritable (record { name = codes "Content-Type"; value = codes "text/plain" }) [] (token, plain) (All-nil IsWritable);
  short = omega (arith, short);
}

-- each reply can be written
pub replies_fit : (name : List ℕ) (request : Request) → IsReply (measured_reply name request)
replies_fit name request = by_name (bytes_eq name (codes "hello"))
  where
    by_name : (hello : Bool) → IsReply (text_reply (if hello then greeting else take 10000000 request.body))
    by_name true = text_fits greeting (lit≤ tt)
    by_name false = text_fits (take 10000000 request.body) (omega (arith, length-take 10000000 request.body))

-- no name is listed
pub no_names_fit : IsNameList []
unfolding IsStrictlySortedBy
no_names_fit = record { ascending = tt; short = All-nil IsShortName }
