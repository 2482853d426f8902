-- What the handlers of the tests reply: the content of the request, at most 10,000,000 bytes of it.
use Rattle.std.proofs.Common.{ℕ, ◌≤◌, lit≤, lit<, refl, List, [], ◌∷◌, length, take, codes, arith}
use Rattle.std.specs.List.Sorted.{IsStrictlySortedBy}
use Rattle.std.proofs.lemmas.List.{length-take}
use Rattle.std.proofs.lemmas.List.Sums.{AllPass-from_list_all}
use Rattle.std.proofs.lemmas.List.Elements.{All-cons, All-nil}
use Rattle.unit_types.specs.Handlers.{IsNameList, IsReply, IsWritable}
use Rattle.unit_types.specs.Limits.{IsShortName}
use Rattle.unit_types.specs.Record.{number, length_prefixed, field_bytes, field_list_bytes, reply_record}
use Rattle.unit_types.specs.Token.{is_tchar, IsToken, is_value_byte, IsFieldValue}
use Rattle.unit_types.specs.declared.field.Field.{Field}
use Rattle.unit_types.specs.declared.message.Reply.{Reply}
use Rattle.unit_types.specs.declared.message.Request.{Request}

abbrev pub echo_fields : List Field
echo_fields = record { name = codes "Content-Type"; value = codes "application/octet-stream" } ∷ []

abbrev pub echo_reply : List ℕ → Request → Reply
echo_reply name request = record {
  status = 200;
  fields = echo_fields;
  body = take 10000000 request.body;
}

token : IsToken (codes "Content-Type")
unfolding is_tchar
token = (lit< tt, AllPass-from_list_all is_tchar (codes "Content-Type") refl)

stream : IsFieldValue (codes "application/octet-stream")
stream = AllPass-from_list_all is_value_byte (codes "application/octet-stream") refl

pub echo_fits : (name : List ℕ) (request : Request) → IsReply (echo_reply name request)
unfolding reply_record field_list_bytes field_bytes length_prefixed number
echo_fits name request = record {
  final_status = (lit≤ tt, lit≤ tt);
  writable = All-cons IsWritable (record { name = codes "Content-Type"; value = codes "application/octet-stream" }) [] (token, stream) (All-nil IsWritable);
  short = omega (arith, length-take 10000000 request.body);
}

pub no_names_fit : IsNameList []
unfolding IsStrictlySortedBy
no_names_fit = record { ascending = tt; short = All-nil IsShortName }
