-- The laws of the program's handlers.
use Rattle.std.proofs.Common.{ℕ, ◌≤◌, ◌≡◌, lit≤, lit<, refl, List, [], ◌∷◌, ◌++◌, Bool, true, false, nat_le, if◌then◌else◌, bytes_eq, codes, decimal, length, arith, length-append}
use Rattle.std.specs.List.Sorted.{IsStrictlySortedBy}
use Rattle.std.proofs.lemmas.Bool.{leb-true}
use Rattle.std.proofs.lemmas.Fmt.{length-decimal-le}
use Rattle.std.proofs.lemmas.List.Sums.{AllPass-from_list_all}
use Rattle.std.proofs.lemmas.List.Elements.{All-cons, All-nil}
use Rattle.unit_types.specs.Record.{number, length_prefixed, field_bytes, field_list_bytes, reply_record}
use Rattle.unit_types.specs.Token.{is_tchar, IsToken, is_value_byte, IsFieldValue}
use Rattle.unit_types.specs.Handlers.{IsNameList, IsReply, IsWritable}
use Rattle.unit_types.specs.Limits.{IsShortName, record_limit}
use Rattle.unit_types.specs.declared.message.Reply.{Reply}
use Rattle.unit_types.specs.declared.message.Request.{Request}
use Rattle.unit_program.specs.Replies.{names_known, content_reply, hello_reply, too_long_reply, where_recorded, count_reply, echo_reply, unknown_reply, program_reply}

pub names_fit : IsNameList names_known
unfolding IsStrictlySortedBy
names_fit = record {
  ascending = ((refl, (refl, tt)), ((refl, tt), (tt, tt)));
  short = All-cons IsShortName (codes "count") (codes "echo" ∷ codes "hello" ∷ []) (lit≤ tt)
      (All-cons IsShortName (codes "echo") (codes "hello" ∷ []) (lit≤ tt)
      (All-cons IsShortName (codes "hello") [] (lit≤ tt) (All-nil IsShortName)));
}

token : IsToken (codes "Content-Type")
unfolding is_tchar
token = (lit< tt, AllPass-from_list_all is_tchar (codes "Content-Type") refl)

plain : IsFieldValue (codes "text/plain")
plain = AllPass-from_list_all is_value_byte (codes "text/plain") refl

stream : IsFieldValue (codes "application/octet-stream")
stream = AllPass-from_list_all is_value_byte (codes "application/octet-stream") refl

-- the greeting has a record
hello_fits : IsReply hello_reply
unfolding reply_record field_list_bytes field_bytes length_prefixed number
hello_fits = record {
  final_status = (lit≤ tt, lit≤ tt);
  writable = All-cons IsWritable (record { name = codes "Content-Type"; value = codes "text/plain" }) [] (token, plain) (All-nil IsWritable);
  short = lit≤ tt;
}

-- a reply without fields and content
bare_fits : (status : ℕ) → 200 ≤ status → status ≤ 599 → IsReply (record { status = status; fields = []; body = [] })
unfolding reply_record field_list_bytes field_bytes length_prefixed number
bare_fits status low high = record {
  final_status = (low, high);
  writable = All-nil IsWritable;
  short = lit≤ tt;
}

-- a content of that type, where its reply has a record
recorded_fits : (type body : List ℕ) → IsFieldValue type → IsReply (where_recorded (content_reply type body))
recorded_fits type body value = by_test (nat_le (length (reply_record (content_reply type body))) record_limit) refl
  where
    by_test : (t : Bool) → nat_le (length (reply_record (content_reply type body))) record_limit ≡ t → IsReply (if t then content_reply type body else too_long_reply)
    by_test true is = record {
      final_status = (lit≤ tt, lit≤ tt);
      writable = All-cons IsWritable (record { name = codes "Content-Type"; value = type }) [] (token, value) (All-nil IsWritable);
      short = leb-true (length (reply_record (content_reply type body))) record_limit is;
    }
    by_test false is = bare_fits 413 (lit≤ tt) (lit≤ tt)

pub replies_fit : (name : List ℕ) (request : Request) → IsReply (program_reply name request)
replies_fit name request = by_name (bytes_eq name (codes "count")) (bytes_eq name (codes "echo")) (bytes_eq name (codes "hello"))
  where
    by_name : (count echo hello : Bool)
        → IsReply (if count then where_recorded (count_reply request.body) else if echo then where_recorded (echo_reply request.body) else if hello then hello_reply else unknown_reply)
    by_name true echo hello = recorded_fits (codes "text/plain") (decimal (length request.body) ++ 10 ∷ []) plain
    by_name false true hello = recorded_fits (codes "application/octet-stream") request.body stream
    by_name false false true = hello_fits
    by_name false false false = bare_fits 404 (lit≤ tt) (lit≤ tt)
