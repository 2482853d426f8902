-- Which replies of the handlers have a record.
use Rattle.std.proofs.Common.{ℕ, ◌≤◌, ◌<◌, ◌≡◌, ◌+◌, ◌-◌, ◌^◌, List, [], ◌∷◌, ◌++◌, codes, decimal, length, lit<, arith, refl, length-append}
use Rattle.std.proofs.lemmas.Bool.{le-leb, lt-leb}
use Rattle.std.proofs.lemmas.Fmt.{length-decimal-le}
use Rattle.unit_types.specs.Limits.{record_limit}
use Rattle.unit_types.specs.Record.{number, length_prefixed, field_bytes, field_list_bytes, reply_record}
use Rattle.unit_program.specs.Replies.{count_reply, echo_reply, too_long_reply, where_recorded}

count_size : (body : List ℕ) → length (reply_record (count_reply body)) ≡ 41 + length (decimal (length body))
unfolding reply_record field_list_bytes field_bytes length_prefixed number
count_size body = omega (arith, length-append (decimal (length body)) (10 ∷ []))

echo_size : (body : List ℕ) → length (reply_record (echo_reply body)) ≡ 54 + length body
unfolding reply_record field_list_bytes field_bytes length_prefixed number
echo_size body = omega arith

-- a content in memory has a length of at most 20 digits
pub count_recorded : (body : List ℕ) → length body < 2 ^ 64 → where_recorded (count_reply body) ≡ count_reply body
count_recorded body small =
    let few = length-decimal-le 20 (length body) (lit< tt) (omega (arith, small)) small in
    rw (le-leb (length (reply_record (count_reply body))) record_limit (omega (arith, few, count_size body))) refl

pub echo_recorded : (body : List ℕ) → length body ≤ record_limit - 54 → where_recorded (echo_reply body) ≡ echo_reply body
echo_recorded body low =
    rw (le-leb (length (reply_record (echo_reply body))) record_limit (omega (arith, low, echo_size body))) refl

pub echo_refused : (body : List ℕ) → record_limit - 54 < length body → where_recorded (echo_reply body) ≡ too_long_reply
echo_refused body high =
    rw (lt-leb (length (reply_record (echo_reply body))) record_limit (omega (arith, high, echo_size body))) refl
