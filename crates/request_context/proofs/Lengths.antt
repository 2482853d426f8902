-- The length of a record is the sum of its parts' lengths.
use Rattle.std.proofs.Common.{◌≡◌, ℕ, ◌+◌, List, [], ◌∷◌, ◌++◌, length, refl, ap, ◌∙◌, arith}
use Rattle.std.specs.Prelude.{sum_by}
use Rattle.std.specs.Int.{w8, w16, w32, w64}
use Rattle.std.specs.List.{flat_map}
use Rattle.std.proofs.lemmas.List.{length-append}
use Rattle.std.proofs.lemmas.List.Concat.{flat_map-cons}
use Rattle.std.proofs.lemmas.List.Sums.{sum_by-cons}
use Rattle.unit_types.specs.Record.{number, length_prefixed, field_bytes, field_list_bytes, reply_record}
use Rattle.unit_types.specs.declared.field.Field.{Field}
use Rattle.unit_types.specs.declared.message.Addr.{Addr}
use Rattle.unit_types.specs.declared.message.Reply.{Reply}
use Rattle.unit_types.specs.declared.message.Request.{Request}
use Rattle.request_context.specs.declared.asked.Asked.{Asked}
use Rattle.request_context.specs.Record.{addr_bytes, head_bytes, request_record, field_size, field_list_size, request_record_size, reply_record_size}
use Rattle.request_context.proofs.Readers.{length-number}

text_length : (text : List ℕ) → length (length_prefixed text) ≡ 4 + length text
unfolding length_prefixed
text_length text = length-append (number w32 (length text)) text ∙ ap (λ k. k + length text) (length-number w32 (length text))

addr_length : (addr : Addr) → length (addr_bytes addr) ≡ 6
unfolding addr_bytes
addr_length addr = omega (arith, length-append (number w32 addr.ip) (number w16 addr.port), length-number w32 addr.ip, length-number w16 addr.port)

field_length : (field : Field) → length (field_bytes field) ≡ field_size field
unfolding field_bytes
field_length field = omega (arith, length-append (length_prefixed field.name) (length_prefixed field.value), text_length field.name, text_length field.value)

fields_length : (fields : List Field) → length (flat_map field_bytes fields) ≡ sum_by field_size fields
fields_length [] = refl
fields_length (field ∷ fields) =
    omega (arith, ap length (flat_map-cons field_bytes field fields), length-append (field_bytes field) (flat_map field_bytes fields), field_length field, fields_length fields, sum_by-cons field_size field fields)

field_list_length : (fields : List Field) → length (field_list_bytes fields) ≡ field_list_size fields
unfolding field_list_bytes
field_list_length fields = omega (arith, length-append (number w32 (length fields)) (flat_map field_bytes fields), length-number w32 (length fields), fields_length fields)

-- two lists after one another, of which the lengths are known
then_length : (a b : List ℕ) (m n : ℕ) → length a ≡ m → length b ≡ n → length (a ++ b) ≡ m + n
then_length a b m n e f = omega (arith, length-append a b)

head_length : (request : Request) → length (head_bytes request) ≡ 1 + ((4 + length request.method) + ((4 + length request.target) + ((4 + length request.path) + ((4 + length request.query) + (4 + length request.host)))))
unfolding head_bytes
head_length request =
    then_length _ _ _ _ (length-number w8 request.minor) (then_length _ _ _ _ (text_length request.method) (then_length _ _ _ _ (text_length request.target)
    (then_length _ _ _ _ (text_length request.path) (then_length _ _ _ _ (text_length request.query) (text_length request.host)))))

pub request_length : (asked : Asked) → length (request_record asked) ≡ request_record_size asked
unfolding request_record
request_length asked =
    let request = asked.request in
    let all : length (request_record asked) ≡ 8 + ((4 + length asked.name) + ((1 + ((4 + length request.method) + ((4 + length request.target) + ((4 + length request.path) + ((4 + length request.query) + (4 + length request.host))))))
    + (6 + (6 + (field_list_size request.fields + (4 + length request.body)))))) =
    then_length _ _ _ _ (length-number w64 asked.stream) (then_length _ _ _ _ (text_length asked.name) (then_length _ _ _ _ (head_length request)
    (then_length _ _ _ _ (addr_length request.from) (then_length _ _ _ _ (addr_length request.to) (then_length _ _ _ _ (field_list_length request.fields) (text_length request.body)))))) in
    omega (arith, all)

pub reply_length : (reply : Reply) → length (reply_record reply) ≡ reply_record_size reply
unfolding reply_record
reply_length reply =
    let all : length (reply_record reply) ≡ 2 + (field_list_size reply.fields + (4 + length reply.body)) =
    then_length _ _ _ _ (length-number w16 reply.status) (then_length _ _ _ _ (field_list_length reply.fields) (text_length reply.body)) in
    omega (arith, all)
