-- A request or a reply whose record is short has a record: each length and the number of fields are below 2 ^ 32.
use Rattle.std.proofs.Common.{◌≡◌, ℕ, ◌+◌, ◌^◌, ◌<◌, ◌≤◌, List, [], ◌∷◌, length, arith}
use Rattle.std.specs.Prelude.{sum_by}
use Rattle.std.specs.List.{All}
use Rattle.std.proofs.lemmas.List.Elements.{All-nil, All-cons}
use Rattle.std.proofs.lemmas.List.Sums.{sum_by-cons}
use Rattle.unit_types.specs.Limits.{record_limit}
use Rattle.unit_types.specs.Record.{reply_record}
use Rattle.unit_types.specs.declared.field.Field.{Field}
use Rattle.unit_types.specs.declared.message.Reply.{Reply}
use Rattle.request_context.specs.Parts.{part_size, piece_size, stretch_count}
use Rattle.request_context.specs.Record.{IsShortField, AreShortFields, field_size, field_list_size, IsRecordable, IsRecordableReply, request_record_size, reply_record_size}
use Rattle.request_context.specs.declared.asked.Asked.{Asked}
use Rattle.request_context.proofs.Lengths.{reply_length}

each_short : (fields : List Field) → sum_by field_size fields < 2 ^ 32 → All IsShortField fields
each_short [] lt = All-nil IsShortField
each_short (field ∷ fields) lt =
    let sum : sum_by field_size (field ∷ fields) ≡ field_size field + sum_by field_size fields = sum_by-cons field_size field fields in
    All-cons IsShortField field fields (record { name = omega (arith, sum, lt); value = omega (arith, sum, lt) }) (each_short fields (omega (arith, sum, lt)))

few_fields : (fields : List Field) → length fields ≤ sum_by field_size fields
few_fields [] = omega arith
few_fields (field ∷ fields) = omega (arith, sum_by-cons field_size field fields, few_fields fields)

short_fields : (fields : List Field) → field_list_size fields < 2 ^ 32 → AreShortFields fields
short_fields fields lt = record { count = omega (arith, lt, few_fields fields); each = each_short fields (omega (arith, lt)) }

pub is_recordable_request : (asked : Asked) → asked.request.minor ≤ 1 → request_record_size asked ≤ record_limit → IsRecordable asked
is_recordable_request asked minor le = record {
  minor = minor;
  name = omega (arith, le);
  method = omega (arith, le);
  target = omega (arith, le);
  path = omega (arith, le);
  query = omega (arith, le);
  host = omega (arith, le);
  fields = short_fields asked.request.fields (omega (arith, le));
  body = omega (arith, le);
}

pub is_recordable : (reply : Reply) → length (reply_record reply) ≤ record_limit → IsRecordableReply reply
is_recordable reply le =
    let size : length (reply_record reply) ≡ reply_record_size reply = reply_length reply in
    record {
      fields = short_fields reply.fields (omega (arith, size, le));
      body = omega (arith, size, le);
    }

-- it has few parts, and a part few pieces
pub few_parts : (bytes : List ℕ) → length bytes ≤ record_limit → stretch_count part_size bytes < 2 ^ 32
unfolding stretch_count
few_parts bytes le = omega (arith, le)

pub next_fits : (bytes : List ℕ) (next : ℕ) → length bytes ≤ record_limit → next < stretch_count part_size bytes → next + 1 < 2 ^ 32
next_fits bytes next le lt = let few : stretch_count part_size bytes < 2 ^ 32 = few_parts bytes le in omega (arith, few, lt)

pub few_pieces : (bytes : List ℕ) → length bytes ≤ part_size → stretch_count piece_size bytes < 2 ^ 32
unfolding stretch_count
few_pieces bytes le = omega (arith, le)
