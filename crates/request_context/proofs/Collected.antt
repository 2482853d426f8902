-- What a collector keeps of the parts of a reply, and what it makes of all of them.
use Rattle.std.proofs.Common.{◌≡◌, ℕ, ◌+◌, ◌-◌, ◌*◌, ◌/◌, ◌^◌, ◌<◌, ◌≤◌, List, [], ◌∷◌, ◌++◌, length, take, drop, map, refl, sym, ap, ap₂, ◌∙◌, arith}
use Rattle.std.specs.List.{concat, flat_map, range_with_len}
use Rattle.std.proofs.Math.Seq.{take-add}
use Rattle.std.proofs.lemmas.List.{append-nil, take_all}
use Rattle.std.proofs.lemmas.List.Concat.{concat_is}
use Rattle.std.proofs.lemmas.List.Folds.{flat_map-map}
use Rattle.unit_types.specs.Handlers.{IsReply}
use Rattle.unit_types.specs.Record.{reply_record}
use Rattle.unit_types.specs.declared.message.Reply.{Reply}
use Rattle.unit_types.specs.declared.message.Request.{Request}
use Rattle.request_context.specs.declared.asked.Asked.{Asked}
use Rattle.request_context.specs.declared.piece.Parcel.{Parcel}
use Rattle.request_context.specs.Collecting.{IsFront, all_bytes}
use Rattle.request_context.specs.Cutting.{record_to, part_count, part_to}
use Rattle.request_context.specs.Parcels.{answer_of, answers_of, bytes_in, joined}
use Rattle.request_context.specs.Parts.{part_size, piece_size, stretch_count, stretch_of, stretches_of}
use Rattle.request_context.specs.Reading.{reply_at}
use Rattle.request_context.specs.Record.{HasReplyRecord}
use Rattle.request_context.proofs.Cuts.{is_cut}
use Rattle.request_context.proofs.Fits.{is_recordable}
use Rattle.request_context.proofs.Records.{reply_read, is_apart}

some_piece : 0 < piece_size
some_piece = omega arith

-- stretches, joined, are the bytes
stretches_joined : (size : ℕ) (bytes : List ℕ) → 0 < size → flat_map (stretch_of size bytes) (range_with_len 0 (stretch_count size bytes)) ≡ bytes
unfolding stretches_of
stretches_joined size bytes some =
    sym (flat_map-map (λ (x : List ℕ). x) (stretch_of size bytes) (range_with_len 0 (stretch_count size bytes)))
    ∙ sym (concat_is (map (stretch_of size bytes) (range_with_len 0 (stretch_count size bytes))))
    ∙ (is_cut size bytes some).joined

-- a part in parcels, joined, is the part
pub answers_joined : (H : Type 0) (reply_of : List ℕ → Request → Reply) (asked : Asked) (part : ℕ) → joined (answers_of {H = H} reply_of asked part) ≡ part_to reply_of asked part
answers_joined H reply_of asked part =
    flat_map-map (bytes_in {H = H}) (answer_of {H = H} reply_of asked part) (range_with_len 0 (stretch_count piece_size (part_to reply_of asked part)))
    ∙ stretches_joined piece_size (part_to reply_of asked part) some_piece

part_more : (next : ℕ) → part_size * next + part_size ≡ part_size * (next + 1)
part_more next = omega arith

-- the front that the earlier parts make, with the next one behind it
pub front_more : {H : Type 0} (reply_of : List ℕ → Request → Reply) (asked : Asked) (next : ℕ) (kept : List ℕ) (parcels : List (Parcel H))
    → kept ≡ take (part_size * next) (record_to reply_of asked) → parcels ≡ answers_of reply_of asked next → kept ++ joined parcels ≡ take (part_size * (next + 1)) (record_to reply_of asked)
unfolding stretch_of
front_more {H = H} reply_of asked next kept parcels front are =
    ap₂ (λ (x : List ℕ) (y : List ℕ). x ++ y) front (ap (λ (ps : List (Parcel H)). joined ps) are ∙ answers_joined H reply_of asked next)
    ∙ sym (take-add (part_size * next) part_size (record_to reply_of asked))
    ∙ ap (λ (k : ℕ). take k (record_to reply_of asked)) (part_more next)

enough : (len count : ℕ) → count ≡ (len + (part_size - 1)) / part_size → len ≤ part_size * count
enough len count e = omega (arith, e)

-- with the last one it is the record
pub front_whole : (reply_of : List ℕ → Request → Reply) (asked : Asked) (next : ℕ) → next + 1 ≡ part_count reply_of asked → take (part_size * (next + 1)) (record_to reply_of asked) ≡ record_to reply_of asked
unfolding stretch_count
front_whole reply_of asked next last = take_all (part_size * (next + 1)) (record_to reply_of asked) (enough (length (record_to reply_of asked)) (next + 1) last)

status_fits : (status : ℕ) → status ≤ 599 → status < 2 ^ 16
status_fits status le = omega (arith, le)

-- a reply of handlers has a record
pub has_record : (reply : Reply) → IsReply reply → HasReplyRecord reply
has_record reply is = record { status = status_fits reply.status is.final_status.1; parts = is_recordable reply is.short }

-- and it is the only one of which the record is that
pub is_reply : (reply found : Reply) (bytes : List ℕ) → IsReply reply → bytes ≡ reply_record reply → HasReplyRecord found → bytes ≡ reply_record found → found ≡ reply
is_reply reply found bytes is whole fits read =
    (is_apart reply_at reply_record HasReplyRecord reply_read found reply [] fits (has_record reply is) (append-nil (reply_record found) ∙ sym read ∙ whole)).0

below : (n count : ℕ) → n + 1 ≡ count → n < count
below n count e = omega (arith, e)

-- what is written of the kept bytes and of the last part is the record
pub all_joined : {H : Type 0} (reply_of : List ℕ → Request → Reply) (asked : Asked) (next : ℕ) (kept texts : List (List ℕ)) (parcels : List (Parcel H)) (start middle out bytes : List ℕ)
    → IsFront reply_of asked next kept → next + 1 ≡ part_count reply_of asked → parcels ≡ answers_of reply_of asked next
    → start ≡ [] → texts ≡ kept → middle ≡ start ++ all_bytes texts → out ≡ middle ++ joined parcels → bytes ≡ out → bytes ≡ record_to reply_of asked
all_joined {H = H} reply_of asked next kept texts parcels start middle out bytes front last are none same texts_more more is_out =
    is_out ∙ more
    ∙ ap (λ (t : List ℕ). t ++ joined parcels) (texts_more ∙ ap (λ (s : List ℕ). s ++ all_bytes texts) none ∙ ap (λ (t : List (List ℕ)). all_bytes t) same)
    ∙ front_more reply_of asked next (all_bytes kept) parcels (front.front (below next (part_count reply_of asked) last)) are
    ∙ front_whole reply_of asked next last

next_within : (n count : ℕ) → n < count → n + 1 ≤ count
next_within n count lt = omega (arith, lt)

-- a part more is kept
pub kept_more : {H : Type 0} (reply_of : List ℕ → Request → Reply) (asked : Asked) (next : ℕ) (kept old new : List (List ℕ)) (parcels : List (Parcel H))
    → IsFront reply_of asked next kept → next < part_count reply_of asked → parcels ≡ answers_of reply_of asked next → old ≡ kept → all_bytes new ≡ all_bytes old ++ joined parcels
    → IsFront reply_of asked (next + 1) new
kept_more {H = H} reply_of asked next kept old new parcels front within are same more = record {
  within = next_within next (part_count reply_of asked) within;
  front = λ (lt : next + 1 < part_count reply_of asked). more ∙ front_more reply_of asked next (all_bytes old) parcels (ap (λ (t : List (List ℕ)). all_bytes t) same ∙ front.front within) are;
}
