-- Records and parts on their way through chunks.
use Rattle.std.proofs.Common.{◌≡◌, ◌≢◌, ℕ, zero, suc, ◌+◌, ◌-◌, ◌*◌, ◌==◌, ◌≤◌, ◌<◌, min, drop, take, Bool, true, false, List, [], ◌++◌, length, map, refl, sym, ap, ap₂, subst, ◌∙◌, arith}
use Rattle.std.specs.Prelude.{◌↔◌, IsTrue, Some}
use Rattle.std.specs.List.{range_with_len}
use Rattle.std.proofs.lemmas.Bool.{eq-eqb, ne_eqb}
use Rattle.std.proofs.lemmas.List.{append-nil, length-drop, length-map, length-take}
use Rattle.std.proofs.lemmas.List.Concat.{concat_is}
use Rattle.std.proofs.lemmas.List.Folds.{flat_map-map}
use Rattle.std.proofs.lemmas.List.FromFn.{length-map-range_with_len}
use Rattle.std.proofs.lemmas.Simd.{map-map}
use Rattle.request_context.proofs.Collected.{answers_joined}
use Rattle.request_context.proofs.Cuts.{begins_within, is_cut}
use Rattle.request_context.proofs.Lengths.{reply_length}
use Rattle.request_context.proofs.Records.{asked_read, is_apart}
use Rattle.request_context.specs.Cutting.{part_to}
use Rattle.request_context.specs.Parcels.{answer_of, answers_of, asks_of, bytes_in, joined}
use Rattle.request_context.specs.Parts.{part_size, piece_size, pieces_of, parts_of, stretch_count, stretch_of, stretches_of}
use Rattle.request_context.specs.Reading.{asked_at}
use Rattle.request_context.specs.Record.{HasRecord, IsRecordOf, request_record}
use Rattle.request_context.specs.declared.asked.Asked.{Asked}
use Rattle.request_context.specs.declared.piece.Parcel.{Parcel}
use Rattle.request_context.specs.declared.piece.Parcel.TheVariants.{Ask}
use Rattle.unit_types.specs.Handlers.{IsReply}
use Rattle.unit_types.specs.Record.{reply_record}
use Rattle.unit_types.specs.declared.message.Reply.{Reply}
use Rattle.unit_types.specs.declared.message.Request.{Request}
use Rattle.unit_model.specs.Runs.{chunks_for}
use Rattle.unit_model.specs.declared.machine.Step.{Step}
use Rattle.unit_model.specs.declared.shape.Shape.{Shape}
use Rattle.plain_fabric.proofs.Making.{goes_on, makes_none}
use Rattle.plain_fabric.specs.Laws.{AllFit, CanPass}
use Rattle.plain_fabric.specs.Plains.{sizes_of}
use Rattle.plain_fabric.specs.Schedule.{Answered, part_message, part_steps, sending, taking}
use Rattle.plain_fabric.specs.Stepping.{Goes}
use Rattle.plain_fabric.specs.declared.message.Message.{Message}

-- ---- records

-- two values with one record are one
pub same_asked : (bytes : List ℕ) (a b : Asked) → IsRecordOf bytes (Some a) → IsRecordOf bytes (Some b) → a ≡ b
same_asked bytes a b first second =
    (is_apart asked_at request_record HasRecord asked_read a b [] first.0 second.0 (append-nil (request_record a) ∙ sym first.1 ∙ second.1)).0

-- the parcels of a record, joined, are the record, and there are as many as its chunks
pub asks_joined : (H : Type 0) (bytes : List ℕ) → joined (asks_of {H = H} bytes) ≡ bytes
unfolding stretches_of
asks_joined H bytes =
    flat_map-map (bytes_in {H = H}) Ask (pieces_of bytes) ∙ sym (concat_is (pieces_of bytes)) ∙ (is_cut piece_size bytes (omega arith)).joined

pub asks_count : (H : Type 0) (bytes : List ℕ) → length (asks_of {H = H} bytes) ≡ chunks_for (length bytes)
asks_count H bytes = length-map (pieces_of bytes) Ask ∙ (is_cut piece_size bytes (omega arith)).count

-- ---- parts

pub answers_count : (H : Type 0) (reply_of : List ℕ → Request → Reply) (asked : Asked) (part : ℕ) → length (answers_of {H = H} reply_of asked part) ≡ chunks_for (length (part_to reply_of asked part))
unfolding stretch_count
answers_count H reply_of asked part = length-map-range_with_len (answer_of {H = H} reply_of asked part) 0 (stretch_count piece_size (part_to reply_of asked part))

pub answers_size : {H : Type 0} (reply_of : List ℕ → Request → Reply) (asked : Asked) (part : ℕ) (parcels : List (Parcel H)) → parcels ≡ answers_of reply_of asked part → length (joined parcels) ≡ length (part_to reply_of asked part)
answers_size {H = H} reply_of asked part parcels are = ap (λ (ps : List (Parcel H)). length (joined ps)) are ∙ ap (length {A = ℕ}) (answers_joined H reply_of asked part)

-- the sizes of the parts from one on
abbrev pub sizes_from : List ℕ → ℕ → ℕ → List ℕ
sizes_from bytes part count = map (λ (i : ℕ). length (stretch_of part_size bytes i)) (range_with_len part count)

pub sizes_are : (reply : Reply) (bytes : List ℕ) → bytes ≡ reply_record reply → sizes_of reply ≡ sizes_from bytes 0 (stretch_count part_size bytes)
unfolding stretches_of
sizes_are reply bytes is =
    map-map (λ (part : List ℕ). length part) (stretch_of part_size (reply_record reply)) (range_with_len 0 (stretch_count part_size (reply_record reply)))
    ∙ ap (λ (b : List ℕ). sizes_from b 0 (stretch_count part_size b)) (sym is)

-- ---- parts that are still to come

all_long : (bytes : List ℕ) (part count : ℕ) → length (sizes_from bytes part count) ≡ count
all_long bytes part count = length-map-range_with_len (λ (i : ℕ). length (stretch_of part_size bytes i)) part count

final_is : (last : Bool) (bytes : List ℕ) (part count : ℕ) → part < count → IsTrue last ↔ (part + 1 ≡ count) → last ≡ (length (sizes_from bytes (part + 1) (count - (part + 1))) == 0)
final_is true bytes part count within final =
    let end : part + 1 ≡ count = final.0 refl in
    sym (eq-eqb (length (sizes_from bytes (part + 1) (count - (part + 1)))) 0 (omega (arith, all_long bytes (part + 1) (count - (part + 1)), end)))
final_is false bytes part count within final =
    let more : part + 1 ≢ count = λ end. absurd (cc (final.1 end)) in
    sym (ne_eqb (length (sizes_from bytes (part + 1) (count - (part + 1)))) 0 (omega (arith, all_long bytes (part + 1) (count - (part + 1)), more, within)))

module _ (shape : Shape) (drawn : ℕ) (bytes : List ℕ) where
  abbrev pub steps_from : ℕ → ℕ → List Step
  steps_from sent part = part_steps shape drawn sent part (sizes_from bytes part (stretch_count part_size bytes - part))

  -- once the steps of the parts from this one on are made, those of all parts are
  abbrev pub Awaits : List ℕ → List Step → ℕ → List ℕ → List Step → ℕ → ℕ → Type 0
  Awaits first_words first_trace first_sent words trace sent part =
      (w : List ℕ) (t : List Step) → Goes shape words w trace t (steps_from sent part) → Goes shape first_words w first_trace t (steps_from first_sent 0)

  one_part : (sent part size : ℕ) (last : Bool) → part < stretch_count part_size bytes → IsTrue last ↔ (part + 1 ≡ stretch_count part_size bytes) → size ≡ length (stretch_of part_size bytes part)
      → (sending shape (part_message drawn sent part last size) ++ taking shape (part_message drawn sent part last size)) ++ steps_from (sent + 1) (part + 1) ≡ steps_from sent part
  one_part sent part size last within final is =
      let count : ℕ = stretch_count part_size bytes in
      let rest : List ℕ = sizes_from bytes (part + 1) (count - (part + 1)) in
      let left : suc (count - (part + 1)) ≡ count - part = omega (arith, within) in
      ap₂ (λ (l : Bool) (s : ℕ). (sending shape (part_message drawn sent part l s) ++ taking shape (part_message drawn sent part l s)) ++ part_steps shape drawn (sent + 1) (part + 1) rest) (final_is last bytes part count within final) is
      ∙ ap (λ (k : ℕ). part_steps shape drawn sent part (sizes_from bytes part k)) left

  pub awaits_more : (first_words : List ℕ) (first_trace : List Step) (first_sent : ℕ) (words now : List ℕ) (trace longer : List Step) (sent part size : ℕ) (last : Bool) → Awaits first_words first_trace first_sent words trace sent part
      → part < stretch_count part_size bytes → IsTrue last ↔ (part + 1 ≡ stretch_count part_size bytes) → size ≡ length (stretch_of part_size bytes part)
      → Goes shape words now trace longer (sending shape (part_message drawn sent part last size) ++ taking shape (part_message drawn sent part last size))
      → Awaits first_words first_trace first_sent now longer (sent + 1) (part + 1)
  awaits_more first_words first_trace first_sent words now trace longer sent part size last awaits within final is goes w t rest =
      let m : Message = part_message drawn sent part last size in
      awaits w t (subst (Goes shape words w trace t) (one_part sent part size last within final is) (goes_on shape words now w trace longer t (sending shape m ++ taking shape m) (steps_from (sent + 1) (part + 1)) goes rest))

  -- behind the last one
  pub awaits_none : (first_words : List ℕ) (first_trace : List Step) (first_sent : ℕ) (words : List ℕ) (trace : List Step) (sent part : ℕ) → Awaits first_words first_trace first_sent words trace sent part
      → part ≡ stretch_count part_size bytes → Goes shape first_words words first_trace trace (steps_from first_sent 0)
  awaits_none first_words first_trace first_sent words trace sent part awaits end =
      let none : 0 ≡ stretch_count part_size bytes - part = omega (arith, end) in
      awaits words trace (subst (λ (k : ℕ). Goes shape words words trace trace (part_steps shape drawn sent part (sizes_from bytes part k))) none (record { made = makes_none shape words; listed = sym (append-nil trace) }))

  pub all_steps : (reply : Reply) (sent : ℕ) → bytes ≡ reply_record reply → steps_from sent 0 ≡ part_steps shape drawn sent 0 (sizes_of reply)
  all_steps reply sent is =
      let whole : stretch_count part_size bytes - 0 ≡ stretch_count part_size bytes = omega arith in
      ap (λ (k : ℕ). part_steps shape drawn sent 0 (sizes_from bytes 0 k)) whole ∙ ap (part_steps shape drawn sent 0) (sym (sizes_are reply bytes is))

-- ---- what a reply's parts keep to

some_record : (reply : Reply) → 0 < length (reply_record reply)
some_record reply = omega (arith, reply_length reply)

pub some_part : (reply : Reply) → 0 < stretch_count part_size (reply_record reply)
unfolding stretch_count
some_part reply = omega (arith, some_record reply)

short_of : (size : ℕ) (bytes : List ℕ) (part : ℕ) → length (stretch_of size bytes part) ≤ size
unfolding stretch_of
short_of size bytes part = least size (length (drop (size * part) bytes)) (length (take size (drop (size * part) bytes))) (length-take size (drop (size * part) bytes))
  where
    least : (a b n : ℕ) → n ≡ min a b → n ≤ a
    least a b n is = omega (arith, is)

pub part_short : (bytes : List ℕ) (part : ℕ) → length (stretch_of part_size bytes part) ≤ part_size
part_short bytes part = short_of part_size bytes part

pub few_parts : (reply : Reply) → IsReply reply → stretch_count part_size (reply_record reply) ≤ 4096
unfolding stretch_count
few_parts reply is = omega (arith, is.short)

pub parts_count : (reply : Reply) → length (sizes_of reply) ≡ stretch_count part_size (reply_record reply)
unfolding stretch_count
parts_count reply = length-map (parts_of (reply_record reply)) (λ (part : List ℕ). length part) ∙ (is_cut part_size (reply_record reply) (omega arith)).count

stretch_some : (size : ℕ) (bytes : List ℕ) (number : ℕ) → 0 < size → number < stretch_count size bytes → 1 ≤ length (stretch_of size bytes number)
unfolding stretch_of
stretch_some size bytes number some lt =
    least size (length bytes) (size * number) (length (drop (size * number) bytes)) (length (take size (drop (size * number) bytes))) (length-take size (drop (size * number) bytes)) (length-drop (size * number) bytes) (begins_within size bytes number some lt) some
  where
    least : (a len from b n : ℕ) → n ≡ min a b → b ≡ len - from → from < len → 0 < a → 1 ≤ n
    least a len from b n is left inside some = omega (arith, is, left, inside, some)

fit_from : (bytes : List ℕ) (count part : ℕ) → part + count ≤ stretch_count part_size bytes → AllFit (sizes_from bytes part count)
fit_from bytes zero part within = tt
fit_from bytes (suc count) part within =
    ((stretch_some part_size bytes part (omega arith) (omega (arith, within)), low (length (stretch_of part_size bytes part)) (part_short bytes part)), fit_from bytes count (part + 1) (omega (arith, within)))
  where
    low : (n : ℕ) → n ≤ part_size → n ≤ 10485760
    low n short = omega (arith, short)

-- a request with a reply of handlers can pass
pub can_pass : (size : ℕ) (reply : Reply) → IsReply reply → 1 ≤ size → size ≤ 10485760 → CanPass (Answered size (sizes_of reply))
can_pass size reply is some short =
    let count : ℕ = stretch_count part_size (reply_record reply) in
    let long : length (sizes_of reply) ≡ count = parts_count reply in (
      (some, omega (arith, short)),
      subst AllFit (sym (sizes_are reply (reply_record reply) refl)) (fit_from (reply_record reply) count 0 (omega arith)),
      (λ none. absurd (omega (arith, ap (length {A = ℕ}) none, long, some_part reply))),
      omega (arith, long, few_parts reply is),
    )

-- ---- where the parts end

pub more_within : (last : Bool) (part count : ℕ) → part < count → IsTrue last ↔ (part + 1 ≡ count) → last ≡ false → part + 1 < count
more_within last part count within final more =
    let other : part + 1 ≢ count = λ end. absurd (cc (more, final.1 end)) in
    omega (arith, within, other)

pub all_sent : (reply : Reply) (part sent first : ℕ) → sent ≡ first + part → part + 1 ≡ stretch_count part_size (reply_record reply) → sent + 1 ≡ first + length (sizes_of reply)
all_sent reply part sent first is end = omega (arith, is, end, parts_count reply)
