-- A collector of the parts of one reply: what it has, and what it answers to a part.
use Rattle.std.specs.Prelude.{◌≡◌, ◌≢◌, ◌↔◌, ℕ, ◌+◌, ◌*◌, ◌<◌, ◌≤◌, Bool, false, true, IsTrue, List, [], ◌∷◌, take, flat_map, Option, Some, None}
use Rattle.std.specs.Arc.{arc_value}
use Rattle.unit_types.specs.declared.message.Reply.{Reply}
use Rattle.unit_types.specs.declared.message.Request.{Request}
use Rattle.request_context.specs.declared.accepting.Part.{Part}
use Rattle.request_context.specs.declared.accepting.Part.TheVariants.{More, Whole, Stranger}
use Rattle.request_context.specs.declared.accepting.Stray.{Stray}
use Rattle.request_context.specs.declared.accepting.Stray.TheVariants.{Stream, Part as Number, Request as Carried}
use Rattle.request_context.specs.declared.asked.Asked.{Asked}
use Rattle.request_context.specs.declared.piece.Parcel.{Parcel}
use Rattle.request_context.specs.declared.piece.Parcel.TheVariants.{Ask, Answer}
use Rattle.request_context.specs.Cutting.{Collected, record_to, part_count}
use Rattle.request_context.specs.Parcels.{answers_of}
use Rattle.request_context.specs.Parts.{part_size}

-- what a parcel says was asked
abbrev pub carried_by : {H : Type 0} → Parcel H → Option Asked
carried_by (Ask bytes) = None
carried_by (Answer piece) = Some piece.asked

-- what the first parcel says
abbrev pub carried : {H : Type 0} → List (Parcel H) → Option Asked
carried [] = None
carried (first ∷ parcels) = carried_by first

-- the bytes of texts, joined
abbrev pub all_bytes : List (List ℕ) → List ℕ
all_bytes texts = flat_map (λ (text : List ℕ). text) texts

-- what is given is all parcels of the part with this number of the reply to `asked`, which was posted under this stream, and the mark is that of the final part
pub record IsPart {H : Type 0} (reply_of : List ℕ → Request → Reply) (asked : Asked) (posted number : ℕ) (mark : Bool) (given : List (Parcel H)) : Type 0 where
  pub stream : asked.stream ≡ posted
  pub within : number < part_count reply_of asked
  pub last : IsTrue mark ↔ (number + 1 ≡ part_count reply_of asked)
  pub parcels : given ≡ answers_of reply_of asked number

-- the part that a collector waits for: the next one of the reply to what it keeps
abbrev pub IsAwaited : Collected → Asked → ℕ → Type 0
IsAwaited old found part = (found ≡ old.asked) × (part ≡ old.next)

-- in what a part differs from that: stream, number or request, in this order
abbrev pub StraysBy : Collected → Asked → ℕ → Stray → Type 0
StraysBy old found part (Stream kept stream) = (found.stream ≢ old.asked.stream) × (kept ≡ old.asked.stream) × (stream ≡ found.stream)
StraysBy old found part (Number kept number) = (found.stream ≡ old.asked.stream) × (part ≢ old.next) × (kept ≡ old.next) × (number ≡ part)
StraysBy old found part (Carried kept other) = (found.stream ≡ old.asked.stream) × (part ≡ old.next) × (found ≢ old.asked) × (kept ≡ old.asked.stream) × (arc_value other ≡ found)

-- one part more
abbrev pub with_next : Collected → Collected
with_next old = record { asked = old.asked; next = old.next + 1 }

-- when each answer comes, and what the collector has then
abbrev pub Accepts : (List ℕ → Request → Reply) → Collected → Collected → Asked → ℕ → Bool → Part → Type 0
Accepts reply_of old new found part last More = IsAwaited old found part × (last ≡ false) × (new ≡ with_next old)
Accepts reply_of old new found part last (Whole reply) = IsAwaited old found part × (last ≡ true) × (reply ≡ reply_of old.asked.name old.asked.request) × (new ≡ with_next old)
Accepts reply_of old new found part last (Stranger stray) = StraysBy old found part stray × (new ≡ old)

-- where the part is the awaited one, and where it isn't
abbrev pub IsStray : Collected → Asked → ℕ → Option Stray → Type 0
IsStray old found part None = IsAwaited old found part
IsStray old found part (Some stray) = StraysBy old found part stray

-- what a collector has kept of the parts: while some are still to come, the front of the record that the earlier ones make
pub record IsFront (reply_of : List ℕ → Request → Reply) (asked : Asked) (next : ℕ) (kept : List (List ℕ)) : Type 0 where
  pub within : next ≤ part_count reply_of asked
  pub front : next < part_count reply_of asked → all_bytes kept ≡ take (part_size * next) (record_to reply_of asked)
