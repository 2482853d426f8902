-- The contents of chunks: pieces of a request record, or of one part of a reply record.
use Rattle.std.specs.Prelude.{◌≡◌, ◌↔◌, ℕ, ◌+◌, ◌-◌, ◌^◌, ◌<◌, ◌≤◌, Bool, IsTrue, List, [], length, map, flat_map, Option, Some, None}
use Rattle.std.specs.List.{range_with_len}
use Rattle.unit_types.specs.declared.message.Reply.{Reply}
use Rattle.unit_types.specs.declared.message.Request.{Request}
use Rattle.request_context.specs.declared.asked.Asked.{Asked}
use Rattle.request_context.specs.declared.piece.Parcel.{Parcel}
use Rattle.request_context.specs.declared.piece.Parcel.TheVariants.{Ask, Answer}
use Rattle.request_context.specs.Cutting.{PieceValue, PartsValue, part_count, part_to, piece_to}
use Rattle.request_context.specs.Parts.{piece_size, pieces_of, stretch_count}

module _ {H : Type 0} where
  -- the bytes of a parcel
  abbrev pub bytes_in : Parcel H → List ℕ
  bytes_in (Ask bytes) = bytes
  bytes_in (Answer piece) = piece.bytes

  -- the bytes of parcels, joined
  abbrev pub joined : List (Parcel H) → List ℕ
  joined parcels = flat_map bytes_in parcels

  -- a request record, in parcels
  abbrev pub asks_of : List ℕ → List (Parcel H)
  asks_of bytes = map Ask (pieces_of bytes)

  -- one piece of a part of the reply, as a parcel
  abbrev pub answer_of : (List ℕ → Request → Reply) → Asked → ℕ → ℕ → Parcel H
  answer_of reply_of asked part index = Answer (record { asked = asked; part = part; index = index; bytes = piece_to reply_of asked part index })

  -- a part of the reply, in parcels: all of its pieces, in order
  abbrev pub answers_of : (List ℕ → Request → Reply) → Asked → ℕ → List (Parcel H)
  answers_of reply_of asked part = map (answer_of reply_of asked part) (range_with_len 0 (stretch_count piece_size (part_to reply_of asked part)))

-- what contracts see of a list of parcels: the parcels, and how many more fit in without memory
pub record PiecesValue (H : Type 0) : Type 0 where
  pub parcels : List (Parcel H)
  pub spare : ℕ

module _ {H : Type 0} where
  -- all parcels are gone, and each left its room
  abbrev pub IsEmptied : PiecesValue H → PiecesValue H → Type 0
  IsEmptied old new = new ≡ record { parcels = []; spare = old.spare + length old.parcels }

  -- what `next` gives: the number of the next part, whether it is the last one, and its parcels; nothing exactly behind the last
  abbrev pub NextIs : (List ℕ → Request → Reply) → PartsValue → PartsValue → Option (ℕ × Bool × PiecesValue H) → Type 0
  NextIs reply_of old new None = (part_count reply_of old.asked ≤ old.next) × (new ≡ old)
  NextIs reply_of old new (Some given) =
      (old.next < part_count reply_of old.asked)
      × (given.0 ≡ old.next)
      × (IsTrue given.1 ↔ (old.next + 1 ≡ part_count reply_of old.asked))
      × (given.2.parcels ≡ answers_of reply_of old.asked old.next)
      × (new ≡ record { asked = old.asked; next = old.next + 1 })

-- the parts that are left to give: the next one and all behind it
pub record AreLeft {H : Type 0} (reply_of : List ℕ → Request → Reply) (asked : Asked) (next : ℕ) (rest : List (PiecesValue H)) : Type 0 where
  pub parcels : map (λ (p : PiecesValue H). p.parcels) rest ≡ map (answers_of {H = H} reply_of asked) (range_with_len next (part_count reply_of asked - next))
  pub within : next ≤ part_count reply_of asked
  pub few : part_count reply_of asked < 2 ^ 32
