use Rattle.std.proofs.Common.{◌≡◌, ℕ, ◌≤◌, ◌+◌, map}
use Rattle.std.specs.List.{range_with_len}
use Rattle.request_context.specs.declared.piece.Parcel.TheVariants.{Ask}
use Rattle.request_context.specs.Parts.{piece_size, stretch_of}
use Rattle.request_context.proofs.asking.ask_pieces.Given as goal

abbrev pub invariant-loop-index : goal.invariant-loop-index
invariant-loop-index g l = record {
  parcels : l.pieces.parcels ≡ map (λ (i : ℕ). Ask (stretch_of piece_size l.bytes i)) (range_with_len 0 l.index);
  spare : l.count ≤ l.index + l.pieces.spare;
}
