use Rattle.std.proofs.Common.{◌≡◌, ◌+◌, ◌++◌, length}
use Rattle.plain_fabric.specs.Contents.{HoldNothingBeside, held_from}
use Rattle.plain_fabric.proofs.contents.lay.Given as goal

abbrev pub invariant-loop-index : goal.invariant-loop-index
invariant-loop-index g l = record {
  laid : held_from l.chunks.items l.first l.index ++ l.pieces.parcels ≡ l.fn.pieces.parcels;
  count : l.index + length l.pieces.parcels ≡ length l.fn.pieces.parcels;
  beside : HoldNothingBeside l.chunks.items l.first l.index;
  long : length l.chunks.items ≡ length l.fn.chunks.items;
}
