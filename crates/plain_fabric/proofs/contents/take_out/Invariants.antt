use Rattle.std.proofs.Common.{◌≡◌, ◌≤◌, ◌+◌}
use Rattle.plain_fabric.specs.Contents.{held_from}
use Rattle.plain_fabric.proofs.Laying.{AreOut}
use Rattle.plain_fabric.proofs.contents.take_out.Given as goal

abbrev pub invariant-loop-index : goal.invariant-loop-index
invariant-loop-index g l = record {
  taken : l.pieces.parcels ≡ held_from l.fn.chunks.items l.first l.index;
  out : AreOut l.fn.chunks.items l.chunks.items (l.first + l.index) (l.first + l.count);
  spare : l.count ≤ l.index + l.pieces.spare;
}
