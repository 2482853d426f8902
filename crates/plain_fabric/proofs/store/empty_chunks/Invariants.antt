use Rattle.std.proofs.Common.{◌≡◌, length}
use Rattle.plain_fabric.specs.Contents.{HoldNothing}
use Rattle.plain_fabric.proofs.store.empty_chunks.Given as goal

abbrev pub invariant-loop : goal.invariant-loop
invariant-loop g l = record {
  long : length l.chunks.items ≡ l.counter;
  empty : HoldNothing l.chunks.items;
}
