use Rattle.std.proofs.Common.{◌≡◌, ◌≤◌, ◌+◌, ◌++◌, length}
use Rattle.std.specs.Prelude.{vec_len, vec_capacity}
use Rattle.request_context.specs.Collecting.{all_bytes}
use Rattle.request_context.specs.Parcels.{joined}
use Rattle.request_context.proofs.collector.move_bytes.Given as goal

abbrev pub invariant-loop : goal.invariant-loop
invariant-loop g l = record {
  bytes : all_bytes l.to.items ++ joined l.pieces.parcels ≡ all_bytes l.fn.to.items ++ joined l.fn.pieces.parcels;
  count : length l.pieces.parcels + l.counter ≡ length l.fn.pieces.parcels;
  spare : l.pieces.spare ≡ l.fn.pieces.spare + l.counter;
  room : vec_len l.to + length l.pieces.parcels ≤ vec_capacity l.to;
}
