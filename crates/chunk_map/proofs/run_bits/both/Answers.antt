use Rattle.std.proofs.Common.{◌<◌, ◌∙◌, arith, slice_index, length-set}
use Rattle.std.specs.Prelude.{bit_and}
use Rattle.chunk_map.proofs.BitLists.{both_before, both_behind}
use Rattle.chunk_map.proofs.run_bits.both.Goals as goal

pub loop-number-preserved : goal.loop-number-preserved
loop-number-preserved c =
    let now = c.loop-number.invariant in
    let lt : c.loop-number.number < 10 = c.loop-number-test.true in (
      length-set c.loop-number.out c.loop-number.number (bit_and (slice_index c.loop-number.out c.loop-number.number) c.moved.result) ∙ now.0,
      both_before c.args.starts.now c.loop-number.out c.args.by c.loop-number.number c.moved.result (omega (arith, lt, now.0)) now.1 now.2 c.moved.ensures,
      both_behind c.args.starts.now c.loop-number.out c.args.by c.loop-number.number c.moved.result (omega (arith, lt, now.0)) now.1 now.2 c.moved.ensures,
    )
