use Rattle.std.proofs.Common.{arith}
use Rattle.chunk_map.proofs.BitLists.{longer}
use Rattle.chunk_map.proofs.run_bits.run_starts.Goals as goal

pub loop-length-preserved : goal.loop-length-preserved
loop-length-preserved c =
    let now = c.loop-length.invariant in
    let by = c.min-by.ensures in (
      omega (arith, now.0),
      omega (arith, by, c.loop-length-test.true),
      λ place. longer c.args.words.now c.loop-length.starts c.both-starts.result c.loop-length.length c.min-by.result place (omega (arith, by)) now.0 now.2 (c.both-starts.ensures place),
    )
