use Rattle.std.proofs.Common.{◌<◌, ◌-◌, ◌^◌, arith}
use Rattle.pattern_addr.proofs.Blocks.{shifted, block_below}
use Rattle.pattern_addr.proofs.grammar.block_of.Goals as goal

pub overflow_cast-result-2 : goal.overflow_cast-result-2
overflow_cast-result-2 c =
    let below : c.args.address < 2 ^ 32 = omega arith in
    rw (c.from.ensures, c.from-2.ensures, shifted (32 - c.args.length) (omega arith)) (record { fits = block_below c.args.address c.args.length below c.requires })
