use Rattle.http_front.proofs.ChunkLineLemmas.{size_whole, size_part, size_open, size_never}
use Rattle.http_front.proofs.chunk.chunk_size.Goals as goal

pub returns-then-len-line : goal.returns-then-len-line
returns-then-len-line c =
    let of = rw c.in-Ok-Complete.field-0-is at c.in-Ok-Complete.ensures.complete in
    size_whole c.args.line.now c.in-Ok-Complete.len c.in-Ok-Complete.size of.0 of.1 c.if-len-line.true

pub returns-else-len-line : goal.returns-else-len-line
returns-else-len-line c =
    let of = rw c.in-Ok-Complete.field-0-is at c.in-Ok-Complete.ensures.complete in
    size_part c.args.line.now c.in-Ok-Complete.len c.in-Ok-Complete.size of.0 of.1 c.if-len-line.false

pub returns-in-Ok-Partial : goal.returns-in-Ok-Partial
returns-in-Ok-Partial c = size_open c.args.line.now (rw c.in-Ok-Partial.field-0-is at c.in-Ok-Partial.ensures.partial)

pub returns-in-Err : goal.returns-in-Err
returns-in-Err c = size_never c.args.line.now c.in-Err.ensures.invalid
