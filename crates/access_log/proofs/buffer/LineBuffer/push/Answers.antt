use Rattle.std.proofs.Common.{rules, ◌≡◌, length, arith}
use Rattle.std.proofs.lemmas.List.{length-take}
use Rattle.access_log.specs.Buffer.{written}
use Rattle.access_log.proofs.BufferLemmas.{full, pushed}
use Rattle.access_log.proofs.buffer.LineBuffer.push.Goals as goal

pub returns-then-self-lt-LINE_LIMIT : goal.returns-then-self-lt-LINE_LIMIT
returns-then-self-lt-LINE_LIMIT c =
    let buffer = c.args.self.now in
    let long : length c.args.self.now.bytes ≡ 1024 = search rules in
    pushed buffer.bytes buffer.end c.args.byte (omega arith) c.if-self-lt-LINE_LIMIT.true

pub returns-else-self-lt-LINE_LIMIT : goal.returns-else-self-lt-LINE_LIMIT
returns-else-self-lt-LINE_LIMIT c =
    let buffer = c.args.self.now in
    let long : length c.args.self.now.bytes ≡ 1024 = search rules in
    full (written buffer) _ (omega (arith, length-take buffer.end buffer.bytes, buffer.within))
