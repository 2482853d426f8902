use Rattle.std.proofs.Common.{sym, arith, length-take-le}
use Rattle.std.proofs.lemmas.List.{take_all}
use Rattle.http_front.proofs.slices.first_bytes.Goals as goal

pub slice_bounds-result-end : goal.slice_bounds-result-end
slice_bounds-result-end c = sym (length-take-le c.args.most c.args.bytes.now (omega arith))

pub returns-then-bytes-most : goal.returns-then-bytes-most
returns-then-bytes-most c = sym (take_all c.args.most c.args.bytes.now c.if-bytes-most.true)
