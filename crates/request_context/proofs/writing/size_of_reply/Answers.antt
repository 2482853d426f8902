use Rattle.std.proofs.Common.{ap, arith, length}
use Rattle.request_context.specs.Record.{field_list_size}
use Rattle.request_context.proofs.Lengths.{reply_length}
use Rattle.request_context.proofs.writing.size_of_reply.Goals as goal

pub returns : goal.returns
returns c = omega (arith, reply_length c.args.reply.now, ap field_list_size c.as_slice.ensures, ap length c.as_slice-2.ensures)
