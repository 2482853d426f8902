use Rattle.std.specs.Prelude.{Some, None}
use Rattle.carried_slots.proofs.Lookups.{some_content}
use Rattle.segment_table.proofs.Filling.{swapped_other}
use Rattle.segment_table.proofs.table.SlotTable.take_out.Goals as goal

pub swap-old-requires-clause-held : goal.swap-old-requires-clause-held
swap-old-requires-clause-held g c = some_content c.args.seat.now.seat.me.1 c.args.chunk (Some c.requires.full.0) c.requires.full.1

pub returns-clause-others : goal.returns-clause-others
returns-clause-others g c k ne = swapped_other c.args.chunk None c.args.seat.now.seat.me.1 c.swap-old.new.seat.seat.me.1 c.swap-old.ensures.slots k ne
