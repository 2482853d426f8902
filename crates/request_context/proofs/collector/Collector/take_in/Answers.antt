use Rattle.std.specs.Arc.{arc_value}
use Rattle.request_context.proofs.Accepted.{awaited_parcels, awaited_within, awaited_last}
use Rattle.request_context.proofs.collector.Collector.take_in.Goals as goal

pub take_next-requires : goal.take_next-requires
take_next-requires g c =
    let found = arc_value c.args.found in
    record {
      parcels = awaited_parcels g.H.Handlers.reply_of c.args.self.now found found.stream c.args.part c.args.last c.args.pieces.now.parcels c.requires c.in-None.ensures;
      within = awaited_within g.H.Handlers.reply_of c.args.self.now found found.stream c.args.part c.args.last c.args.pieces.now.parcels c.requires c.in-None.ensures;
      last = awaited_last g.H.Handlers.reply_of c.args.self.now found found.stream c.args.part c.args.last c.args.pieces.now.parcels c.requires c.in-None.ensures;
    }
