use Rattle.std.proofs.Common.{◌≡◌, ◌∙◌}
use Rattle.std.proofs.lemmas.Result.{IfOk-weaker}
use Rattle.std.specs.Arc.{arc_value}
use Rattle.request_context.specs.declared.accepting.Part.{Part}
use Rattle.request_context.specs.declared.asked.Asked.{Asked}
use Rattle.request_context.specs.Collecting.{IsPart, Accepts}
use Rattle.request_context.proofs.Accepted.{of_each, part_says, same_part}
use Rattle.request_context.proofs.Readers.{some_is}
use Rattle.request_context.proofs.collector.Collector.accept.Goals as goal

pub take_in-requires : goal.take_in-requires
take_in-requires g c =
    let reply_of = g.H.Handlers.reply_of in
    let asked = c.requires.0 in
    let parcels = c.args.pieces.now.parcels in
    let cloned : arc_value c.in_ok-found-in-Some.found ≡ arc_value c.in-Some.found.now = c.in_ok-found-in-Some.ensures in
    let same : arc_value c.in-Some.found.now ≡ asked = some_is _ _ (c.in-Some.ensures ∙ part_says reply_of asked c.args.stream c.args.part c.args.last parcels c.requires.1) in
    same_part reply_of asked (arc_value c.in_ok-found-in-Some.found) c.args.stream c.args.part c.args.last parcels c.requires.1 (cloned ∙ same)

pub unreachable-requires : goal.unreachable-requires
unreachable-requires g c =
    let none = c.in-None.ensures ∙ part_says g.H.Handlers.reply_of c.requires.0 c.args.stream c.args.part c.args.last c.args.pieces.now.parcels c.requires.1 in
    cc

pub returns-clause-answer : goal.returns-clause-answer
returns-clause-answer g c =
    let reply_of = g.H.Handlers.reply_of in
    let asked = c.requires.0 in
    let found = arc_value c.in_ok-found-in-Some.found in
    let parcels = c.args.pieces.now.parcels in
    let cloned : found ≡ arc_value c.in-Some.found.now = c.in_ok-found-in-Some.ensures in
    let same : arc_value c.in-Some.found.now ≡ asked = some_is _ _ (c.in-Some.ensures ∙ part_says reply_of asked c.args.stream c.args.part c.args.last parcels c.requires.1) in
    let old = c.args.self.now in
    let new = c.take_in.new.self in
    IfOk-weaker c.take_in.result (λ (x : Part). Accepts reply_of old new found c.args.part c.args.last x)
    (λ (x : Part). (other : Asked) → IsPart reply_of other c.args.stream c.args.part c.args.last parcels → Accepts reply_of old new other c.args.part c.args.last x)
    (λ (x : Part) (accepts : Accepts reply_of old new found c.args.part c.args.last x). of_each reply_of old new asked found c.args.stream c.args.part c.args.last parcels x c.requires.1 (cloned ∙ same) accepts)
    c.take_in.ensures.answer
