use Rattle.std.proofs.Common.{refl, ap}
use Rattle.std.proofs.lemmas.Result.{on_ok_weaker}
use Rattle.unit_model.specs.declared.shape.Shape.{Shape}
use Rattle.plain_fabric.specs.Schedule.{sending, taking}
use Rattle.plain_fabric.proofs.Making.{goes_both}
use Rattle.plain_fabric.proofs.carrying.pass.Goals as goal

pub returns-clause-goes : goal.returns-clause-goes
returns-clause-goes g c =
    let shape = c.args.store.now.layout.shape in
    let m = c.args.message.now in
    on_ok_weaker c.take.result
    (λ goes. goes_both shape c.send.new.self.layout.shape c.args.store.now.words.items c.send.new.self.words.items c.take.new.self.words.items c.args.store.now.trace.items c.send.new.self.trace.items c.take.new.self.trace.items
    (sending shape m) (taking c.send.new.self.layout.shape m) (sending shape m) (taking shape m) c.send.ensures.shape c.in_ok-send.ensures.goes goes refl (ap (λ (s : Shape). taking s m) c.send.ensures.shape))
    c.take.ensures.goes
