use Rattle.std.proofs.Common.{◌++◌}
use Rattle.unit_io.specs.Told.{Adds}
use Rattle.unit_io.proofs.ToldLemmas.{adds_both, adds_front_behind, adds_front_first, on_ok}
use Rattle.unit_io.proofs.output.write_both.Goals as goal

pub returns-in-Ok-clause-all : goal.returns-in-Ok-clause-all
returns-in-Ok-clause-all g c =
    let before = g.K.Sink.written c.args.out.now in
    let middle = g.K.Sink.written c.write_all.new.out in
    let after = g.K.Sink.written c.write_all-in-Ok.new.out in
    on_ok {P = Adds middle after c.args.second.now} {Q = Adds before after (c.args.first.now ++ c.args.second.now)} c.write_all-in-Ok.result
    (adds_both before middle after c.args.first.now c.args.second.now c.in-Ok.ensures.all) c.write_all-in-Ok.ensures.all

pub returns-in-Ok-clause-front : goal.returns-in-Ok-clause-front
returns-in-Ok-clause-front g c =
    adds_front_behind (g.K.Sink.written c.args.out.now) (g.K.Sink.written c.write_all.new.out) (g.K.Sink.written c.write_all-in-Ok.new.out) c.args.first.now c.args.second.now c.in-Ok.ensures.all c.write_all-in-Ok.ensures.front

pub returns-in-Err-clause-front : goal.returns-in-Err-clause-front
returns-in-Err-clause-front g c =
    adds_front_first (g.K.Sink.written c.args.out.now) (g.K.Sink.written c.write_all.new.out) c.args.first.now c.args.second.now c.in-Err.ensures.front
