use Rattle.std.proofs.Common.{◌∙◌, inl, refl}
use Rattle.conf_validate.specs.Current.{numbered}
use Rattle.conn_machine.proofs.BackLemmas.{grows_both, grows_same, reached_begin, reached_end, reached_on, reached_over}
use Rattle.conn_machine.proofs.GrowsLemmas.{after_either, after_self, either_on}
use Rattle.conn_machine.proofs.machine.Machine.settle.Goals as goal

pub loop-alloc-init : goal.loop-alloc-init
loop-alloc-init g c = record {
  reached = λ connection a is. reached_begin g.H.Handlers.reply_of connection (numbered c.args.current.now) a c.args.self.now c.is_bounded.ensures.most is;
  after = c.requires;
  met = inl refl;
  grows = grows_same c.args.self.now;
}

pub loop-alloc-preserved : goal.loop-alloc-preserved
loop-alloc-preserved g c =
    let current = numbered c.args.current.now in
    let old = c.loop-alloc.self in
    let new = c.settle_one.new.self in
    record {
      reached = λ connection a is.
          let at = c.loop-alloc.invariant.reached connection a is in
          reached_on g.H.Handlers.reply_of connection current a old new at c.in_ok-goes.goes c.if-not-goes.false
          (c.is_bounded-in-loop-alloc.ensures.one (c.may_settle.ensures.going c.loop-alloc-test.true))
          c.in_ok-goes.ensures.left (c.in_ok-goes.ensures.ok connection at.account at.stands);
      after = after_either old.met new.met current current c.settle_one.ensures.met c.loop-alloc.invariant.after (after_self current);
      met = either_on c.args.self.now.met old.met new.met current c.loop-alloc.invariant.met c.settle_one.ensures.met;
      grows = grows_both c.args.self.now old new c.loop-alloc.invariant.grows c.settle_one.ensures.grows;
    }

pub returns-then-not-goes-clause-ok : goal.returns-then-not-goes-clause-ok
returns-then-not-goes-clause-ok g c connection a is =
    let current = numbered c.args.current.now in
    let at = c.loop-alloc.invariant.reached connection a is in
    reached_end g.H.Handlers.reply_of connection current a c.loop-alloc.self c.settle_one.new.self at c.in_ok-goes.goes c.if-not-goes.true
    (c.is_bounded-in-loop-alloc.ensures.one (c.may_settle.ensures.going c.loop-alloc-test.true))
    (c.in_ok-goes.ensures.ok connection at.account at.stands)

pub returns-clause-ok : goal.returns-clause-ok
returns-clause-ok g c connection a is =
    reached_over g.H.Handlers.reply_of connection (numbered c.args.current.now) a c.loop-alloc.self (c.loop-alloc.invariant.reached connection a is)
    c.is_bounded-2.ensures.one (c.may_settle.ensures.over c.loop-alloc-test.false)

pub returns-in_err-goes-clause-after : goal.returns-in_err-goes-clause-after
returns-in_err-goes-clause-after g c next before now =
    let first = c.args.self.now.met in
    let old = c.loop-alloc.self.met in
    let new = c.settle_one.new.self.met in
    let current = numbered c.args.current.now in
    after_either first new current next (either_on first old new current c.loop-alloc.invariant.met c.settle_one.ensures.met) before now

pub returns-in_err-goes-clause-ended : goal.returns-in_err-goes-clause-ended
returns-in_err-goes-clause-ended g c = c.settle_one.ensures.grows.ended ∙ c.loop-alloc.invariant.grows.ended

pub returns-in_err-goes-clause-given_up : goal.returns-in_err-goes-clause-given_up
returns-in_err-goes-clause-given_up g c = c.settle_one.ensures.grows.given_up ∙ c.loop-alloc.invariant.grows.given_up

pub returns-in_err-goes-clause-grows : goal.returns-in_err-goes-clause-grows
returns-in_err-goes-clause-grows g c =
    grows_both c.args.self.now c.loop-alloc.self c.settle_one.new.self c.loop-alloc.invariant.grows c.settle_one.ensures.grows

pub returns-then-not-goes-clause-after : goal.returns-then-not-goes-clause-after
returns-then-not-goes-clause-after g c next before now =
    let first = c.args.self.now.met in
    let old = c.loop-alloc.self.met in
    let new = c.settle_one.new.self.met in
    let current = numbered c.args.current.now in
    after_either first new current next (either_on first old new current c.loop-alloc.invariant.met c.settle_one.ensures.met) before now

pub returns-then-not-goes-clause-ended : goal.returns-then-not-goes-clause-ended
returns-then-not-goes-clause-ended g c = c.settle_one.ensures.grows.ended ∙ c.loop-alloc.invariant.grows.ended

pub returns-then-not-goes-clause-given_up : goal.returns-then-not-goes-clause-given_up
returns-then-not-goes-clause-given_up g c = c.settle_one.ensures.grows.given_up ∙ c.loop-alloc.invariant.grows.given_up

pub returns-then-not-goes-clause-grows : goal.returns-then-not-goes-clause-grows
returns-then-not-goes-clause-grows g c =
    grows_both c.args.self.now c.loop-alloc.self c.settle_one.new.self c.loop-alloc.invariant.grows c.settle_one.ensures.grows

pub returns-clause-after : goal.returns-clause-after
returns-clause-after g c next before now =
    after_either c.args.self.now.met c.loop-alloc.self.met (numbered c.args.current.now) next c.loop-alloc.invariant.met before now

pub returns-clause-ended : goal.returns-clause-ended
returns-clause-ended g c = c.loop-alloc.invariant.grows.ended

pub returns-clause-given_up : goal.returns-clause-given_up
returns-clause-given_up g c = c.loop-alloc.invariant.grows.given_up

pub settle_one-requires-clause-going : goal.settle_one-requires-clause-going
settle_one-requires-clause-going g c = c.may_settle.ensures.going c.loop-alloc-test.true

pub settle_one-requires-clause-none : goal.settle_one-requires-clause-none
settle_one-requires-clause-none g c = c.may_settle.ensures.none c.loop-alloc-test.true

pub loop-alloc-smaller : goal.loop-alloc-smaller
loop-alloc-smaller g c = c.in_ok-goes.ensures.left c.if-not-goes.false
