use Rattle.std.proofs.Common.{◌∙◌, ◌++◌, [], ◌∷◌, ℕ, List, ap, map, refl, sym, subst, arith, append_assoc, append-nil}
use Rattle.conf_validate.specs.Current.{numbered}
use Rattle.conn_machine.specs.Asks.{asks_of}
use Rattle.plain_fabric.specs.Plains.{PlainValue}
use Rattle.unit_top.specs.Connections.{IsServing, Serves, connection_at}
use Rattle.unit_top.specs.Posting.{Asked, Asking, HasPosted, Post}
use Rattle.unit_top.proofs.PostingLemmas.{none_posted, posted_on}
use Rattle.unit_top.proofs.connection.connection_output.Goals as goal

pub loop-out-init : goal.loop-out-init
loop-out-init g c =
    let reply_of = g.H.Handlers.reply_of in
    let at = connection_at reply_of c.args.arrived.listener c.args.arrived.port in
    record {
      done = [];
      left = asks_of at (numbered c.args.conf.now).1 c.args.arrived.bytes;
      all = refl;
      posted = none_posted reply_of c.args.output c.args.plain.now c.requires.whole c.requires.kept;
      serving = subst (λ (out : List ℕ). IsServing reply_of at (numbered c.args.conf.now) c.args.arrived.bytes out (asks_of at (numbered c.args.conf.now).1 c.args.arrived.bytes) c.in_ok-machine.machine)
          (sym (c.of-out.ensures ∙ c.new.ensures.items)) c.in_ok-machine.ensures.serving;
      after = c.in_ok-machine.ensures.after;
      few = omega (arith, c.in_ok-machine.ensures.left);
    }

pub serve_next-requires-clause-shown : goal.serve_next-requires-clause-shown
serve_next-requires-clause-shown g c =
    (connection_at g.H.Handlers.reply_of c.args.arrived.listener c.args.arrived.port, c.loop-out.invariant.serving.account, c.loop-out.invariant.serving.shows)

pub serve_next-requires-clause-whole : goal.serve_next-requires-clause-whole
serve_next-requires-clause-whole g c = c.loop-out.invariant.posted.whole

pub serve_next-requires-clause-early : goal.serve_next-requires-clause-early
serve_next-requires-clause-early g c = omega (arith, c.loop-out.invariant.few, c.requires.early)

pub loop-out-preserved : goal.loop-out-preserved
loop-out-preserved g c =
    let reply_of = g.H.Handlers.reply_of in
    let inv = c.loop-out.invariant in
    let at = connection_at reply_of c.args.arrived.listener c.args.arrived.port in
    let step = subst (Serves reply_of at (numbered c.args.conf.now) c.args.arrived.bytes c.serve_next.new.out inv.left c.loop-out.machine c.serve_next.new.machine c.loop-out.plain c.serve_next.new.plain) c.if-branch.true
    (c.in_ok-serve_next.ensures.serves at c.args.arrived.bytes inv.left inv.serving) in
    let kept = c.keep_steps.ensures reply_of (Asked step.asked ∷ []) c.loop-out.plain step.posted in
    record {
      done = inv.done ++ Asked step.asked ∷ [];
      left = step.more;
      all = inv.all ∙ ap (λ (asks : List Asking). inv.done ++ map Asked asks) step.first ∙ sym (append_assoc inv.done (Asked step.asked ∷ []) (map Asked step.more));
      posted = posted_on reply_of c.args.output inv.done (Asked step.asked ∷ []) c.args.plain.now c.loop-out.plain c.keep_steps.new.plain inv.posted kept;
      serving = step.serving;
      after = c.in_ok-serve_next.ensures.after;
      few = omega (arith, step.fewer, kept.behind.drawn, inv.few);
    }

pub loop-out-smaller : goal.loop-out-smaller
loop-out-smaller g c =
    let inv = c.loop-out.invariant in
    let at = connection_at g.H.Handlers.reply_of c.args.arrived.listener c.args.arrived.port in
    let step = subst (Serves g.H.Handlers.reply_of at (numbered c.args.conf.now) c.args.arrived.bytes c.serve_next.new.out inv.left c.loop-out.machine c.serve_next.new.machine c.loop-out.plain c.serve_next.new.plain) c.if-branch.true
    (c.in_ok-serve_next.ensures.serves at c.args.arrived.bytes inv.left inv.serving) in
    step.fewer

pub returns-clause-out : goal.returns-clause-out
returns-clause-out g c =
    let inv = c.loop-out.invariant in
    let at = connection_at g.H.Handlers.reply_of c.args.arrived.listener c.args.arrived.port in
    (subst (Serves g.H.Handlers.reply_of at (numbered c.args.conf.now) c.args.arrived.bytes c.serve_next.new.out inv.left c.loop-out.machine c.serve_next.new.machine c.loop-out.plain c.serve_next.new.plain) c.if-branch.false
    (c.in_ok-serve_next.ensures.serves at c.args.arrived.bytes inv.left inv.serving)).0

pub returns-clause-posted : goal.returns-clause-posted
returns-clause-posted g c =
    let reply_of = g.H.Handlers.reply_of in
    let inv = c.loop-out.invariant in
    let at = connection_at reply_of c.args.arrived.listener c.args.arrived.port in
    let over = subst (Serves reply_of at (numbered c.args.conf.now) c.args.arrived.bytes c.serve_next.new.out inv.left c.loop-out.machine c.serve_next.new.machine c.loop-out.plain c.serve_next.new.plain) c.if-branch.false
    (c.in_ok-serve_next.ensures.serves at c.args.arrived.bytes inv.left inv.serving) in
    let all = inv.all ∙ ap (λ (asks : List Asking). inv.done ++ map Asked asks) over.1 ∙ append-nil inv.done in
    subst (HasPosted c.args.output reply_of (map Asked (asks_of at (numbered c.args.conf.now).1 c.args.arrived.bytes)) c.args.plain.now) (sym over.2)
    (subst (λ (posts : List Post). HasPosted c.args.output reply_of posts c.args.plain.now c.loop-out.plain) (sym all) inv.posted)

pub returns-clause-few : goal.returns-clause-few
returns-clause-few g c =
    let inv = c.loop-out.invariant in
    let at = connection_at g.H.Handlers.reply_of c.args.arrived.listener c.args.arrived.port in
    let over = subst (Serves g.H.Handlers.reply_of at (numbered c.args.conf.now) c.args.arrived.bytes c.serve_next.new.out inv.left c.loop-out.machine c.serve_next.new.machine c.loop-out.plain c.serve_next.new.plain) c.if-branch.false
    (c.in_ok-serve_next.ensures.serves at c.args.arrived.bytes inv.left inv.serving) in
    omega (arith, ap (λ (p : PlainValue). p.drawn) over.2, inv.few)
