use Rattle.std.proofs.Common.{◌∙◌, sym}
use Rattle.conf_validate.proofs.EntryLemmas.{place_here, place_later}
use Rattle.conf_validate.proofs.entries.member_place.Goals as goal

pub returns-then-eq : goal.returns-then-eq
returns-then-eq c =
    sym (c.loop-known.invariant ∙ place_here c.args.name.now c.entries-known-items.result.now c.loop-known.known-index _ c.loop-known-test.true (sym c.eq.ensures ∙ c.if-eq.true))

pub loop-known-preserved : goal.loop-known-preserved
loop-known-preserved c =
    c.loop-known.invariant ∙ place_later c.args.name.now c.entries-known-items.result.now c.loop-known.known-index _ c.loop-known-test.true (sym c.eq.ensures ∙ c.if-eq.false)
