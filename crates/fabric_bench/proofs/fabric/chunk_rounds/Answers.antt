use Rattle.std.proofs.Common.{◌≡◌, ◌∙◌, refl}
use Rattle.fabric_rule.specs.declared.event.Segments.TheVariants.{Out}
use Rattle.fabric_rule.proofs.TurnsTold.{only_works, works_on, works_take}
use Rattle.fabric_bench.proofs.fabric.chunk_rounds.Goals as goal

pub loop-round-init : goal.loop-round-init
loop-round-init c = record { own = c.requires.own; works = (refl, refl) }

pub claim-requires-clause-may : goal.claim-requires-clause-may
claim-requires-clause-may c = works_take c.args.table.now.table.shared.key Out c.args.seat.now.seat.me.0 c.loop-round.seat.seat.me.0 c.loop-round.invariant.works c.requires.may

pub release-requires-clause-within : goal.release-requires-clause-within
release-requires-clause-within c = c.in-Run.ensures.told.within

pub release-requires-clause-empty : goal.release-requires-clause-empty
release-requires-clause-empty c = c.in-Run.ensures.told.slots.1

pub loop-round-preserved : goal.loop-round-preserved
loop-round-preserved c =
    let old = c.loop-round.seat.seat.me.0 in
    let claimed = c.claim.new.seat.seat.me.0 in
    let released = c.release.new.seat.seat.me.0 in
    record {
      own = c.release.ensures.own ∙ c.claim.ensures.own ∙ c.loop-round.invariant.own;
      works = works_on c.args.seat.now.seat.me.0 old released c.loop-round.invariant.works (works_on old claimed released (only_works old claimed c.in-Run.ensures.told.view) (only_works claimed released c.release.ensures.view));
    }
