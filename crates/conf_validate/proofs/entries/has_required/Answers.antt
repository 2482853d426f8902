use Rattle.std.proofs.Common.{◌∙◌, true, false, sym}
use Rattle.conf_tree.specs.View.{map_data}
use Rattle.conf_validate.proofs.EntryLemmas.{first_met}
use Rattle.conf_validate.proofs.entries.has_required.Goals as goal

pub returns-then-not-is_met : goal.returns-then-not-is_met
returns-then-not-is_met c =
    sym (c.loop-entry.invariant ∙ first_met c.entries-entry-items.result.now c.loop-entry.entry-index _ (map_data c.args.map.now) false c.loop-entry-test.true (sym c.is_met.ensures ∙ c.if-not-is_met.true))

pub loop-entry-preserved : goal.loop-entry-preserved
loop-entry-preserved c =
    c.loop-entry.invariant ∙ first_met c.entries-entry-items.result.now c.loop-entry.entry-index _ (map_data c.args.map.now) true c.loop-entry-test.true (sym c.is_met.ensures ∙ c.if-not-is_met.false)
