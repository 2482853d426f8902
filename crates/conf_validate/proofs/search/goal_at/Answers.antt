use Rattle.std.proofs.Common.{rules, ◌≡◌, ◌∙◌, Some, None, sym, ap}
use Rattle.std.proofs.lemmas.Fn.{always_returns_same}
use Rattle.std.specs.Result.{result_ok}
use Rattle.conf_validate.specs.declared.conf.Destination.{Destination}
use Rattle.conf_validate.proofs.SearchLemmas.{goal_found, goal_nowhere}
use Rattle.unit_types.proofs.NameLemmas.{compared, searched}
use Rattle.unit_types.specs.Names.{index_of_name}
use Rattle.conf_validate.proofs.search.goal_at.Goals as goal

pub returns-in-Ok : goal.returns-in-Ok
returns-in-Ok g c bytes yields =
    let ds = c.args.destinations.now in
    let facts = c.binary_search_by.ensures in
    let position = facts.position (λ (d : Destination). compared d.name bytes) (always_returns_same _ _ _ (λ a r f called. (called.met.1 bytes yields, search rules))) in
    let found : index_of_name (λ (d : Destination). d.name) bytes ds ≡ Some c.in-Ok.index = searched (λ (d : Destination). d.name) bytes ds c.binary_search_by.result c.requires.ascends facts.bound position ∙ ap result_ok c.in-Ok.is in
    sym (goal_found bytes ds c.in-Ok.index c.index-destinations-index.result c.in-Ok.ensures.bound found)

pub returns-in-Err : goal.returns-in-Err
returns-in-Err g c bytes yields =
    let ds = c.args.destinations.now in
    let facts = c.binary_search_by.ensures in
    let position = facts.position (λ (d : Destination). compared d.name bytes) (always_returns_same _ _ _ (λ a r f called. (called.met.1 bytes yields, search rules))) in
    let found : index_of_name (λ (d : Destination). d.name) bytes ds ≡ None = searched (λ (d : Destination). d.name) bytes ds c.binary_search_by.result c.requires.ascends facts.bound position ∙ ap result_ok c.in-Err.is in
    sym (goal_nowhere bytes ds found)
