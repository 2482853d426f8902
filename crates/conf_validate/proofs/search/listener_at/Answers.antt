use Rattle.std.proofs.Common.{rules, ◌∙◌, sym}
use Rattle.std.proofs.lemmas.Fn.{always_returns_same}
use Rattle.conf_validate.specs.declared.conf.Listener.{Listener}
use Rattle.unit_types.proofs.NameLemmas.{compared, searched}
use Rattle.conf_validate.proofs.search.listener_at.Goals as goal

pub returns : goal.returns
returns g c bytes yields =
    let ls = c.args.listeners.now in
    let facts = c.binary_search_by.ensures in
    let found = facts.position (λ (l : Listener). compared l.name bytes) (always_returns_same _ _ _ (λ a r f called. (called.met.1 bytes yields, search rules))) in
    c.ok.ensures.value ∙ sym (searched (λ (l : Listener). l.name) bytes ls c.binary_search_by.result c.requires.ascends facts.bound found)
