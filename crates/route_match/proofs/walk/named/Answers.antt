use Rattle.std.proofs.Common.{◌++◌, ◌∙◌, List, ℕ, ap, ap₂, append-nil}
use Rattle.conf_validate.specs.Configuration.{listener_index}
use Rattle.route_match.proofs.ChainedLemmas.{gives}
use Rattle.route_match.proofs.walk.named.Goals as goal

pub returns : goal.returns
returns c =
    let it = c.of.result in
    let bytes = ap₂ (λ (xs ys : List ℕ). xs ++ ys) c.of.ensures.first c.of.ensures.second ∙ append-nil c.args.name.now in
    c.listener.ensures (it.first.now ++ it.second.now) (gives it) ∙ ap (λ (name : List ℕ). listener_index name c.args.conf.now.listeners) bytes
