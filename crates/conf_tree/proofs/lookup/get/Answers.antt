use Rattle.std.proofs.Common.{rules, ◌≡◌, ◌∙◌, ap, sym, Some, option_and_then, drop, ◌∷◌, arith, ◌+◌}
use Rattle.std.proofs.lemmas.List.{drop_more}
use Rattle.conf_tree.specs.Paths.{child, get}
use Rattle.conf_tree.specs.View.{data_of}
use Rattle.conf_tree.proofs.Documents.{child_document}
use Rattle.conf_tree.proofs.lookup.get.Goals as goal

pub loop-key-preserved : goal.loop-key-preserved
loop-key-preserved c =
    let l = c.loop-key in
    let keys = c.as_slice-key-items.result.now in
    let k = c.key-item.result in
    let here : child k (data_of l.here.now) ≡ Some (data_of c.in-Some.next.now) = search rules in
    let more : drop l.key-index keys ≡ k ∷ drop (l.key-index + 1) keys = drop_more keys l.key-index k (omega arith) ∙ ap (λ y. y ∷ drop (l.key-index + 1) keys) (sym c.key-item.is) in
    record {
      document = child_document k (data_of l.here.now) (data_of c.in-Some.next.now) l.invariant.document here;
      found = sym (ap (λ ks. get ks (data_of l.here.now)) more ∙ ap (option_and_then (get (drop (l.key-index + 1) keys))) here) ∙ l.invariant.found;
    }
