use Rattle.std.proofs.Common.{rules, ◌≡◌, sym, ap, ◌∙◌, Some, length, arith}
use Rattle.conf_tree.specs.Paths.{child}
use Rattle.conf_tree.specs.View.{data_of}
use Rattle.conf_tree.proofs.Views.{data_of-List, data_of-Object}
use Rattle.conf_tree.proofs.Children.{child_item, child_no_item}
use Rattle.conf_tree.proofs.lookup.child.Goals as goal

pub returns-in-Some : goal.returns-in-Some
returns-in-Some c =
    let k = c.args.key.now in
    let items = c.in-List.items in
    let seen = ap data_of c.in-List.is ∙ data_of-List items in
    let count : c.len.result ≡ length items.items = search rules in
    let found = c.in-Some.ensures in
    ap (λ t. Some (data_of t)) c.index.ensures
    ∙ sym (ap (child k) seen ∙ child_item k items.items c.in-Some.index c.index.result.now found.0 (omega arith))

pub returns-in-None : goal.returns-in-None
returns-in-None c =
    let k = c.args.key.now in
    let items = c.in-List.items in
    let seen = ap data_of c.in-List.is ∙ data_of-List items in
    let count : c.len.result ≡ length items.items = search rules in
    sym (ap (child k) seen ∙ child_no_item k items.items (λ i e. omega (arith, c.in-None.ensures i e)))

pub returns-in-Object : goal.returns-in-Object
returns-in-Object c =
    let seen = ap data_of c.in-Object.is ∙ data_of-Object c.in-Object.map in
    c.get.ensures.value ∙ sym (ap (child c.args.key.now) seen)
