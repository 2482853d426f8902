use Rattle.std.proofs.Common.{rules, sym, subst, map, List}
use Rattle.std.proofs.lemmas.Fn.{always_returns_same}
use Rattle.std.specs.Cmp.Lexicographic.{slice_cmp}
use Rattle.std.specs.Ordering.{nat_cmp}
use Rattle.conf_tree.specs.Document.{AreMembers}
use Rattle.conf_tree.specs.Places.{IsPlaceOf}
use Rattle.conf_tree.specs.View.{members_of, named}
use Rattle.conf_tree.specs.declared.tree.Member.{Member}
use Rattle.conf_tree.proofs.Search.{place_from}
use Rattle.conf_tree.proofs.tree.TreeMap.find.Goals as goal

pub returns : goal.returns
returns c =
    let k = c.args.key.now in
    let r = c.binary_search_by.result in
    let same = c.deref.ensures.value in
    let position = c.binary_search_by.ensures.position (λ (m : Member). slice_cmp nat_cmp m.key k) (always_returns_same _ _ _ (λ a r g h. (search rules, search rules))) in
    subst (λ (ms : List Member). IsPlaceOf k (map named ms) r) same
    (place_from k c.deref.result.now r (subst (λ (ms : List Member). AreMembers (members_of (map named ms))) (sym same) c.requires) c.binary_search_by.ensures.bound position)
