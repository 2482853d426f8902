use Rattle.std.proofs.Common.{◌≡◌, ap, ◌∙◌, refl, nat_cmp}
use Rattle.std.specs.Iterator.Adapters.{copied_source}
use Rattle.std.specs.Slice.Iter.{iter_rest}
use Rattle.std.proofs.lemmas.Iterator.{YieldsList-from_slice}
use Rattle.std.proofs.lemmas.Iterator.Consumers.{YieldsList-from_first, YieldsList-from_copied}
use Rattle.std.proofs.lemmas.Iterator.Search.{cmp_from_yields_List}
use Rattle.path_normal.specs.ExpansionLeft.{expansion_left}
use Rattle.path_normal.proofs.expansion.Expansion.compare.Goals as goal

pub returns : goal.returns
returns c =
    cmp_from_yields_List (λ x y. y ≡ x) _ nat_cmp _ c.cmp.ensures.ran (YieldsList-from_first (λ b. b) expansion_left (expansion_left c.args.self) refl) (λ it e. YieldsList-from_copied (YieldsList-from_slice c.args.other.now (ap (λ k. iter_rest (copied_source k)) e ∙ ap iter_rest c.copied.ensures.source ∙ c.iter.ensures.rest))) (λ x y. refl)
