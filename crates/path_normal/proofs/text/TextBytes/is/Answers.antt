use Rattle.std.proofs.Common.{◌≡◌, ap, ◌∙◌, sym, refl, is_eq, nat_cmp}
use Rattle.std.specs.Cmp.{unsigned_ties}
use Rattle.std.specs.Cmp.Lexicographic.{slice_cmp, lists_ties}
use Rattle.std.specs.Iterator.Adapters.{copied_source}
use Rattle.std.specs.Slice.Iter.{iter_rest}
use Rattle.std.proofs.lemmas.Iterator.{YieldsList-from_slice}
use Rattle.std.proofs.lemmas.Iterator.Consumers.{YieldsList-from_first, YieldsList-from_copied}
use Rattle.std.proofs.lemmas.Iterator.Search.{cmp_from_yields_List}
use Rattle.path_normal.specs.Text.{text_left}
use Rattle.path_normal.proofs.text.TextBytes.is.Goals as goal

pub returns : goal.returns
returns c =
    let compared : c.cmp.result ≡ slice_cmp nat_cmp (text_left c.args.self) c.args.other.now = cmp_from_yields_List (λ x y. y ≡ x) _ nat_cmp _ c.cmp.ensures.ran (YieldsList-from_first (λ b. b) text_left (text_left c.args.self) refl) (λ it e. YieldsList-from_copied (YieldsList-from_slice c.args.other.now (ap (λ k. iter_rest (copied_source k)) e ∙ ap iter_rest c.copied.ensures.source ∙ c.iter.ensures.rest))) (λ x y. refl) in
    c.is_eq.ensures ∙ ap is_eq compared ∙ sym (lists_ties nat_cmp unsigned_ties (text_left c.args.self) c.args.other.now)
