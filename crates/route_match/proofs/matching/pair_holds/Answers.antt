use Rattle.std.proofs.Common.{◌≡◌, ◌∙◌, ◌&&◌, true, sym, ap, refl}
use Rattle.std.specs.Str.{bytes_eq}
use Rattle.std.proofs.lemmas.Iterator.Consumers.{YieldsList-from_first}
use Rattle.path_normal.specs.Text.{text_left}
use Rattle.pattern_text.specs.TextPattern.{list_matches}
use Rattle.route_match.proofs.matching.pair_holds.Goals as goal

pub returns-then-is : goal.returns-then-is
returns-then-is c =
    let name = text_left c.args.pair.name in
    let value = text_left c.args.pair.value in
    let named = c.args.named.now in
    let is : bytes_eq name named.name ≡ true = ap (bytes_eq name) (sym c.as_slice.ensures) ∙ sym c.is.ensures ∙ c.if-is.true in
    let found : c.matches_bytes.result ≡ list_matches named.patterns value =
    c.matches_bytes.ensures value ((YieldsList-from_first (λ b. b) text_left {s = c.args.pair.value} value refl).runs) in
    found ∙ ap (λ b. b && list_matches named.patterns value) (sym is)
