use Rattle.std.proofs.Common.{◌≡◌, sym, ◌∙◌, ap, arith, length, length-append, List, ℕ, [], ◌∷◌, ◌+◌, None, Some, rules}
use Rattle.std.specs.Arc.{arc_value}
use Rattle.std.specs.List.{last_or}
use Rattle.conf_validate.specs.Configuration.{Configuration}
use Rattle.conf_shared.proofs.PrefixLemmas.{last_snoc}
use Rattle.conf_shared.proofs.edition.Edition.add.Goals as goal

pub invariant_of-result : goal.invariant_of-result
invariant_of-result g c =
    let is = c.in-Some.ensures.1 in
    let old = c.args.self.now.seen.log in
    let one = arc_value c.args.current.now.conf in
    record {
      newest = (
        omega (arith, c.len-count.ensures, c.in_ok-last.ensures.0, ap length is, length-append old (one ∷ [])),
        ap (λ (l : List Configuration). last_or None l) is ∙ (last_snoc None old one ∙ ap Some (sym c.in_ok-last.ensures.1)),
      );
      fits = search rules;
    }
