use Rattle.std.proofs.Common.{◌≡◌, ◌≤◌, ap, sym, subst, arith, length, List, ℕ}
use Rattle.std.proofs.lemmas.Bool.{leb-true}
use mathlib.Core.List.{IsPrefix}
use Rattle.conf_validate.specs.Configuration.{Configuration}
use Rattle.conf_shared.proofs.PrefixLemmas.{prefix_shorter}
use Rattle.conf_shared.proofs.edition.Edition.begins.Goals as goal

pub returns : goal.returns
returns c is =
    let mine = c.args.self.now.newest.0 in
    let theirs = c.args.other.now.newest.0 in
    let both = c.learn.new.self.log in
    let this : IsPrefix c.args.self.now.seen.log both = subst (λ (l : List Configuration). IsPrefix l both) (ap (λ s. s.log) c.again-both.ensures) c.learn.ensures.2 in
    let le : c.args.self.now.last.number ≤ c.args.other.now.last.number = leb-true _ _ is in
    prefix_shorter c.args.self.now.seen.log c.args.other.now.seen.log both this c.learn.ensures.3 (omega (arith, mine, theirs, le))
