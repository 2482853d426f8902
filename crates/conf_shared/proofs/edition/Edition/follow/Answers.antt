use Rattle.std.proofs.Common.{◌≡◌, rules}
use Rattle.conf_validate.specs.Current.{numbered}
use Rattle.conf_shared.proofs.PrefixLemmas.{grown}
use Rattle.conf_shared.proofs.edition.Edition.follow.Goals as goal

pub loop-self-preserved : goal.loop-self-preserved
loop-self-preserved g c =
    let both = grown numbered (λ d. d.1) c.args.list.now c.args.self.now.seen.log c.loop-self.self.seen.log c.in_ok-self.field-0.seen.log c.index-list-len.result _
    c.loop-self.invariant.longer c.loop-self.invariant.within c.len-in-loop-self.ensures (search rules) c.index-list-len.is c.in_ok-self.ensures.1 in
    record { book = c.in_ok-self.ensures.0; longer = both.0; within = both.1 }
