use Rattle.std.proofs.Common.{◌∙◌, ap, sym, subst, drop, List, ℕ}
use Rattle.http_front.specs.declared.progress.Progress.{Progress}
use Rattle.http_front.specs.Kept.{Kept, Unchanged}
use Rattle.http_front.specs.Inside.{stage_of, mark_of, kept_of}
use Rattle.http_front.specs.Progress.{SearchedOn}
use Rattle.http_front.proofs.ProgressLemmas.{searched_unchanged}
use Rattle.http_front.proofs.reader.Reader.still_waits.Goals as goal

pub returns-in-Some-clause-waits : goal.returns-in-Some-clause-waits
returns-in-Some-clause-waits c is limit =
    let i = c.self.inside in
    let bytes = drop i.used i.bytes.items in
    let unread = c.behind.ensures ∙ ap (λ items. drop i.used items) c.deref.ensures.value in
    let on = subst (λ (ys : List ℕ). SearchedOn c.in-Some.search ys) unread c.in-Some.ensures in
    subst (λ (k : Kept). Unchanged k limit) c.self.view_is
    (subst (λ (p : Progress). Unchanged (record (kept_of i) { stage = stage_of p i.arriving }) limit) (sym c.in-Head.is)
    (searched_unchanged c.in-Some.search (mark_of i.bytes.items i.arriving i.mark) i.from i.to bytes i.ended i.limit i.is_told limit on c.if-self.false))
