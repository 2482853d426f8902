use Rattle.std.proofs.Common.{◌+◌, ◌∙◌, sym, ap, subst, ℕ}
use Rattle.http_front.specs.Front.{blank_len}
use Rattle.http_front.specs.Progress.{IsSearched}
use Rattle.http_front.proofs.SearchLemmas.{search_blanks}
use Rattle.http_front.proofs.search.pass_blank.Goals as goal

pub returns : goal.returns
returns c =
    let same = c.blank_len-len.ensures.value ∙ ap blank_len c.behind.ensures in
    subst (λ (n : ℕ). IsSearched (record { blank = c.args.search.line + n; line = c.args.search.line + n; searched = c.args.search.line + n }) c.args.bytes.now) (sym same)
    (search_blanks c.args.search c.args.bytes.now c.requires c.if-search.false (λ e. c.if-len-eq0.false (same ∙ e)))
