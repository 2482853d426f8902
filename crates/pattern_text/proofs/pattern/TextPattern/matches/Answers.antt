use Rattle.std.proofs.Common.{◌≡◌, ◌∙◌, sym, ap, not}
use Rattle.std.specs.Bool.{beq}
use Rattle.pattern_text.specs.TextPattern.{plain_part, text_matches}
use Rattle.pattern_text.proofs.ListLemmas.{holds_exactly, list_of_one}
use Rattle.pattern_text.proofs.pattern.TextPattern.matches.Goals as goal

pub returns : goal.returns
returns c =
    let pattern = c.args.self.now in
    let bytes = c.args.text.now in
    let found : c.holds_slice.result ≡ text_matches (plain_part pattern) bytes = c.holds_slice.ensures ∙ holds_exactly pattern bytes in
    ap (λ b. not (beq b c.is_negated.result)) found ∙ ap (λ b. not (beq (text_matches (plain_part pattern) bytes) b)) c.is_negated.ensures ∙ sym (list_of_one pattern bytes)
