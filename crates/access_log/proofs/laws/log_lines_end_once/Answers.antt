use Rattle.std.proofs.Common.{◌≡◌, ℕ, true, List, length, nat_le, ◌&&◌, All, arith}
use Rattle.std.specs.List.{list_all}
use Rattle.std.proofs.lemmas.Bool.{and_parts}
use Rattle.std.proofs.lemmas.Bool.Decides.{nat_tests}
use Rattle.std.proofs.lemmas.List.Elements.{All-weaker}
use Rattle.std.proofs.lemmas.List.Sums.{AllPass-from_list_all}
use Rattle.conf_validate.specs.Forms.{has_variables, is_log_format, log_variables}
use Rattle.access_log.proofs.LineLemmas.{IsNoFeed, line_ends_once}
use Rattle.access_log.proofs.laws.log_lines_end_once.Goals as goal

-- a byte of a format is no LF
above : (b : ℕ) → nat_le 32 b ≡ true → IsNoFeed b
above b h e = grind (arith, nat_tests)

formats_have_no_feed : (text : List ℕ) → is_log_format text ≡ true → All IsNoFeed text
formats_have_no_feed text form =
    let front = and_parts (nat_le (length text) 1024 && list_all (λ b. nat_le 32 b) text) (has_variables log_variables 32 text) form in
    let bytes = and_parts (nat_le (length text) 1024) (list_all (λ b. nat_le 32 b) text) front.0 in
    All-weaker (λ b. nat_le 32 b ≡ true) IsNoFeed above text (AllPass-from_list_all (λ b. nat_le 32 b) text bytes.1)

pub returns : goal.returns
returns c = λ format from request status body form. line_ends_once format from request status body (formats_have_no_feed format form)
