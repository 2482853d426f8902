use Rattle.std.proofs.Common.{◌≡◌, ℕ, refl, ◌∙◌}
use Rattle.http_header.specs.Token.{is_token_byte}
use Rattle.unit_types.specs.Token.{is_tchar}
use Rattle.conf_validate.proofs.names.is_tchar.Goals as goal

same : (b : ℕ) → is_token_byte b ≡ is_tchar b
unfolding is_token_byte is_tchar
same b = refl

pub returns : goal.returns
returns c = c.is_token_char.ensures ∙ same c.args.byte
