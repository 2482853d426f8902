-- How long a rewritten target is.
use Rattle.std.specs.Prelude.{ℕ, ◌+◌, ◌*◌, ◌≤◌, length}
use Rattle.unit_types.specs.Limits.{head_limit}
use Rattle.unit_types.specs.declared.message.Request.{Request}
use Rattle.http_front.specs.Bounds.{fields_len}

-- no text of the request, and no value of its fields, has more bytes than a head may have
pub record HasShortTexts (request : Request) : Type 0 where
  pub method : length request.method ≤ head_limit
  pub target : length request.target ≤ head_limit
  pub path : length request.path ≤ head_limit
  pub query : length request.query ≤ head_limit
  pub host : length request.host ≤ head_limit
  pub fields : fields_len request.fields ≤ head_limit

-- bytes of a rewritten path: those of the text, which has at most 4 variables, with a value in the place of each, and a slash
abbrev pub path_limit : ℕ
path_limit = 1 + 1024 + 4 * head_limit

-- bytes of a rewritten target: each byte of its path may be written `%XX`, and `?` and the query stand behind it
abbrev pub target_limit : ℕ
target_limit = 3 * path_limit + 1 + head_limit
