-- The rewritten target of a request (RFC 9112, section 3.2; RFC 3986, section 3). That a rewrite stands between routing
-- and the application, and that its text is escaped before its path becomes normal, are this project's own.
use Rattle.std.specs.Prelude.{ℕ, ◌==◌, nat_lt, Bool, ◌||◌, List, [], ◌∷◌, ◌++◌, Option, Some, None, option_and_then, option_map, if◌then◌else◌}
use Rattle.std.specs.List.{flat_map}
use Rattle.percent_encoding.specs.Percent.{percent_encode_byte}
use Rattle.path_normal.specs.Path.{normal_path_of}
use Rattle.path_normal.specs.Variables.{expansion_of}
use Rattle.conf_validate.specs.Configuration.{Configuration, rewrite_at}
use Rattle.unit_types.specs.declared.message.Request.{Request}
use Rattle.header_rewrite.specs.declared.targets.NewTarget.{NewTarget}

-- a byte that no path of a target has as itself: one outside 0x21 to 0x7E, `%`, `?` and `#`
abbrev pub is_escaped_in_path : ℕ → Bool
is_escaped_in_path b = nat_lt b 33 || (nat_lt 126 b || (b == 37 || (b == 63 || b == 35)))

-- such a byte is written `%XX` with capital digits (RFC 3986, section 2.1)
abbrev pub path_byte : ℕ → List ℕ
path_byte b = if is_escaped_in_path b then percent_encode_byte b else b ∷ []

-- a path as it stands in a target
abbrev pub path_in_target : List ℕ → List ℕ
path_in_target path = flat_map path_byte path

-- `?` and the query (RFC 3986, section 3.4); nothing where the query is empty
abbrev pub query_in_target : List ℕ → List ℕ
query_in_target [] = []
query_in_target (b ∷ query) = 63 ∷ b ∷ query

-- the path that a text says for a request: its expansion, escaped, as a normal path
abbrev pub rewritten_path : List ℕ → Request → List ℕ
rewritten_path text request = normal_path_of (path_in_target (expansion_of text request))

-- the target of this path with the query of the request
abbrev pub target_with : List ℕ → List ℕ → List ℕ
target_with path query = path_in_target path ++ query_in_target query

-- the path and the target that a text says for a request
abbrev pub rewritten_by : List ℕ → Request → NewTarget
rewritten_by text request = record {
  path = rewritten_path text request;
  target = target_with (rewritten_path text request) request.query;
}

-- the text of the `rewrite` of this step, if there is one
abbrev pub rewrite_of_step : Configuration → Option ℕ → Option (List ℕ)
rewrite_of_step conf step = option_and_then (rewrite_at conf) step

-- what this step changes in a request
abbrev pub rewrite_of : Configuration → Option ℕ → Request → Option NewTarget
rewrite_of conf step request = option_map (λ text. rewritten_by text request) (rewrite_of_step conf step)

-- a request with its path and target changed, all else as it was
abbrev pub with_rewrite : Request → Option NewTarget → Request
with_rewrite request None = request
with_rewrite request (Some new) = record request { path = new.path; target = new.target }

-- the request as the application of this step sees it
abbrev pub rewritten_of : Configuration → Option ℕ → Request → Request
rewritten_of conf step request = with_rewrite request (rewrite_of conf step request)
