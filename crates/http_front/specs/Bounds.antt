-- How large a request is that is found at the front of the bytes of a connection.
use Rattle.std.specs.Prelude.{ℕ, ◌+◌, ◌≤◌, List, length, sum_by}
use Rattle.unit_types.specs.Limits.{field_limit, head_limit}
use Rattle.unit_types.specs.declared.field.Field.{Field}
use Rattle.http_front.specs.Message.{Message}

-- the bytes of a field's name and value
abbrev pub field_len : Field → ℕ
field_len f = length f.name + length f.value

abbrev pub fields_len : List Field → ℕ
fields_len fields = sum_by field_len fields

-- the content is within the limit, the version is 1.0 or 1.1, and there are no more fields than a head may have. Method, target,
-- names and values together have no more bytes than a head may have; so have path and query together, and so has the host.
pub record IsBounded (limit : ℕ) (m : Message) : Type 0 where
  pub content : length m.body ≤ limit
  pub minor : m.minor ≤ 1
  pub count : length m.fields ≤ field_limit
  pub head : length m.method + length m.target + fields_len m.fields ≤ head_limit
  pub resource : length m.path + length m.query ≤ head_limit
  pub host : length m.host ≤ head_limit
