-- What the handlers of the program reply.
use Rattle.std.specs.Prelude.{ℕ, List, [], ◌∷◌, ◌++◌, length, nat_le, codes, decimal, bytes_eq, if◌then◌else◌}
use Rattle.unit_types.specs.Limits.{record_limit}
use Rattle.unit_types.specs.Record.{reply_record}
use Rattle.unit_types.specs.declared.message.Request.{Request}
use Rattle.unit_types.specs.declared.message.Reply.{Reply}

-- the names, ascending
abbrev pub names_known : List (List ℕ)
names_known = codes "count" ∷ codes "echo" ∷ codes "hello" ∷ []

-- a content of that type
abbrev pub content_reply : List ℕ → List ℕ → Reply
content_reply type body = record {
  status = 200;
  fields = record { name = codes "Content-Type"; value = type } ∷ [];
  body = body;
}

-- `hello` greets in plain text
abbrev pub hello_reply : Reply
hello_reply = content_reply (codes "text/plain") (codes "Hello, world!" ++ 10 ∷ [])

-- a content whose reply no record holds is refused (413, RFC 9110, section 15.5.14)
abbrev pub too_long_reply : Reply
too_long_reply = record { status = 413; fields = []; body = [] }

abbrev pub where_recorded : Reply → Reply
where_recorded reply = if nat_le (length (reply_record reply)) record_limit then reply else too_long_reply

-- `count` writes how many bytes the content has
abbrev pub count_reply : List ℕ → Reply
count_reply body = content_reply (codes "text/plain") (decimal (length body) ++ 10 ∷ [])

-- `echo` gives the content back
abbrev pub echo_reply : List ℕ → Reply
echo_reply body = content_reply (codes "application/octet-stream") body

-- a name that no handler has
abbrev pub unknown_reply : Reply
unknown_reply = record { status = 404; fields = []; body = [] }

abbrev pub program_reply : List ℕ → Request → Reply
program_reply name request =
    if bytes_eq name (codes "count") then where_recorded (count_reply request.body)
    else if bytes_eq name (codes "echo") then where_recorded (echo_reply request.body)
    else if bytes_eq name (codes "hello") then hello_reply
    else unknown_reply
