-- Worked rows of the definitions.
use Rattle.std.proofs.Common.{ℕ, ◌≡◌, refl, List, [], ◌∷◌, ◌++◌, false, length, codes}
use Rattle.std.specs.Fmt.{digits}
use Rattle.std.specs.Str.{is_utf8, chars}
use lib.Utf8.{encode}
use Rattle.httparse.specs.Grammar.{print_request, is_token_byte, trim_ows}
use Rattle.unit_types.specs.declared.message.Request.{Request}
use Rattle.unit_types.specs.declared.message.Reply.{Reply}
use Rattle.http_front.specs.Head.{head_of, head_in}
use Rattle.http_front.specs.Front.{blank_len, block_len, front_of}
use Rattle.http_front.specs.NextUnit.{next_unit}
use Rattle.http_front.specs.Content.{content_of}
use Rattle.http_front.specs.Chunks.{line_front, first_chunk, chunks_in}
use Rattle.http_front.specs.ChunkLine.{chunk_line_in, chunk_size_of}
use Rattle.percent_encoding.specs.Percent.{percent_decode}
use Rattle.httparse.specs.Grammar.{print_chunk_line}
use Rattle.http_front.specs.Session.{session_from, once_of}
use Rattle.http_front.specs.Written.{http_bytes, phrases, error_bytes}

line : List ℕ → List ℕ
line text = text ++ 13 ∷ 10 ∷ []

one_get : List ℕ
unfolding line
one_get = line (codes "GET / HTTP/1.1") ++ line (codes "Host: a") ++ line []

hello : Reply
hello = record {
  status = 200;
  fields = record { name = codes "Content-Type"; value = codes "text/plain" } ∷ [];
  body = codes "Hello, world!" ++ 10 ∷ [];
}

reply_of : List ℕ → Request → Reply
reply_of name r = hello

hello_bytes : List ℕ
unfolding line
hello_bytes =
    line (codes "HTTP/1.1 200 OK") ++ line (codes "Content-Type: text/plain") ++ line (codes "Content-Length: 14")
    ++ line [] ++ codes "Hello, world!" ++ 10 ∷ []

-- one GET, and the 79 bytes of its reply
one-get : once_of reply_of (codes "hello") one_get ≡ hello_bytes
unfolding session_from next_unit front_of blank_len block_len content_of percent_decode head_of head_in print_request is_token_byte trim_ows is_utf8 chars encode http_bytes phrases digits reply_of hello one_get hello_bytes line
one-get = refl

hello-length : length hello_bytes ≡ 79
unfolding hello_bytes line
hello-length = refl

empty-input : once_of reply_of (codes "hello") [] ≡ []
unfolding session_from next_unit front_of blank_len block_len
empty-input = refl

cut-head : once_of reply_of (codes "hello") (codes "GET / HT") ≡ []
unfolding session_from next_unit front_of blank_len block_len
cut-head = refl

error_text : List ℕ → List ℕ → List ℕ → List ℕ
unfolding line
error_text status close body =
    line (codes "HTTP/1.1 " ++ status) ++ line (codes "Content-Type: text/plain") ++ line (codes "Content-Length: 12")
    ++ close ++ line [] ++ line body

-- an error reply where the connection goes on has 84 bytes
not-found : error_bytes 404 false false ≡ error_text (codes "404 Not Found") [] (codes "Error 404.")
unfolding http_bytes phrases digits error_text line
not-found = refl

not-found-length : length (error_bytes 404 false false) ≡ 84
unfolding http_bytes phrases digits
not-found-length = refl

closing : List ℕ
unfolding line
closing = line (codes "Connection: close")

-- a head without Host, and then a good request
no_host : List ℕ
unfolding line
no_host = line (codes "GET / HTTP/1.1") ++ line []

no-host : once_of reply_of (codes "hello") (no_host ++ one_get) ≡ error_text (codes "400 Bad Request") closing (codes "Error 400.")
unfolding session_from next_unit front_of blank_len block_len content_of percent_decode head_of head_in print_request is_token_byte trim_ows is_utf8 chars encode http_bytes phrases digits error_text closing no_host one_get line
no-host = refl

gzip_post : List ℕ
unfolding line
gzip_post = line (codes "POST / HTTP/1.1") ++ line (codes "Host: a") ++ line (codes "Transfer-Encoding: gzip") ++ line []

unknown-coding : once_of reply_of (codes "hello") gzip_post ≡ error_text (codes "501 Not Implemented") closing (codes "Error 501.")
unfolding session_from next_unit front_of blank_len block_len content_of percent_decode head_of head_in print_request is_token_byte trim_ows is_utf8 chars encode http_bytes phrases digits error_text closing gzip_post line
unknown-coding = refl

-- a second request
pipelined-pair : once_of reply_of (codes "hello") (one_get ++ one_get) ≡ hello_bytes ++ hello_bytes
unfolding session_from next_unit front_of blank_len block_len content_of percent_decode head_of head_in print_request is_token_byte trim_ows is_utf8 chars encode http_bytes phrases digits reply_of hello hello_bytes one_get line
pipelined-pair = refl

-- the content comes back
echo : List ℕ → Request → Reply
echo name r = record { status = 200; fields = []; body = r.body }

-- chunked content with a trailer, which is dropped, behind `Expect`
chunked_post : List ℕ
unfolding line
chunked_post =
    line (codes "POST / HTTP/1.1") ++ line (codes "Host: a") ++ line (codes "Expect: 100-continue")
    ++ line (codes "Transfer-Encoding: chunked") ++ line []
    ++ line (codes "5") ++ line (codes "hello") ++ line (codes "0") ++ line (codes "X: y") ++ line []

chunked-trailer : once_of echo (codes "echo") chunked_post
    ≡ line (codes "HTTP/1.1 100 Continue") ++ line [] ++ line (codes "HTTP/1.1 200 OK") ++ line (codes "Content-Length: 5") ++ line [] ++ codes "hello"
unfolding session_from next_unit front_of blank_len block_len content_of line_front first_chunk chunks_in chunk_line_in chunk_size_of print_chunk_line percent_decode head_of head_in print_request is_token_byte trim_ows is_utf8 chars encode http_bytes phrases digits echo chunked_post line
chunked-trailer = refl
