-- A made load: the script that draws from a seed make, and what it sums up.
use Rattle.std.specs.Prelude.{ℕ, ◌+◌, ◌*◌, ◌/◌, ◌%◌, ◌^◌, ◌==◌, zero, suc, List, [], ◌∷◌, ◌++◌, codes, decimal, length, map, replicate, if◌then◌else◌}
use Rattle.unit_types.specs.declared.message.Reply.{Reply}
use Rattle.unit_types.specs.declared.message.Request.{Request}
use Rattle.script_frames.specs.Frames.{Frame, Control, Connection}
use Rattle.script_frames.specs.Spelling.{frames_text}
use Rattle.unit_model.specs.Lines.{line}
use Rattle.unit_top.specs.Exchange.{exchange_of}
use Rattle.unit_top.specs.Trace.{script_steps}
use Rattle.unit_top.specs.declared.load.Summary.{Summary}

-- ---- draws

-- a number, and the state of the generator behind it
pub record Draw : Type 0 where
  pub number : ℕ
  pub state : ℕ

-- the next state of a linear congruential generator of 64 bits, of which a draw gives the 31 high ones
abbrev pub draw_of : ℕ → Draw
draw_of x =
    let next = (x * 6364136223846793005 + 1442695040888963407) % 2 ^ 64 in
    record { number = next / 2 ^ 33; state = next }

-- ---- requests

-- a request, and the state of the generator behind its draws
pub record Drawn : Type 0 where
  pub request : List ℕ
  pub state : ℕ

-- the head of a request whose content has this size
abbrev pub post_head : List ℕ → ℕ → List ℕ
post_head path size =
    codes "POST " ++ (path ++ (codes " HTTP/1.1\r\nHost: a\r\nContent-Length: " ++ (decimal size ++ codes "\r\n\r\n")))

-- a request whose content is so many letters `x`
abbrev pub post : List ℕ → ℕ → List ℕ
post path size = post_head path size ++ replicate size 120

-- its content by a draw
abbrev pub drawn_post : List ℕ → Draw → Drawn
drawn_post path draw = record { request = post path (draw.number % 1000); state = draw.state }

-- one of four requests by a draw
abbrev pub request_by : Draw → Drawn
request_by draw =
    let kind = draw.number % 4 in
    if kind == 0 then record { request = codes "GET /hello HTTP/1.1\r\nHost: a\r\n\r\n"; state = draw.state }
    else if kind == 1 then drawn_post (codes "/echo") (draw_of draw.state)
    else if kind == 2 then drawn_post (codes "/count") (draw_of draw.state)
    else record { request = codes "GET /none HTTP/1.1\r\nHost: a\r\n\r\n"; state = draw.state }

-- so many requests, by draws from a state on
abbrev pub requests_from : ℕ → ℕ → List (List ℕ)
requests_from zero state = []
requests_from (suc n) state =
    let drawn = request_by (draw_of state) in
    drawn.request ∷ requests_from n drawn.state

-- ---- the script

-- each of three paths has a handler of its name
abbrev pub configuration_text : List ℕ
configuration_text =
    codes "{\"applications\":{\"count\":{\"executable\":\"count\",\"type\":\"external\"},"
    ++ (codes "\"echo\":{\"executable\":\"echo\",\"type\":\"external\"},"
    ++ (codes "\"hello\":{\"executable\":\"hello\",\"type\":\"external\"}},"
    ++ (codes "\"listeners\":{\"*:8080\":{\"pass\":\"routes\"}},"
    ++ (codes "\"routes\":[{\"action\":{\"pass\":\"applications/hello\"},\"match\":{\"uri\":\"/hello\"}},"
    ++ (codes "{\"action\":{\"pass\":\"applications/echo\"},\"match\":{\"uri\":\"/echo\"}},"
    ++ codes "{\"action\":{\"pass\":\"applications/count\"},\"match\":{\"uri\":\"/count\"}}]}")))))

abbrev pub put_text : List ℕ
put_text = codes "PUT /config HTTP/1.1\r\nHost: u\r\nContent-Length: 411\r\n\r\n" ++ configuration_text

-- the configuration is put, and each request comes on a connection of its own
abbrev pub load_frames : ℕ → ℕ → List Frame
load_frames n seed = Control put_text ∷ map (Connection (codes "*:8080")) (requests_from n seed)

abbrev pub load_bytes : ℕ → ℕ → List ℕ
load_bytes n seed = frames_text (load_frames n seed)

-- ---- what it sums up

-- frames and bytes of the script, bytes that `exchange` writes for it, and steps that it makes, each of which `trace` writes as
-- a line
abbrev pub summary_of : (List ℕ → Request → Reply) → List (List ℕ) → ℕ → ℕ → Summary
summary_of reply_of names n seed =
    let bytes = load_bytes n seed in
    record {
      frames = length (load_frames n seed);
      input = length bytes;
      output = length (exchange_of reply_of names bytes);
      steps = length (script_steps reply_of names bytes);
    }

-- its four lines
abbrev pub summary_text : Summary → List ℕ
summary_text summary =
    line (codes "frames") (summary.frames ∷ [])
    ++ (line (codes "in") (summary.input ∷ [])
    ++ (line (codes "out") (summary.output ∷ [])
    ++ line (codes "steps") (summary.steps ∷ [])))

-- what `load` writes for so many requests and this seed
abbrev pub load_of : (List ℕ → Request → Reply) → List (List ℕ) → ℕ → ℕ → List ℕ
load_of reply_of names n seed = summary_text (summary_of reply_of names n seed)
