-- Loads: their frames can be spelled, and are counted one by one.
use Rattle.std.proofs.Common.{ℕ, zero, suc, ◌≡◌, ◌<◌, ◌≤◌, ◌==◌, ◌+◌, ◌%◌, ◌∙◌, ◌++◌, ◌∷◌, [], Bool, true, false, refl, sym, ap, arith, codes, length, length-append, append-nil, map, if◌then◌else◌, List}
use Rattle.std.proofs.lemmas.List.{length-replicate}
use Rattle.std.proofs.lemmas.Fmt.{length-decimal-le_succ}
use Rattle.unit_types.specs.declared.message.Reply.{Reply}
use Rattle.unit_types.specs.declared.message.Request.{Request}
use Rattle.serde_json.specs.Data.{Data}
use Rattle.conf_book.specs.Books.{first_document}
use Rattle.plain_fabric.specs.Plains.{PlainValue}
use Rattle.plain_fabric.specs.Schedule.{trace_from}
use Rattle.script_frames.specs.Frames.{Connection, Frame, frames_of}
use Rattle.script_frames.specs.Spelling.{AreFrames, IsListener, counted, frame_text, frames_text}
use Rattle.unit_model.specs.declared.machine.Step.{Step}
use Rattle.unit_top.specs.Counting.{counted_with}
use Rattle.unit_top.specs.Exchange.{exchange_from, frame_outcome}
use Rattle.unit_top.specs.Load.{Draw, draw_of, drawn_post, load_bytes, load_frames, request_by, requests_from, summary_of}
use Rattle.unit_top.specs.Posting.{IsBehind, IsFresh, Post, passed_from, steps_in}
use Rattle.unit_top.specs.Trace.{frame_posts, posts_from, script_steps}
use Rattle.unit_top.specs.declared.load.Summary.{Summary}
use Rattle.unit_top.proofs.PostingLemmas.{steps_on}

-- ---- the frames can be spelled

abbrev IsShort : List ℕ → Type 0
IsShort text = length text ≤ 10000

listener : IsListener (codes "*:8080")
listener = record { some = omega arith; short = omega arith; no_space = refl; no_end = refl }

short_post : (path : List ℕ) (draw : Draw) → length path ≤ 10 → IsShort (drawn_post path draw).request
short_post path draw few =
    let size = draw.number % 1000 in
    let small : size < 1000 = omega arith in
    grind (arith, length-append, few, small, length-replicate {A = ℕ} size 120, length-decimal-le_succ size (omega (arith, small)))

short_request : (draw : Draw) → IsShort (request_by draw).request
short_request draw = by (draw.number % 4 == 0) (draw.number % 4 == 1) (draw.number % 4 == 2)
  where
    by : (hello echo count : Bool) → IsShort (if hello then record { request = codes "GET /hello HTTP/1.1\r\nHost: a\r\n\r\n"; state = draw.state }
        else if echo then drawn_post (codes "/echo") (draw_of draw.state)
        else if count then drawn_post (codes "/count") (draw_of draw.state)
        else record { request = codes "GET /none HTTP/1.1\r\nHost: a\r\n\r\n"; state = draw.state }).request
    by true echo count = omega arith
    by false true count = short_post (codes "/echo") (draw_of draw.state) (omega arith)
    by false false true = short_post (codes "/count") (draw_of draw.state) (omega arith)
    by false false false = omega arith

requests_are : (n state : ℕ) → AreFrames (map (Connection (codes "*:8080")) (requests_from n state))
requests_are zero state = tt
requests_are (suc n) state =
    let drawn = request_by (draw_of state) in
    ((listener, omega (arith, short_request (draw_of state))), requests_are n drawn.state)

pub frames_are : (n seed : ℕ) → AreFrames (load_frames n seed)
frames_are n seed = (omega arith, requests_are n seed)

-- ---- they are counted one by one

module _ (reply_of : List ℕ → Request → Reply) (names : List (List ℕ)) (documents : List Data) (plain : PlainValue) where
  -- the frames behind the first one are counted behind it
  pub counted_first : (after : PlainValue) (frame : Frame) (rest : List Frame) (summary : Summary) → IsBehind reply_of (frame_posts reply_of documents frame) plain after
      → counted_with reply_of names (frame_outcome reply_of names documents frame).documents after rest (counted_with reply_of names documents plain (frame ∷ []) summary)
      ≡ counted_with reply_of names documents plain (frame ∷ rest) summary
  counted_first after frame rest summary posted = λ i. record {
    frames = frames i;
    input = joined summary.input (frame_text frame) (frames_text rest) i;
    output = joined summary.output reply (exchange_from reply_of names (frame_outcome reply_of names documents frame).documents rest) i;
    steps = steps i;
  }
    where
      reply : List ℕ
      reply = counted (frame_outcome reply_of names documents frame).reply

      posts : List Post
      posts = frame_posts reply_of documents frame

      more : List Post
      more = posts_from reply_of names (frame_outcome reply_of names documents frame).documents rest

      frames : summary.frames + 1 + length rest ≡ summary.frames + length (frame ∷ rest)
      frames = omega arith

      joined : (n : ℕ) (first others : List ℕ) → n + length (first ++ []) + length others ≡ n + length (first ++ others)
      joined n first others = omega (arith, length-append first [], length-append first others)

      steps : summary.steps + length (steps_in reply_of plain (posts ++ [])) + length (steps_in reply_of after more) ≡ summary.steps + length (steps_in reply_of plain (posts ++ more))
      steps =
          let one : length (steps_in reply_of plain (posts ++ [])) ≡ length (steps_in reply_of plain posts) =
          ap (λ (ps : List Post). length (steps_in reply_of plain ps)) (append-nil posts) in
          let all : length (steps_in reply_of plain (posts ++ more)) ≡ length (steps_in reply_of plain posts) + length (steps_in reply_of after more) =
          ap (λ (xs : List Step). length xs) (steps_on reply_of posts more plain after posted) ∙ length-append (steps_in reply_of plain posts) (steps_in reply_of after more) in
          omega (arith, one, all)

  -- a frame more is counted
  pub counted_next : (its_names : List (List ℕ)) (next : List Data) (after : PlainValue) (frame : Frame) (rest frames : List Frame) (summary new : Summary)
      → its_names ≡ names → frames ≡ frame ∷ rest → new ≡ counted_with reply_of its_names documents plain (frame ∷ []) summary
      → next ≡ (frame_outcome reply_of its_names documents frame).documents → IsBehind reply_of (frame_posts reply_of documents frame) plain after
      → counted_with reply_of names next after rest new ≡ counted_with reply_of names documents plain frames summary
  counted_next its_names next after frame rest frames summary new same first counted docs posted =
      (λ i. counted_with reply_of names ((docs ∙ ap (λ (n : List (List ℕ)). (frame_outcome reply_of n documents frame).documents) same) i) after rest
      ((counted ∙ ap (λ (n : List (List ℕ)). counted_with reply_of n documents plain (frame ∷ []) summary) same) i))
      ∙ counted_first after frame rest summary posted
      ∙ ap (λ (fs : List Frame). counted_with reply_of names documents plain fs summary) (sym first)

-- the next of the requests that are left
pub requests_next : (left more state next : ℕ) (request : List ℕ) → left ≡ suc more → request ≡ (request_by (draw_of state)).request → next ≡ (request_by (draw_of state)).state
    → map (Connection (codes "*:8080")) (requests_from left state) ≡ Connection (codes "*:8080") request ∷ map (Connection (codes "*:8080")) (requests_from more next)
requests_next left more state next request is its behind =
    ap (λ (n : ℕ). map (Connection (codes "*:8080")) (requests_from n state)) is
    ∙ (λ i. Connection (codes "*:8080") (sym its i) ∷ map (Connection (codes "*:8080")) (requests_from more (sym behind i)))

abbrev pub nothing : Summary
nothing = record { frames = 0; input = 0; output = 0; steps = 0 }

-- through a fresh fabric, from a book's first document on, they are those of the load
pub counted_whole : (reply_of : List ℕ → Request → Reply) (names : List (List ℕ)) (plain : PlainValue) (n seed : ℕ) → IsFresh plain
    → frames_of (load_bytes n seed) ≡ load_frames n seed
    → counted_with reply_of names (first_document ∷ []) plain (load_frames n seed) nothing ≡ summary_of reply_of names n seed
counted_whole reply_of names plain n seed fresh read = λ i. record {
  frames = from_nothing (length (load_frames n seed)) i;
  input = from_nothing (length (load_bytes n seed)) i;
  output =
      (from_nothing (length (exchange_from reply_of names (first_document ∷ []) (load_frames n seed)))
      ∙ ap (λ (frames : List Frame). length (exchange_from reply_of names (first_document ∷ []) frames)) (sym read)) i;
  steps = (from_nothing (length (steps_in reply_of plain (posts_from reply_of names (first_document ∷ []) (load_frames n seed)))) ∙ steps) i;
}
  where
    from_nothing : (m : ℕ) → 0 + m ≡ m
    from_nothing m = omega arith

    steps : length (steps_in reply_of plain (posts_from reply_of names (first_document ∷ []) (load_frames n seed))) ≡ length (script_steps reply_of names (load_bytes n seed))
    steps = λ j. length (trace_from (fresh.shape j) (fresh.drawn j) (fresh.sent j) (passed_from reply_of (fresh.drawn j + 1) (posts_from reply_of names (first_document ∷ []) (sym read j))))
