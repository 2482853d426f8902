use Rattle.std.proofs.Common.{◌≡◌, ◌∙◌, ℕ, List, IfOk, ap, codes, map, refl, subst}
use Rattle.serde_json.specs.Data.{Data}
use Rattle.conf_book.specs.Books.{documents_of}
use Rattle.script_frames.specs.Frames.{Connection, Control, Framed, frames_of}
use Rattle.unit_top.specs.Counting.{counted_with}
use Rattle.unit_top.specs.Load.{load_bytes, load_frames, put_text, requests_from, summary_of}
use Rattle.unit_top.specs.declared.load.Summary.{Summary}
use Rattle.unit_top.proofs.LoadLemmas.{counted_next, counted_whole, frames_are, nothing}
use Rattle.unit_top.proofs.load.summed.Goals as goal

pub returns : goal.returns
returns g c =
    let reply_of = g.H.Handlers.reply_of in
    let names = g.H.Handlers.listed c.args.handlers.now in
    let n = c.args.requests in
    let seed = c.args.seed in
    let counted = c.in_ok-count_frame.ensures in
    let rest = map (Connection (codes "*:8080")) (requests_from n seed) in
    let documents = documents_of c.in_ok-book.book in
    let behind = documents_of c.count_frame.new.book in
    let same : c.in_ok-book.book.names ≡ names = c.in_ok-book.ensures.names ∙ c.names.ensures in
    let read : frames_of (load_bytes n seed) ≡ load_frames n seed =
    ap (λ (framed : Framed). framed.frames) (c.frames_are_read_back.ensures.read (load_frames n seed) (frames_are n seed)) in
    let whole : counted_with reply_of c.count_frame.new.book.names behind c.count_frame.new.plain rest c.count_frame.new.summary ≡ summary_of reply_of names n seed =
    ap (λ (its : List (List ℕ)). counted_with reply_of its behind c.count_frame.new.plain rest c.count_frame.new.summary) (c.count_frame.ensures.names ∙ same)
    ∙ counted_next reply_of names documents c.in_ok-plain.plain c.in_ok-book.book.names behind c.count_frame.new.plain (Control put_text) rest (load_frames n seed)
    nothing c.count_frame.new.summary same refl counted.counted counted.documents counted.behind
    ∙ ap (λ (ds : List Data). counted_with reply_of names ds c.in_ok-plain.plain (load_frames n seed) nothing) c.in_ok-book.ensures.documents
    ∙ counted_whole reply_of names c.in_ok-plain.plain n seed c.in_ok-plain.ensures read in
    subst (λ (all : Summary). IfOk c.count_requests.result (λ summary. summary ≡ all)) whole c.count_requests.ensures
