use Rattle.std.proofs.Common.{◌≡◌, ◌∙◌, ◌+◌, ◌-◌, ℕ, suc, ap, codes, map, arith}
use Rattle.conf_book.specs.Books.{documents_of}
use Rattle.script_frames.specs.Frames.{Connection}
use Rattle.unit_top.specs.Load.{draw_of, request_by, requests_from}
use Rattle.unit_top.specs.declared.load.Summary.{Summary}
use Rattle.unit_top.proofs.LoadLemmas.{counted_next, requests_next}
use Rattle.unit_top.proofs.load.count_requests.Goals as goal

pub loop-preserved : goal.loop-preserved
loop-preserved g c =
    let inv = c.loop.invariant in
    let counted = c.in_ok-count_frame.ensures in
    let state = c.loop.draws.state in
    let more : ℕ = c.args.requests - (c.loop.counter + 1) in
    let request : c.as_slice.result.now ≡ (request_by (draw_of state)).request = c.as_slice.ensures ∙ c.in_ok-request.ensures.request in
    let left : c.args.requests - c.loop.counter ≡ suc more = omega (arith, c.loop-test.true) in
    let next = c.request.new.self.state in
    let first = requests_next (c.args.requests - c.loop.counter) more state next c.as_slice.result.now left request c.in_ok-request.ensures.state in
    let frames : c.count_frame.new.summary.frames ≡ c.loop.summary.frames + 1 = ap (λ (s : Summary). s.frames) counted.counted in
    record {
      names = c.count_frame.ensures.names ∙ inv.names;
      whole = counted.whole;
      bare = counted.bare;
      early = omega (arith, counted.drawn, inv.early);
      few = omega (arith, frames, inv.few);
      small = counted.small;
      all =
          counted_next g.H.Handlers.reply_of c.args.book.now.names (documents_of c.loop.book) c.loop.plain c.loop.book.names (documents_of c.count_frame.new.book) c.count_frame.new.plain
          (Connection (codes "*:8080") c.as_slice.result.now) (map (Connection (codes "*:8080")) (requests_from more next))
          (map (Connection (codes "*:8080")) (requests_from (c.args.requests - c.loop.counter) state)) c.loop.summary c.count_frame.new.summary
          inv.names first counted.counted counted.documents counted.behind ∙ inv.all;
    }
