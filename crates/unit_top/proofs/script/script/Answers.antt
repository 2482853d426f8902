use Rattle.std.proofs.Common.{◌≡◌, ◌∙◌, ◌+◌, ◌^◌, ◌≤◌, ap, sym, subst, arith, All, List, ℕ, length}
use Rattle.conf_book.specs.Books.{documents_of}
use Rattle.plain_fabric.specs.Laws.{AllCanPass}
use Rattle.script_frames.specs.Frames.{frames_of}
use Rattle.unit_types.specs.Limits.{IsShortName}
use Rattle.unit_top.specs.Outcome.{frames_outcome}
use Rattle.unit_top.specs.Posting.{Post, passed_from, passed_in}
use Rattle.unit_top.specs.Scripts.{frames_text, script_text}
use Rattle.unit_top.specs.Trace.{posts_from, script_posts}
use Rattle.unit_top.proofs.PostingLemmas.{passed_count}
use Rattle.unit_top.proofs.ScriptLemmas.{broken_ends, few_frames, fresh_text, stops_used, when_done, whole_ends}
use Rattle.unit_top.proofs.script.script.Goals as goal

pub returns-in-Some-clause-outcome : goal.returns-in-Some-clause-outcome
returns-in-Some-clause-outcome g c =
    broken_ends (script_text c.args.output g.H.Handlers.reply_of (g.H.Handlers.listed c.args.handlers.now) c.args.input.now) c.args.input.now c.in-Some.place (g.K.Sink.written c.args.out.now) (sym c.broken_at.ensures ∙ c.in-Some.is)

pub returns-in-Some-clause-place : goal.returns-in-Some-clause-place
returns-in-Some-clause-place g c = λ six.
    ap (frames_outcome (script_text c.args.output g.H.Handlers.reply_of (g.H.Handlers.listed c.args.handlers.now) c.args.input.now)) (sym c.broken_at.ensures ∙ c.in-Some.is)

pub open-requires : goal.open-requires
open-requires g c = subst (All IsShortName) (sym c.names.ensures) (g.met.H.Handlers.names_fit c.args.handlers.now).short

pub write_frames-requires-clause-early : goal.write_frames-requires-clause-early
write_frames-requires-clause-early g c =
    omega (arith, c.in-Ok-open_fabric.ensures.drawn, few_frames c.args.input.now, c.requires)

pub returns-clause-used : goal.returns-clause-used
returns-clause-used g c = let used = stops_used c.write_frames.result c.write_frames.ensures.stops in (used.0, used.1, used.2)

pub returns-clause-outcome : goal.returns-clause-outcome
returns-clause-outcome g c =
    let reply_of = g.H.Handlers.reply_of in
    let names = g.H.Handlers.listed c.args.handlers.now in
    let input = c.args.input.now in
    let plain = c.in-Ok-open_fabric.plain in
    let output = frames_text c.args.output reply_of c.in-Ok.book.names (documents_of c.in-Ok.book) plain (frames_of input) in
    let same : output ≡ script_text c.args.output reply_of names input =
    (λ i. frames_text c.args.output reply_of ((c.in-Ok.ensures.names ∙ c.names.ensures) i) (c.in-Ok.ensures.documents i) plain (frames_of input))
    ∙ fresh_text c.args.output reply_of names plain input c.in-Ok-open_fabric.ensures in
    whole_ends (script_text c.args.output reply_of names input) input output c.write_frames.result
    (g.K.Sink.written c.args.out.now) (g.K.Sink.written c.write_frames.new.out) (sym c.broken_at.ensures ∙ c.in_default.is) same c.write_frames.ensures.all c.write_frames.ensures.front c.write_frames.ensures.stops

pub returns-clause-place : goal.returns-clause-place
returns-clause-place g c = λ six. absurd ((stops_used c.write_frames.result c.write_frames.ensures.stops).3 six)

pub returns-clause-silent : goal.returns-clause-silent
returns-clause-silent g c = λ six. absurd ((stops_used c.write_frames.result c.write_frames.ensures.stops).3 six)

pub returns-clause-legal : goal.returns-clause-legal
returns-clause-legal g c = λ zero.
    let reply_of = g.H.Handlers.reply_of in
    let names = g.H.Handlers.listed c.args.handlers.now in
    let input = c.args.input.now in
    let fresh = c.in-Ok-open_fabric.ensures in
    let posts : posts_from reply_of c.in-Ok.book.names (documents_of c.in-Ok.book) (frames_of input) ≡ script_posts reply_of names input =
    (λ i. posts_from reply_of ((c.in-Ok.ensures.names ∙ c.names.ensures) i) (c.in-Ok.ensures.documents i) (frames_of input)) in
    let can : AllCanPass (passed_from reply_of 1 (script_posts reply_of names input)) =
    (subst (λ (n : ℕ). AllCanPass (passed_from reply_of (n + 1) (script_posts reply_of names input))) fresh.drawn
    (subst (λ (ps : List Post). AllCanPass (passed_in reply_of c.in-Ok-open_fabric.plain ps)) posts
    (when_done c.write_frames.result c.write_frames.ensures.stops zero c.write_frames.ensures.passes))) in
    let few : length (script_posts reply_of names input) ≤ 2 ^ 48 =
    subst (λ (ps : List Post). length ps ≤ 2 ^ 48) posts (when_done c.write_frames.result c.write_frames.ensures.stops zero c.write_frames.ensures.few) in
    c.traces_are_legal.ensures (passed_from reply_of 1 (script_posts reply_of names input)) can
    (omega (arith, few, passed_count reply_of 1 (script_posts reply_of names input)))
