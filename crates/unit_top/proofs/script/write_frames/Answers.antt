use Rattle.std.proofs.Common.{◌≡◌, ◌∙◌, ◌++◌, ◌+◌, ◌*◌, ◌^◌, ◌<◌, ◌≤◌, ℕ, suc, List, [], ap, sym, refl, subst, append-nil, arith, length}
use Rattle.conf_book.specs.Books.{documents_of}
use Rattle.plain_fabric.specs.Laws.{AllCanPass}
use Rattle.script_frames.specs.Frames.{Frame, frames_of}
use Rattle.script_frames.specs.Left.{frames_left, said}
use Rattle.unit_io.specs.Told.{Adds, AddsFront}
use Rattle.unit_io.proofs.ToldLemmas.{adds_both, adds_front_behind, adds_front_first}
use Rattle.unit_top.specs.Exchange.{frame_outcome}
use Rattle.unit_top.specs.Posting.{Post, passed_in}
use Rattle.unit_top.specs.Scripts.{frame_text, frames_text}
use Rattle.unit_top.specs.Trace.{frame_posts, posts_from}
use Rattle.unit_top.proofs.PostingLemmas.{behind, more_behind, more_pass, none_behind, stands_behind}
use Rattle.unit_top.proofs.ScriptLemmas.{adds_nothing, adds_whole, frame_more, none_more, posts_more}
use Rattle.unit_top.proofs.script.write_frames.Goals as goal

pub loop-frame-init : goal.loop-frame-init
loop-frame-init g c =
    let start : frames_left c.into_iter-frame-iterator.result ≡ frames_of c.args.input.now = ap frames_left c.into_iter-frame-iterator.ensures.into_iter_gives ∙ c.frames_in-frame-items.ensures in
    record {
      done = [];
      names = refl;
      told = adds_nothing (g.K.Sink.written c.args.out.now);
      whole = ap (frames_text c.args.output g.H.Handlers.reply_of c.args.book.now.names (documents_of c.args.book.now) c.args.plain.now) (sym start);
      posts = [];
      all = ap (posts_from g.H.Handlers.reply_of c.args.book.now.names (documents_of c.args.book.now)) (sym start);
      behind = none_behind g.H.Handlers.reply_of c.args.plain.now;
      passes = tt;
      faults = refl;
      sound = c.requires.whole;
      bare = c.requires.bare;
      early = subst (λ (frames : List Frame). c.args.plain.now.drawn + 1000 * length frames < 2 ^ 48) (sym start) c.requires.early;
    }

pub write_frame-requires-clause-early : goal.write_frame-requires-clause-early
write_frame-requires-clause-early g c =
    let left : length (frames_left c.loop-frame.frame-iterator) ≡ suc (length (frames_left c.next.new.self)) = ap (length {A = Frame}) c.in-Some.ensures.steps in
    omega (arith, c.loop-frame.invariant.early, left)

pub loop-frame-preserved : goal.loop-frame-preserved
loop-frame-preserved g c =
    let reply_of = g.H.Handlers.reply_of in
    let inv = c.loop-frame.invariant in
    let frame = said c.in-Some.frame in
    let text = frame_text c.args.output reply_of c.loop-frame.book.names (documents_of c.loop-frame.book) c.loop-frame.plain frame in
    let posts = frame_posts reply_of (documents_of c.loop-frame.book) frame in
    let left : length (frames_left c.loop-frame.frame-iterator) ≡ suc (length (frames_left c.next.new.self)) = ap (length {A = Frame}) c.in-Some.ensures.steps in
    record {
      done = inv.done ++ text;
      names = c.write_frame.ensures.names ∙ inv.names;
      told = adds_both (g.K.Sink.written c.args.out.now) (g.K.Sink.written c.loop-frame.out) (g.K.Sink.written c.write_frame.new.out) inv.done text inv.told c.in_default.ensures.all;
      whole = frame_more c.args.output reply_of c.args.book.now.names c.loop-frame.book.names (documents_of c.loop-frame.book) (documents_of c.write_frame.new.book)
          c.loop-frame.plain c.write_frame.new.plain (frames_left c.loop-frame.frame-iterator) (frames_left c.next.new.self) frame
          (frames_text c.args.output reply_of c.args.book.now.names (documents_of c.args.book.now) c.args.plain.now (frames_of c.args.input.now))
          inv.done inv.whole c.in-Some.ensures.steps inv.names c.in_default.ensures.documents c.in_default.ensures.behind;
      posts = inv.posts ++ posts;
      all = posts_more c.args.output reply_of c.args.book.now.names c.loop-frame.book.names (documents_of c.loop-frame.book) (documents_of c.write_frame.new.book)
          (frames_left c.loop-frame.frame-iterator) (frames_left c.next.new.self) frame
          (posts_from reply_of c.args.book.now.names (documents_of c.args.book.now) (frames_of c.args.input.now)) inv.posts inv.all c.in-Some.ensures.steps inv.names c.in_default.ensures.documents;
      behind = more_behind reply_of inv.posts posts c.args.plain.now c.loop-frame.plain c.write_frame.new.plain inv.behind c.in_default.ensures.behind;
      passes = more_pass reply_of inv.posts posts c.args.plain.now c.loop-frame.plain inv.behind inv.passes c.in_default.ensures.passes;
      faults = c.in_default.ensures.kept (λ e. omega (arith, e)) ∙ inv.faults;
      sound = c.in_default.ensures.whole;
      bare = c.in_default.ensures.bare;
      early = omega (arith, inv.early, left, c.in_default.ensures.few);
    }

pub returns-in-Err-clause-front : goal.returns-in-Err-clause-front
returns-in-Err-clause-front g c =
    let reply_of = g.H.Handlers.reply_of in
    let inv = c.loop-frame.invariant in
    let frame = said c.in-Some.frame in
    let documents = documents_of c.loop-frame.book in
    let plain = c.loop-frame.plain in
    let text = frame_text c.args.output reply_of c.loop-frame.book.names documents plain frame in
    let next = (frame_outcome reply_of c.loop-frame.book.names documents frame).documents in
    let after = behind reply_of plain (frame_posts reply_of documents frame) in
    let whole = frames_text c.args.output reply_of c.args.book.now.names (documents_of c.args.book.now) c.args.plain.now (frames_of c.args.input.now) in
    let rest = frames_text c.args.output reply_of c.args.book.now.names next after (frames_left c.next.new.self) in
    let old = g.K.Sink.written c.args.out.now in
    let new = g.K.Sink.written c.write_frame.new.out in
    let is : whole ≡ (inv.done ++ text) ++ rest =
    frame_more c.args.output reply_of c.args.book.now.names c.loop-frame.book.names documents next plain after (frames_left c.loop-frame.frame-iterator) (frames_left c.next.new.self) frame
    whole inv.done inv.whole c.in-Some.ensures.steps inv.names refl (stands_behind reply_of plain (frame_posts reply_of documents frame)) in
    subst (AddsFront old new) (sym is)
    (adds_front_first old new (inv.done ++ text) rest (adds_front_behind old (g.K.Sink.written c.loop-frame.out) new inv.done text inv.told c.in-Err.ensures.front))

pub returns-clause-all : goal.returns-clause-all
returns-clause-all g c =
    let inv = c.loop-frame.invariant in
    let reply_of = g.H.Handlers.reply_of in
    let names = c.args.book.now.names in
    let all : frames_text c.args.output reply_of names (documents_of c.args.book.now) c.args.plain.now (frames_of c.args.input.now) ≡ inv.done =
    inv.whole ∙ ap (λ (fs : List Frame). inv.done ++ frames_text c.args.output reply_of names (documents_of c.loop-frame.book) c.loop-frame.plain fs) c.in-None.ensures.steps.0
    ∙ ap (λ (text : List ℕ). inv.done ++ text) (none_more c.args.output reply_of names (documents_of c.loop-frame.book) c.loop-frame.plain) ∙ append-nil inv.done in
    subst (Adds (g.K.Sink.written c.args.out.now) (g.K.Sink.written c.loop-frame.out)) (sym all) inv.told

pub returns-clause-front : goal.returns-clause-front
returns-clause-front g c =
    let inv = c.loop-frame.invariant in
    let reply_of = g.H.Handlers.reply_of in
    let names = c.args.book.now.names in
    let all : frames_text c.args.output reply_of names (documents_of c.args.book.now) c.args.plain.now (frames_of c.args.input.now) ≡ inv.done =
    inv.whole ∙ ap (λ (fs : List Frame). inv.done ++ frames_text c.args.output reply_of names (documents_of c.loop-frame.book) c.loop-frame.plain fs) c.in-None.ensures.steps.0
    ∙ ap (λ (text : List ℕ). inv.done ++ text) (none_more c.args.output reply_of names (documents_of c.loop-frame.book) c.loop-frame.plain) ∙ append-nil inv.done in
    subst (AddsFront (g.K.Sink.written c.args.out.now) (g.K.Sink.written c.loop-frame.out)) (sym all)
    (adds_whole (g.K.Sink.written c.args.out.now) (g.K.Sink.written c.loop-frame.out) inv.done inv.told)

pub returns-clause-passes : goal.returns-clause-passes
returns-clause-passes g c =
    let inv = c.loop-frame.invariant in
    let reply_of = g.H.Handlers.reply_of in
    let all : posts_from reply_of c.args.book.now.names (documents_of c.args.book.now) (frames_of c.args.input.now) ≡ inv.posts =
    inv.all ∙ ap (λ (fs : List Frame). inv.posts ++ posts_from reply_of c.args.book.now.names (documents_of c.loop-frame.book) fs) c.in-None.ensures.steps.0 ∙ append-nil inv.posts in
    subst (λ (posts : List Post). AllCanPass (passed_in reply_of c.args.plain.now posts)) (sym all) inv.passes

pub returns-clause-few : goal.returns-clause-few
returns-clause-few g c =
    let inv = c.loop-frame.invariant in
    let reply_of = g.H.Handlers.reply_of in
    let all : posts_from reply_of c.args.book.now.names (documents_of c.args.book.now) (frames_of c.args.input.now) ≡ inv.posts =
    inv.all ∙ ap (λ (fs : List Frame). inv.posts ++ posts_from reply_of c.args.book.now.names (documents_of c.loop-frame.book) fs) c.in-None.ensures.steps.0 ∙ append-nil inv.posts in
    let low : length inv.posts ≤ 2 ^ 48 = omega (arith, inv.behind.drawn, inv.early) in
    subst (λ (posts : List Post). length posts ≤ 2 ^ 48) (sym all) low
