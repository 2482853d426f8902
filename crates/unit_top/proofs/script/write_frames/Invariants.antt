use Rattle.std.proofs.Common.{◌≡◌, ◌+◌, ◌*◌, ◌^◌, ◌<◌, ◌++◌, ℕ, List, [], false, length}
use Rattle.conf_book.specs.Books.{documents_of}
use Rattle.plain_fabric.specs.Laws.{AllCanPass}
use Rattle.script_frames.specs.Frames.{frames_of}
use Rattle.script_frames.specs.Left.{frames_left}
use Rattle.unit_io.specs.Told.{Adds}
use Rattle.unit_top.specs.Posting.{IsBehind, Post, passed_in}
use Rattle.unit_top.specs.Scripts.{frames_text}
use Rattle.unit_top.specs.Trace.{posts_from}
use Rattle.unit_top.proofs.script.write_frames.Given as goal

abbrev pub invariant-loop-frame : goal.invariant-loop-frame
invariant-loop-frame g l = record {
  done : List ℕ;
  names : l.book.names ≡ l.fn.book.names;
  told : Adds (g.K.Sink.written l.fn.out) (g.K.Sink.written l.out) done;
  whole : frames_text l.fn.output g.H.Handlers.reply_of l.fn.book.names (documents_of l.fn.book) l.fn.plain (frames_of l.fn.input)
      ≡ done ++ frames_text l.fn.output g.H.Handlers.reply_of l.fn.book.names (documents_of l.book) l.plain (frames_left l.frame-iterator);
  posts : List Post;
  all : posts_from g.H.Handlers.reply_of l.fn.book.names (documents_of l.fn.book) (frames_of l.fn.input)
      ≡ posts ++ posts_from g.H.Handlers.reply_of l.fn.book.names (documents_of l.book) (frames_left l.frame-iterator);
  behind : IsBehind g.H.Handlers.reply_of posts l.fn.plain l.plain;
  passes : AllCanPass (passed_in g.H.Handlers.reply_of l.fn.plain posts);
  faults : g.K.Sink.faults l.out ≡ g.K.Sink.faults l.fn.out;
  sound : l.plain.failed ≡ false;
  bare : l.plain.trace ≡ [];
  early : l.plain.drawn + 1000 * length (frames_left l.frame-iterator) < 2 ^ 48;
}
