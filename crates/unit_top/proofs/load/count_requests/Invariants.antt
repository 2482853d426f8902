use Rattle.std.proofs.Common.{◌≡◌, ◌+◌, ◌-◌, ◌*◌, ◌≤◌, [], false, codes, map}
use Rattle.conf_book.specs.Books.{documents_of}
use Rattle.script_frames.specs.Frames.{Connection}
use Rattle.unit_top.specs.Counting.{IsSmall, counted_with}
use Rattle.unit_top.specs.Load.{requests_from}
use Rattle.unit_top.proofs.load.count_requests.Given as goal

-- the counts so far and those of the requests that are left are those of all
abbrev pub invariant-loop : goal.invariant-loop
invariant-loop g l = record {
  names : l.book.names ≡ l.fn.book.names;
  whole : l.plain.failed ≡ false;
  bare : l.plain.trace ≡ [];
  early : l.plain.drawn ≤ 1000 * (l.counter + 1);
  few : l.summary.frames ≤ l.counter + 1;
  small : IsSmall l.summary;
  all : counted_with g.H.Handlers.reply_of l.fn.book.names (documents_of l.book) l.plain
      (map (Connection (codes "*:8080")) (requests_from (l.requests - l.counter) l.draws.state)) l.summary
      ≡ counted_with g.H.Handlers.reply_of l.fn.book.names (documents_of l.fn.book) l.fn.plain
      (map (Connection (codes "*:8080")) (requests_from l.requests l.seed)) l.fn.summary;
}
