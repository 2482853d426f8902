use Rattle.std.proofs.Common.{◌≡◌, ◌+◌, ◌++◌, ◌≤◌, List, map}
use Rattle.conf_validate.specs.Current.{numbered}
use Rattle.conn_machine.specs.Asks.{asks_of}
use Rattle.conn_machine.specs.Shows.{IsAfter}
use Rattle.unit_top.specs.Connections.{IsServing, connection_at}
use Rattle.unit_top.specs.Posting.{Asked, Asking, HasPosted, Post}
use Rattle.unit_top.proofs.connection.connection_output.Given as goal

-- what was asked so far went through the fabric, and the rest is left
abbrev pub invariant-loop-out : goal.invariant-loop-out
invariant-loop-out g l =
    let c = connection_at g.H.Handlers.reply_of l.fn.arrived.listener l.fn.arrived.port in
    let current = numbered l.fn.conf in
    record {
      done : List Post;
      left : List Asking;
      all : map Asked (asks_of c current.1 l.fn.arrived.bytes) ≡ done ++ map Asked left;
      posted : HasPosted l.fn.output g.H.Handlers.reply_of done l.fn.plain l.plain;
      serving : IsServing g.H.Handlers.reply_of c current l.fn.arrived.bytes l.out left l.machine;
      after : IsAfter l.machine.met current;
      few : l.plain.drawn + l.machine.left ≤ l.fn.plain.drawn + 1000;
    }

-- each reply leaves fewer requests that may come
abbrev pub decreases-loop-out : goal.decreases-loop-out
decreases-loop-out g l = l.machine.left
