use Rattle.std.proofs.Common.{◌-◌, length}
use Rattle.http_front.specs.Progress.{IsSearched}
use Rattle.http_front.proofs.search.search_on.Given as goal

abbrev pub invariant-loop-len : goal.invariant-loop-len
invariant-loop-len l = IsSearched l.search l.bytes

abbrev pub decreases-loop-len : goal.decreases-loop-len
decreases-loop-len l = length l.bytes - l.search.searched
