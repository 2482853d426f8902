use Rattle.std.proofs.Common.{◌≡◌, List, ℕ, ◌++◌, vec_len}
use Rattle.path_normal.specs.Path.{HasNoSlash}
use Rattle.path_normal.proofs.normal.drop_segment.Given as goal

abbrev pub invariant-loop-byte : goal.invariant-loop-byte
invariant-loop-byte l = (dropped : List ℕ) × HasNoSlash dropped × (l.fn.path.items ≡ l.path.items ++ dropped)

abbrev pub decreases-loop-byte : goal.decreases-loop-byte
decreases-loop-byte l = vec_len l.path
