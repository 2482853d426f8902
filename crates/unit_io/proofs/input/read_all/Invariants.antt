use Rattle.std.proofs.Common.{length, ◌≡◌, ◌++◌, ◌<◌, ◌≤◌, ◌-◌, ℕ, List, Some}
use Rattle.unit_io.specs.Status.{input_limit}
use Rattle.unit_io.proofs.input.read_all.Given as goal

abbrev pub invariant-loop-n : goal.invariant-loop-n
invariant-loop-n g l = record {
  room : 0 < length l.buf.items;
  size : l.size ≡ length l.input;
  short : l.size ≤ input_limit;
  faults : g.S.Source.faults l.src ≡ g.S.Source.faults l.fn.src;
  told : (left : List ℕ) → g.S.Source.left l.fn.src ≡ Some left → (rest : List ℕ) × (left ≡ l.input ++ rest) × (g.S.Source.left l.src ≡ Some rest);
}

abbrev pub decreases-loop-n : goal.decreases-loop-n
decreases-loop-n g l = input_limit - l.size
