use Rattle.std.proofs.Common.{◌≡◌, ◌++◌}
use Rattle.path_normal.specs.Value.{value_left}
use Rattle.path_normal.specs.Variables.{shown}
use Rattle.path_normal.proofs.expansion.append_value.Given as goal

abbrev pub invariant-loop-byte : goal.invariant-loop-byte
invariant-loop-byte l = l.out.items ++ shown l.escapes (value_left l.byte-iterator) ≡ l.fn.out.items ++ shown l.escapes (value_left l.fn.value)
