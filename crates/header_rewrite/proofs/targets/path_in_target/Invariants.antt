use Rattle.std.proofs.Common.{◌≡◌, take}
use Rattle.header_rewrite.specs.Rewrite.{path_in_target}
use Rattle.header_rewrite.proofs.targets.path_in_target.Given as goal

abbrev pub invariant-loop-byte : goal.invariant-loop-byte
invariant-loop-byte l = l.text.items ≡ path_in_target (take l.byte-index l.path)
