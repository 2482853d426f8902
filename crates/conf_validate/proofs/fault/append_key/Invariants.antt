use Rattle.std.proofs.Common.{◌≡◌, ◌++◌, drop}
use Rattle.std.specs.List.{flat_map}
use Rattle.conf_validate.specs.Valid.{key_byte}
use Rattle.conf_validate.proofs.fault.append_key.Given as goal

abbrev pub invariant-loop-byte : goal.invariant-loop-byte
invariant-loop-byte l = l.path.items ++ flat_map key_byte (drop l.byte-index l.key) ≡ l.fn.path.items ++ flat_map key_byte l.key
