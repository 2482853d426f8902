use Rattle.std.proofs.Common.{◌≡◌, drop, map}
use Rattle.conf_tree.specs.View.{map_data}
use Rattle.conf_validate.specs.Entries.{entry_of}
use Rattle.conf_validate.specs.Table.{entries_of}
use Rattle.conf_validate.specs.Valid.{has_required}
use Rattle.conf_validate.proofs.entries.has_required.Given as goal

abbrev pub invariant-loop-entry : goal.invariant-loop-entry
invariant-loop-entry l = has_required (entries_of l.fn.place) (map_data l.map) ≡ has_required (map entry_of (drop l.entry-index l.entry-items)) (map_data l.map)
