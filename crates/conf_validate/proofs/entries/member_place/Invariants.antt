use Rattle.std.proofs.Common.{◌≡◌, drop, map}
use Rattle.conf_validate.specs.Entries.{entry_of}
use Rattle.conf_validate.specs.Table.{entries_of, place_among}
use Rattle.conf_validate.proofs.entries.member_place.Given as goal

abbrev pub invariant-loop-known : goal.invariant-loop-known
invariant-loop-known l = place_among l.name (entries_of l.fn.place) ≡ place_among l.name (map entry_of (drop l.known-index l.known-items))
