-- The table of members as the code has it.
use Rattle.std.specs.Prelude.{ℕ, Bool, List}
use Rattle.std.specs.Borrow.{Bor}
use Rattle.conf_validate.specs.Table.{Entry}
use Rattle.conf_validate.specs.declared.place.Place.{Place}

-- a member: its name, the place of its value, and whether it has to be there
abbrev pub entry_of : Bor (List ℕ) × Place × Bool → Entry
entry_of e = record { name = e.0.now; place = e.1; required = e.2 }
