-- What the iterator over the bytes of an address has left to give.
use Rattle.std.specs.Prelude.{ℕ, List, take, drop}
use Rattle.path_normal.specs.declared.address.AddressBytes.{AddressBytes}

-- the text that is written
abbrev pub written : AddressBytes → List ℕ
written address = take address.end address.bytes

-- the bytes that are left to give
abbrev pub address_left : AddressBytes → List ℕ
address_left address = drop address.at (take address.end address.bytes)
