-- The bytes of a slice, one by one.
use Rattle.std.specs.Prelude.{ℕ, List}
use Rattle.unit_types.specs.declared.slice.SliceBytes.{SliceBytes}

-- the bytes that are left to give
abbrev pub bytes_left : SliceBytes → List ℕ
bytes_left bytes = bytes.rest.now
