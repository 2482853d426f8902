-- What the memory forms hold, and what each call makes of it. A call is known by its number, from 0.
use Rattle.std.specs.Prelude.{ℕ, ◌++◌, min, List, [], length, drop, slice_index_or}
use Rattle.unit_io.specs.Causes.{one_more}

-- a source over memory: what is still to come, the most that each read hands out, the numbers of the reads that
-- fail, and how many reads and faults there were
pub record Script : Type 0 where
  pub left : List ℕ
  pub pieces : List ℕ
  pub fail_at : List ℕ
  pub calls : ℕ
  pub faults : ℕ

-- a sink over memory: what was written, the numbers of the writes that fail, how many writes and faults there were, and
-- how many of the faults found no memory
pub record Tape : Type 0 where
  pub written : List ℕ
  pub fail_at : List ℕ
  pub calls : ℕ
  pub faults : ℕ
  pub unkept : ℕ

-- a source that was not read yet, and a sink to which nothing was written yet
abbrev pub unread : List ℕ → List ℕ → List ℕ → Script
unread content pieces fail_at = record {
  left = content;
  pieces = pieces;
  fail_at = fail_at;
  calls = 0;
  faults = 0;
}

abbrev pub unwritten : List ℕ → Tape
unwritten fail_at = record { written = []; fail_at = fail_at; calls = 0; faults = 0; unkept = 0 }

-- the most that the next read hands out; behind the last piece it is all that is left
abbrev pub piece_of : Script → ℕ
piece_of s = slice_index_or s.pieces s.calls (length s.left)

-- how many bytes the next read hands out into a buffer of that room, if it doesn't fail
abbrev pub handed_out : Script → ℕ → ℕ
handed_out s room = min room (min (piece_of s) (length s.left))

-- the source after a read of n bytes
abbrev pub after_read : Script → ℕ → Script
after_read s n = record s { left = drop n s.left; calls = one_more s.calls }

-- the source after a read that failed
abbrev pub after_failed_read : Script → Script
after_failed_read s = record s { calls = one_more s.calls; faults = one_more s.faults }

-- the sink after these were written
abbrev pub after_write : Tape → List ℕ → Tape
after_write t bytes = record t { written = t.written ++ bytes; calls = one_more t.calls }

-- the sink after a write that failed as it was told to
abbrev pub after_failed_write : Tape → Tape
after_failed_write t = record t { calls = one_more t.calls; faults = one_more t.faults }

-- the sink after a write that found no memory
abbrev pub after_unkept_write : Tape → Tape
after_unkept_write t = record (after_failed_write t) { unkept = one_more t.unkept }
