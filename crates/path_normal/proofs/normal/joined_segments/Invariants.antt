use Rattle.std.proofs.Common.{◌≡◌, List, ℕ, All, Option, None, fold}
use Rattle.std.specs.List.{last_or}
use Rattle.path_normal.specs.Cut.{parts_behind}
use Rattle.path_normal.specs.Path.{HasNoSlash, joined, left_with, segments_left, segments_of, ends_open}
use Rattle.path_normal.proofs.PathLemmas.{text_length}
use Rattle.path_normal.proofs.normal.joined_segments.Given as goal

abbrev pub invariant-loop-rest : goal.invariant-loop-rest
invariant-loop-rest l = record {
  left : (left : List (List ℕ)) × All HasNoSlash left × (l.path.items ≡ joined left) × (fold left_with left (parts_behind 47 l.rest) ≡ segments_left (segments_of l.decoded));
  last : (last : Option (List ℕ)) × (l.is_open ≡ ends_open last) × (last_or last (parts_behind 47 l.rest) ≡ last_or None (segments_of l.decoded));
}

abbrev pub decreases-loop-rest : goal.decreases-loop-rest
decreases-loop-rest l = text_length l.rest
