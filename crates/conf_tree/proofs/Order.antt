-- The order of names, seen from the other name.
use Rattle.std.proofs.Common.{◌≡◌, ℕ, List}
use Rattle.std.proofs.lemmas.Cmp.{nat_list_cmp_total}
use Rattle.std.specs.Cmp.Lexicographic.{slice_cmp}
use Rattle.std.specs.Ordering.{nat_cmp, ordering_reverse}

pub turned : (k l : List ℕ) → slice_cmp nat_cmp k l ≡ ordering_reverse (slice_cmp nat_cmp l k)
turned k l = nat_list_cmp_total.antisymm k l
