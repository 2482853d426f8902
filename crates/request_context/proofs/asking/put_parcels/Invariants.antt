use Rattle.std.proofs.Common.{◌≡◌, ◌++◌, take}
use Rattle.request_context.specs.Parcels.{joined}
use Rattle.request_context.proofs.asking.put_parcels.Given as goal

abbrev pub invariant-loop-parcel : goal.invariant-loop-parcel
invariant-loop-parcel g l = l.out.items ≡ l.fn.out.items ++ joined (take l.parcel-index l.parcels)
