use Rattle.std.proofs.Common.{◌≡◌, ◌-◌, ◌^◌, length, min, take}
use Rattle.request_context.specs.Parcels.{joined}
use Rattle.plain_fabric.proofs.carrying.size_of_parcels.Given as goal

abbrev pub invariant-loop-parcel : goal.invariant-loop-parcel
invariant-loop-parcel g l = l.size ≡ min (length (joined (take l.parcel-index l.parcels))) (2 ^ 64 - 1)
