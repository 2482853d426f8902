-- The parcels of a request record.
use Rattle.std.proofs.Common.{◌≡◌, ℕ, List, map, sym, ap, ◌∙◌}
use Rattle.std.specs.List.{range_with_len}
use Rattle.std.proofs.lemmas.Simd.{map-map}
use Rattle.request_context.specs.declared.piece.Parcel.{Parcel}
use Rattle.request_context.specs.declared.piece.Parcel.TheVariants.{Ask}
use Rattle.request_context.specs.Parcels.{asks_of}
use Rattle.request_context.specs.Parts.{piece_size, stretch_count, stretch_of, stretches_of}

pub asks_are : {H : Type 0} (bytes : List ℕ) (parcels : List (Parcel H)) (n : ℕ) → n ≡ stretch_count piece_size bytes → parcels ≡ map (λ (i : ℕ). Ask (stretch_of piece_size bytes i)) (range_with_len 0 n) → parcels ≡ asks_of {H = H} bytes
unfolding stretches_of
asks_are {H = H} bytes parcels n count are =
    let make : List ℕ → Parcel H = λ (b : List ℕ). Ask b in
    are ∙ ap (λ (k : ℕ). map (λ (i : ℕ). make (stretch_of piece_size bytes i)) (range_with_len 0 k)) count
    ∙ sym (map-map make (stretch_of piece_size bytes) (range_with_len 0 (stretch_count piece_size bytes)))
