use Rattle.std.proofs.Common.{ℕ, ◌*◌, ◌<◌, List, length, ap, ◌∙◌, arith}
use Rattle.request_context.specs.declared.piece.Parcel.TheVariants.{Ask}
use Rattle.request_context.specs.Parcels.{asks_of}
use Rattle.request_context.specs.Parts.{piece_size, stretch_of}
use Rattle.request_context.proofs.Asks.{asks_are}
use Rattle.request_context.proofs.Cuts.{begins_within}
use Rattle.request_context.proofs.Lists.{one_more}
use Rattle.request_context.proofs.asking.ask_pieces.Goals as goal

pub ask_piece-requires : goal.ask_piece-requires
ask_piece-requires g c =
    let within : piece_size * c.loop-index.index < length c.as_slice-bytes.result.now = begins_within piece_size c.as_slice-bytes.result.now c.loop-index.index (omega arith) (omega (arith, c.count_stretches-count.ensures, c.loop-index-test.true)) in
    omega (arith, within)

pub loop-index-preserved : goal.loop-index-preserved
loop-index-preserved g c = record {
  parcels = one_more (λ (i : ℕ). Ask (stretch_of piece_size c.as_slice-bytes.result.now i)) c.loop-index.index c.loop-index.pieces.parcels _ _ c.loop-index.invariant.parcels c.in_ok-ask_piece.ensures c.push.ensures.parcels;
  spare = omega (arith, c.loop-index.invariant.spare, c.push.ensures.spare);
}

pub returns : goal.returns
returns g c =
    asks_are c.as_slice-bytes.result.now c.loop-index.pieces.parcels c.loop-index.index (omega (arith, c.count_stretches-count.ensures, c.loop-index-test.false, c.loop-index.auto.index-end)) c.loop-index.invariant.parcels
    ∙ ap (λ (b : List ℕ). asks_of {H = g.row.H.Denot} b) c.as_slice-bytes.ensures
