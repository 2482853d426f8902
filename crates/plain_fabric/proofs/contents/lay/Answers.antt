use Rattle.std.proofs.Common.{◌+◌, ◌++◌, length, List, sym, ap, ◌∙◌, arith}
use Rattle.std.specs.Prelude.{Some}
use Rattle.std.proofs.lemmas.List.{length-set}
use Rattle.plain_fabric.specs.Contents.{held_from}
use Rattle.plain_fabric.proofs.Laying.{beside_more, laid_more}
use Rattle.plain_fabric.proofs.contents.lay.Goals as goal

pub loop-index-preserved : goal.loop-index-preserved
loop-index-preserved g c =
    let first = c.args.first in
    let index = c.loop-index.index in
    let chunks = c.loop-index.chunks.items in
    let parcel = c.in-Some.parcel in
    let popped = c.in-Some.ensures.0 in
    record {
      laid = laid_more chunks first index parcel c.pop.new.self.parcels c.args.pieces.parcels (omega (arith, c.requires.room, c.loop-index.invariant.long, c.loop-index-test.true, c.len-index-end.ensures))
          (ap (λ (left : List _). held_from chunks first index ++ left) (sym popped) ∙ c.loop-index.invariant.laid);
      count = omega (arith, c.loop-index.invariant.count, ap length popped);
      beside = beside_more chunks first index (Some parcel) c.loop-index.invariant.beside;
      long = length-set chunks (first + index) (Some parcel) ∙ c.loop-index.invariant.long;
    }
