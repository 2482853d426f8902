-- The parts that are left, when one is taken from the front.
use Rattle.std.proofs.Common.{◌≡◌, ℕ, ◌+◌, ◌-◌, ◌<◌, ◌≤◌, List, [], ◌∷◌, length, map, sym, ap, ◌∙◌, subst, arith}
use Rattle.std.specs.List.{range_with_len}
use Rattle.std.proofs.lemmas.List.{length-map}
use Rattle.std.proofs.lemmas.List.FromFn.{length-map-range_with_len}
use Rattle.unit_types.specs.declared.message.Reply.{Reply}
use Rattle.unit_types.specs.declared.message.Request.{Request}
use Rattle.request_context.specs.declared.asked.Asked.{Asked}
use Rattle.request_context.specs.Cutting.{part_count}
use Rattle.request_context.specs.Parcels.{PiecesValue, AreLeft, answers_of}
use Rattle.request_context.proofs.Lists.{split}

module _ {H : Type 0} (reply_of : List ℕ → Request → Reply) (asked : Asked) (next : ℕ) where
  -- how many are left
  pub left_count : (rest : List (PiecesValue H)) → AreLeft reply_of asked next rest → length rest ≡ part_count reply_of asked - next
  left_count rest left =
      sym (length-map rest (λ (p : PiecesValue H). p.parcels)) ∙ ap length left.parcels ∙ length-map-range_with_len (answers_of {H = H} reply_of asked) next (part_count reply_of asked - next)

  -- what the first one is
  pub record First (pieces : PiecesValue H) (rest : List (PiecesValue H)) : Type 0 where
    pub some : next < part_count reply_of asked
    pub parcels : pieces.parcels ≡ answers_of reply_of asked next
    pub left : AreLeft reply_of asked (next + 1) rest

  pub first_left : (all rest : List (PiecesValue H)) (pieces : PiecesValue H) → AreLeft reply_of asked next all → all ≡ pieces ∷ rest → First pieces rest
  first_left all rest pieces left e =
      let same : map (λ (p : PiecesValue H). p.parcels) (pieces ∷ rest) ≡ map (answers_of {H = H} reply_of asked) (range_with_len next (part_count reply_of asked - next)) = ap (map (λ (p : PiecesValue H). p.parcels)) (sym e) ∙ left.parcels in
      let parts = split (λ (p : PiecesValue H). p.parcels) (answers_of {H = H} reply_of asked) next (part_count reply_of asked - next) pieces rest same in
      let fewer : part_count reply_of asked - next - 1 ≡ part_count reply_of asked - (next + 1) = omega arith in
      record {
        some = omega (arith, parts.some);
        parcels = parts.first;
        left = record { parcels = rw (← fewer) parts.others; within = omega (arith, parts.some); few = left.few };
      }
