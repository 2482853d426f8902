use Rattle.std.proofs.Common.{◌≡◌, ⊎_elim, arith}
use Rattle.unit_model.proofs.Weights.{below_ones}
use Rattle.nncq_ring.specs.RingWords.{ring_words}
use Rattle.nncq_ring.specs.Views.{pops_of, pushes_of}
use Rattle.nncq_ring.specs.Words.{Words, logical_tail}
use Rattle.nncq_ring.proofs.Exchanges.{tail_cases}
use Rattle.nncq_ring.proofs.Sharing.{filled_once}
use Rattle.nncq_ring.proofs.rule_laws.a_ring_is_fresh_until_a_push.Goals as goal

pub returns : goal.returns
returns c key s holds nothing =
    let w : Words = ring_words 16 s.words in
    let filled = filled_once pushes_of pops_of key.0 key.1 w s.views holds.part.fine holds.moved holds.emptied (λ place. 1) in
    let last : logical_tail key.0 w ≡ key.1 = omega (arith, filled, nothing, below_ones key.1, below_ones (logical_tail key.0 w)) in
    record {
      head = omega (arith, holds.emptied (λ place. 1), below_ones key.1, below_ones w.head, holds.part.fine.front, last);
      tail = ⊎_elim (λ is. omega (arith, is, holds.begun.tail, last)) (λ is. omega (arith, is, holds.begun.tail, last)) (tail_cases key.0 w);
      entries = λ place lt near. ⊎_elim (λ is. is) (λ past. absurd (omega (arith, past, last, near))) (holds.begun.entries place lt near);
    }
