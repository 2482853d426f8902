use Rattle.std.proofs.Common.{⊎_elim, arith}
use Rattle.std.proofs.lemmas.Bool.{cases_lt}
use Rattle.chunk_map.proofs.BitLists.{none_left, first_left}
use Rattle.chunk_map.proofs.run_bits.first_from.Goals as goal

pub returns-then-rest-ne0-clause-some : goal.returns-then-rest-ne0-clause-some
returns-then-rest-ne0-clause-some c =
    let now = c.loop-at.invariant in
    let first = first_left c.args.words.now c.loop-at.at c.word_at-word.result c.word_at-word.ensures c.word_at-word.type_inv c.loop-at-test.true c.if-rest-ne0.true in (
      omega (arith, now.0),
      first.0,
      first.1,
      λ place from before. ⊎_elim (λ earlier. now.1 place from earlier) (λ later. first.2 place later before) (cases_lt place c.loop-at.at),
    )

pub loop-at-preserved : goal.loop-at-preserved
loop-at-preserved c =
    let now = c.loop-at.invariant in (
      omega (arith, now.0),
      λ place from before. ⊎_elim (λ earlier. now.1 place from earlier) (λ later. none_left c.args.words.now c.loop-at.at c.word_at-word.result c.word_at-word.ensures c.word_at-word.type_inv c.if-rest-ne0.false place later before) (cases_lt place c.loop-at.at),
    )
