use Rattle.std.proofs.Common.{ℕ, ◌≡◌, ◌+◌, ◌<◌, ◌∙◌, ap, sym, subst, length, List, arith}
use Rattle.nncq_ring.specs.RingWords.{Fresh}
use Rattle.nncq_ring.proofs.Starts.{opens}
use Rattle.nncq_ring.proofs.ring.Ring.open.Goals as goal

pub of_words-requires : goal.of_words-requires
of_words-requires c =
    let n : ℕ = c.args.size in
    let words : List ℕ = c.as_slice.result.now in
    let same = c.as_slice.ensures.value in
    let some : 0 < n = omega (arith, c.requires.0) in
    let wide : length words ≡ n + 48 = ap length same ∙ c.in_ok-words.ensures.0 in
    opens n c.args.start words some c.requires.2 c.requires.3 wide (subst (Fresh n c.args.start 16) (sym same) c.in_ok-words.ensures.1)
