use Rattle.std.proofs.Common.{ℕ, ◌≡◌, ◌+◌, ◌*◌, ◌<◌, ◌∙◌, inl, inr, List, length, arith}
use Rattle.app_queue.proofs.FirstWords.{is_first}
use Rattle.app_queue.proofs.opening.fill.Goals as goal

pub returns : goal.returns
returns c =
    let n : ℕ = c.args.size in
    let ws : List ℕ = c.fill_line.new.words in
    let some : 0 < n = omega (arith, c.requires.size.0) in
    let wide : length ws ≡ 112 + 5 * n = omega arith in
    is_first n c.args.start ws some wide
    (λ value lt. c.fill_line.ensures.others _ (inl (omega arith)) ∙ c.fill_free.ensures.filled value lt)
    c.fill_line.ensures.filled
    (λ i low lt. c.fill_line.ensures.others i (inr low) ∙ c.fill_free.ensures.others i (inr (omega (arith, low))) ∙ c.requires.zero i lt)
