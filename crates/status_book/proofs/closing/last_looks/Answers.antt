use Rattle.std.proofs.Common.{ℕ, ◌≡◌, ◌<◌, List, length, slice_index, length-set, refl, ap, ◌∙◌, arith}
use Rattle.std.specs.Slots.{slots_items}
use Rattle.unit_model.proofs.LastWords.{word_read}
use Rattle.status_book.specs.Words.{word_at}
use Rattle.status_book.proofs.Readings.{empty_behind, filled_next, zeros}
use Rattle.status_book.proofs.closing.last_looks.Goals as goal

pub loop-place-init : goal.loop-place-init
loop-place-init c = (refl, λ q lt. absurd (omega arith), λ q le. zeros 32 q)

pub loop-place-preserved : goal.loop-place-preserved
loop-place-preserved c =
    let now = c.loop-place.invariant in
    let counts : List ℕ = c.loop-place.counts in
    let place : ℕ = c.loop-place.place in
    let words : List ℕ = slots_items c.args.closed.now.words in
    let lt : place < length counts = omega (arith, c.loop-place-test.true, now.0, c.requires.engines) in
    let read : c.word.result ≡ slice_index words (word_at place) = word_read words c.word_at.result c.word.result c.word.ensures ∙ ap (slice_index words) c.word_at.ensures in (
      length-set counts place c.word.result ∙ now.0,
      filled_next (λ (q : ℕ). slice_index words (word_at q)) counts place c.word.result lt now.1 read,
      empty_behind counts place c.word.result now.2,
    )
