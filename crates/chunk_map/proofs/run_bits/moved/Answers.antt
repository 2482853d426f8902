use Rattle.std.proofs.Common.{ℕ, ◌+◌, ◌-◌, ◌*◌, ◌/◌, ◌%◌, ◌^◌, ◌∙◌, ap, slice_index}
use Rattle.std.specs.Prelude.{bit_or}
use Rattle.std.specs.Int.{bit_at}
use Rattle.chunk_map.proofs.BitLists.{moved_part}
use Rattle.chunk_map.proofs.run_bits.moved.Goals as goal

pub returns : goal.returns
returns c bit lt =
    let words = c.args.words.now in
    let by = c.args.by in
    ap (λ (low : ℕ). bit_at (bit_or (low / 2 ^ (by % 64)) (c.word_at-high.result * 2 ^ (64 - by % 64) % 2 ^ 64)) bit) c.word_at-low.ensures
    ∙ ap (λ (high : ℕ). bit_at (bit_or (slice_index words (c.args.number + by / 64) / 2 ^ (by % 64)) (high * 2 ^ (64 - by % 64) % 2 ^ 64)) bit) c.word_at-high.ensures
    ∙ moved_part words by c.args.number bit (c.fits-words (c.args.number + by / 64)) c.if-shift-eq0.false lt
