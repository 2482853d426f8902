use Rattle.std.proofs.Common.{ℕ, ◌+◌, ◌<◌, ◌∙◌, ap, sym, arith}
use Rattle.nncq_ring.specs.Words.{entry_of}
use Rattle.nncq_ring.proofs.Full.{full_high, full_low}
use Rattle.nncq_ring.proofs.opening.full_entry.Goals as goal

pub returns-then-slot-begin : goal.returns-then-slot-begin
returns-then-slot-begin c value lt is =
    let n : ℕ = c.args.size in
    let some : 0 < n = omega (arith, c.requires.0) in
    c.entry_behind.ensures ∙ ap (λ (v : ℕ). entry_of n (c.args.start + v) v) (sym (full_low n c.args.start c.args.slot value some c.if-slot-begin.true lt is))

pub returns-else-slot-begin : goal.returns-else-slot-begin
returns-else-slot-begin c value lt is =
    let n : ℕ = c.args.size in
    c.entry_behind-else-slot-begin.ensures ∙ ap (λ (v : ℕ). entry_of n (c.args.start + v) v) (sym (full_high n c.args.start c.args.slot value (omega (arith, c.if-slot-begin.false)) c.requires.0 lt is))
