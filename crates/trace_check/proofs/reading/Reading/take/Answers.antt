use Rattle.std.proofs.Common.{◌≡◌, ◌∙◌, ◌+◌, ◌<◌, ◌≤◌, ℕ, true, length, drop, get_or, refl, ap, sym, subst, arith}
use Rattle.std.specs.Prelude.{Option, None, is_some}
use Rattle.trace_check.specs.Bytes.{after_byte, after_bytes}
use Rattle.trace_check.specs.Counted.{IsCounted}
use Rattle.trace_check.specs.Reading.{Stands}
use Rattle.trace_check.specs.Verdicts.{Standing, going}
use Rattle.trace_check.specs.declared.verdict.Verdict.{Verdict}
use Rattle.trace_check.proofs.Stood.{next_byte, no_byte, not_some, settled_now, still_going}
use Rattle.trace_check.proofs.reading.Reading.take.Goals as goal

pub returns-then-is_some-clause-stands : goal.returns-then-is_some-clause-stands
returns-then-is_some-clause-stands c = λ at text follows.
    let before = c.loop-byte.invariant.stands at text follows in
    let i = c.loop-byte.byte-index in
    let bytes = c.args.piece.now in
    let within : i < length bytes = omega arith in
    let byte = get_or bytes i 0 in
    let whole : after_bytes (going at text) bytes ≡ after_bytes (after_byte (going before.0 before.1) byte) (drop (i + 1) bytes) =
    before.3 ∙ ap (after_bytes (going before.0 before.1)) (next_byte bytes i within) in
    let some : is_some c.in_ok-verdict.verdict ≡ true = sym c.if-is_some.ensures in
    let now = settled_now (after_byte (going before.0 before.1) byte) (drop (i + 1) bytes) c.in_ok-verdict.verdict c.take_byte.new.self some
    (c.in_ok-verdict.ensures.stands before.0 before.1 before.2) in
    let P : Standing → Type 0 = λ s. Stands s c.in_ok-verdict.verdict c.take_byte.new.self in
    subst P (sym whole) now

pub loop-byte-preserved : goal.loop-byte-preserved
loop-byte-preserved c = record {
  counted = λ bytes counted.
      let i = c.loop-byte.byte-index in
      let P : ℕ → Type 0 = IsCounted c.take_byte.new.self in
      let same : (bytes + i) + 1 ≡ bytes + (i + 1) = omega arith in
      subst P same (c.take_byte.ensures.counted (bytes + i) (c.loop-byte.invariant.counted bytes counted));
  stands = λ at text follows.
      let before = c.loop-byte.invariant.stands at text follows in
      let i = c.loop-byte.byte-index in
      let bytes = c.args.piece.now in
      let within : i < length bytes = omega arith in
      let byte = get_or bytes i 0 in
      let none : c.in_ok-verdict.verdict ≡ None = not_some c.in_ok-verdict.verdict (sym c.if-is_some.ensures) in
      let P : Option Verdict → Type 0 = λ v. Stands (after_byte (going before.0 before.1) byte) v c.take_byte.new.self in
      let now = still_going (after_byte (going before.0 before.1) byte) c.take_byte.new.self (subst P none (c.in_ok-verdict.ensures.stands before.0 before.1 before.2)) in (
        now.0,
        now.1,
        now.3,
        before.3 ∙ ap (after_bytes (going before.0 before.1)) (next_byte bytes i within) ∙ ap (λ s. after_bytes s (drop (i + 1) bytes)) now.2,
      );
}

pub returns-clause-stands : goal.returns-clause-stands
returns-clause-stands c = λ at text follows.
    let before = c.loop-byte.invariant.stands at text follows in
    let i = c.loop-byte.byte-index in
    let bytes = c.args.piece.now in
    let past : length bytes ≤ i = omega arith in
    let P : Standing → Type 0 = λ s. Stands s None c.loop-byte.self in
    subst P (sym (before.3 ∙ no_byte (going before.0 before.1) bytes i past)) (refl, before.2)
