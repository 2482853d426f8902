use Rattle.std.proofs.Common.{◌≡◌, ◌∙◌, true, ap, sym, subst}
use Rattle.std.specs.Prelude.{Option, None, is_some}
use Rattle.trace_check.specs.Bytes.{after_bytes}
use Rattle.trace_check.specs.Reading.{Stands}
use Rattle.trace_check.specs.Verdicts.{Standing, standing_of}
use Rattle.trace_check.specs.declared.verdict.Verdict.{Verdict}
use Rattle.trace_check.proofs.LineByLine.{standing_more}
use Rattle.trace_check.proofs.Stood.{not_some, settled_now, still_going}
use Rattle.trace_check.proofs.reading.Reading.go_on.Goals as goal

pub returns-then-is_some-clause-stands : goal.returns-then-is_some-clause-stands
returns-then-is_some-clause-stands c = λ bytes stands.
    let P : Standing → Type 0 = λ s. Stands s c.args.verdict c.args.self.now in
    let some : is_some c.args.verdict ≡ true = sym c.is_some.ensures ∙ c.if-is_some.true in
    subst P (sym (standing_more bytes c.args.piece.now)) (settled_now (standing_of bytes) c.args.piece.now c.args.verdict c.args.self.now some stands)

pub returns-clause-stands : goal.returns-clause-stands
returns-clause-stands c = λ bytes stands.
    let none : c.args.verdict ≡ None = not_some c.args.verdict (sym c.if-is_some.ensures) in
    let Q : Option Verdict → Type 0 = λ v. Stands (standing_of bytes) v c.args.self.now in
    let now = still_going (standing_of bytes) c.args.self.now (subst Q none stands) in
    let P : Standing → Type 0 = λ s. Stands s c.in_ok-after.after c.take.new.self in
    let same = standing_more bytes c.args.piece.now ∙ ap (λ s. after_bytes s c.args.piece.now) now.2 in
    subst P (sym same) (c.in_ok-after.ensures.stands now.0 now.1 now.3)
