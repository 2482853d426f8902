use Rattle.std.proofs.Common.{◌∙◌, ◌++◌, refl, sym, ap, length, take, arith, length-drop}
use Rattle.std.proofs.Math.Seq.{take-length}
use Rattle.http_front.proofs.ArrivingLemmas.{decodes_nothing, decodes_length}
use Rattle.http_front.proofs.arriving.Arriving.decode_length.Goals as goal

pub returns-in_err-extend_from_slice-clause-decodes : goal.returns-in_err-extend_from_slice-clause-decodes
returns-in_err-extend_from_slice-clause-decodes c =
    decodes_nothing c.args.self.now _ c.args.bytes.now c.args.used.now c.requires.within refl refl c.in_err-extend_from_slice.ensures.items

pub returns-in_err-extend_from_slice-2-clause-decodes : goal.returns-in_err-extend_from_slice-2-clause-decodes
returns-in_err-extend_from_slice-2-clause-decodes c =
    decodes_nothing c.args.self.now _ c.args.bytes.now c.args.used.now c.requires.within refl refl c.in_err-extend_from_slice-2.ensures.items

pub returns-in_ok-extend_from_slice-2-clause-decodes : goal.returns-in_ok-extend_from_slice-2-clause-decodes
returns-in_ok-extend_from_slice-2-clause-decodes c =
    let rest = c.behind-rest.result.now in
    let is = c.behind-rest.ensures in
    let size = length-drop c.args.used.now c.args.bytes.now in
    let len = ap (λ ys. length ys) is in
    let text = sym (take-length rest) ∙ ap (take (length rest)) is in
    decodes_length c.args.self.now _ c.args.bytes.now c.args.used.now (length rest) c.args.left
    (omega (arith, c.requires.within, size, len)) (omega (arith, c.if-left-rest.false)) c.requires.framing refl refl
    (c.in_ok-extend_from_slice-2.ensures.items ∙ ap (λ came. c.args.self.now.content.items ++ came) text)
