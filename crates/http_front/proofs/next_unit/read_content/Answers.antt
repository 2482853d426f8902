use Rattle.std.proofs.Common.{◌∙◌, refl, sym, ap, subst, drop, arith, length-drop}
use Rattle.http_front.specs.declared.next_unit.Ahead.{Ahead}
use Rattle.http_front.specs.Framing.{framing_of}
use Rattle.http_front.specs.Progress.{TellsContent}
use Rattle.http_front.proofs.ArrivingLemmas.{end_within, told_opens, tells_opens}
use Rattle.http_front.proofs.next_unit.read_content.Goals as goal

pub content_step-requires-clause-fits : goal.content_step-requires-clause-fits
content_step-requires-clause-fits c =
    let rest = c.args.rest.now in
    let within = end_within c.decode.new.self.framing (drop c.decode.new.used rest) c.in_ok-end.end c.in_ok-end.ensures.end in
    omega (arith, c.requires.fits, within, c.decode.ensures.decodes.within, length-drop c.decode.new.used rest)

pub returns-clause-told : goal.returns-clause-told
returns-clause-told c =
    let framing = c.in-Some.ensures.is ∙ ap (framing_of c.args.max_body) c.as_slice.ensures in
    c.content_step.ensures.told
    ∙ told_opens c.args.max_body c.args.request _ c.decode.new.self c.args.used c.args.rest.now c.decode.new.used c.args.ended c.in_ok-end.end c.decode.ensures.decodes refl framing c.new.ensures.items c.in_ok-end.ensures.end

pub returns-clause-ahead : goal.returns-clause-ahead
returns-clause-ahead c =
    let framing = c.in-Some.ensures.is ∙ ap (framing_of c.args.max_body) c.as_slice.ensures in
    subst (λ (a : Ahead). TellsContent a c.args.used c.args.rest.now c.args.max_body c.args.request) (sym c.content_step.ensures.ahead)
    (tells_opens c.args.max_body c.args.request _ c.decode.new.self c.args.used c.args.rest.now c.decode.new.used c.in_ok-end.end c.decode.ensures.decodes refl framing c.new.ensures.items)
