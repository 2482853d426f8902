use Rattle.std.proofs.Common.{◌≡◌, ◌∙◌, sym, ap, subst, refl, arith, length, drop, take}
use Rattle.std.proofs.Math.Seq.{take-length}
use Rattle.http_front.specs.Kept.{Kept, HasRead, came_in}
use Rattle.http_front.specs.Inside.{stage_at, kept_of}
use Rattle.http_front.proofs.KeptLemmas.{forgotten}
use Rattle.http_front.proofs.StageLemmas.{marked_read, marked_stage}
use Rattle.http_front.proofs.reader.Reader.mark.Goals as goal

pub returns-clause-marked : goal.returns-clause-marked
returns-clause-marked c r is =
    let i = c.self.inside in
    let came = c.came-came.ensures ∙ ap (λ (k : Kept). came_in k.stage) (sym c.self.view_is) in
    let stage = ap (λ came. stage_at came i.arriving) came ∙ marked_stage i.progress i.arriving in
    let read = subst (λ (k : Kept). HasRead r k) (sym c.self.view_is) (forgotten r c.args.self.now c.forget_arrived.new.self c.forget_arrived.ensures is) in
    let len : c.len.result ≡ length i.bytes.items = omega (arith, c.len.ensures, c.self.ranges) in
    let bytes = ap (λ n. drop i.used (take n i.bytes.items)) len ∙ ap (drop i.used) (take-length i.bytes.items) in
    marked_read r (kept_of i) _ bytes stage refl refl refl read
