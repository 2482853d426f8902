use Rattle.std.proofs.Common.{◌≡◌, ◌∙◌, sym, ap, subst, ℕ, List, true, Option, Some}
use Rattle.http_front.specs.declared.arriving.Arriving.{Arriving}
use Rattle.http_front.specs.Arriving.{Decodes}
use Rattle.http_front.specs.Kept.{Kept, HasRead, marked, is_arriving}
use Rattle.http_front.specs.Inside.{stage_of, stage_at, mark_of, kept_of, IsThere}
use Rattle.http_front.proofs.StageLemmas.{stage_decoded, came_stays}
use Rattle.http_front.proofs.reader.Reader.decode.Goals as goal

pub returns-clause-read : goal.returns-clause-read
returns-clause-read c r is =
    let i = c.self.inside in
    let items = i.bytes.items in
    let a = c.in-Some.arriving in
    let new = c.decode.new.self in
    let decodes = subst (λ (ys : List ℕ). Decodes a new ys i.used c.decode.new.used) c.deref.ensures.value c.decode.ensures.decodes in
    let arrives = subst (λ (o : Option Arriving). is_arriving (stage_of i.progress o) ≡ true) c.in-Some.is (ap (λ (k : Kept). is_arriving k.stage) c.self.view_is ∙ c.requires) in
    let read = subst (λ (o : Option Arriving). HasRead r (record (kept_of i) { stage = stage_of i.progress o })) c.in-Some.is (subst (λ (k : Kept). HasRead r k) (sym c.self.view_is) is) in
    stage_decoded r (kept_of i) (mark_of items (Some new) i.mark) i.progress a new items i.used c.decode.new.used decodes arrives read

pub returns-clause-marked : goal.returns-clause-marked
returns-clause-marked c =
    let i = c.self.inside in
    let a = c.in-Some.arriving in
    let new = c.decode.new.self in
    let decodes = subst (λ (ys : List ℕ). Decodes a new ys i.used c.decode.new.used) c.deref.ensures.value c.decode.ensures.decodes in
    let there = subst (λ (o : Option Arriving). IsThere i.mark.came o) c.in-Some.is c.self.invariant.there in
    let stage = came_stays i.mark.came a new i.bytes.items i.used c.decode.new.used decodes there ∙ ap (stage_at i.mark.came) (sym c.in-Some.is) in
    ap (λ s. marked (record (kept_of i) { mark = record (mark_of i.bytes.items i.arriving i.mark) { stage = s } })) stage ∙ ap marked c.self.view_is
