use Rattle.std.proofs.Common.{List, ◌++◌, sym, ap, subst, ◌∙◌}
use Rattle.std.proofs.lemmas.Result.{on_ok_weaker}
use Rattle.unit_model.specs.declared.machine.Step.{Step}
use Rattle.unit_model.specs.declared.shape.Shape.{Shape}
use Rattle.unit_model.specs.Runs.{chunks_for}
use Rattle.unit_model.specs.Holding.{first_segment}
use Rattle.plain_fabric.specs.Contents.{AllVacated}
use Rattle.plain_fabric.specs.Schedule.{claims, posting, run_of_message}
use Rattle.plain_fabric.specs.Stepping.{AllPlaced}
use Rattle.plain_fabric.proofs.Making.{goes_both}
use Rattle.plain_fabric.proofs.Placed.{claims_placed, claims_vacated}
use Rattle.plain_fabric.proofs.store.Store.send.Goals as goal

pub act-requires-clause-placed : goal.act-requires-clause-placed
act-requires-clause-placed g c =
    let shape = c.args.self.now.layout.shape in
    let m = c.args.message.now in
    let run = c.run-run.ensures ∙ ap (λ (s : Shape). run_of_message s m) c.shape-shape.ensures in
    let steps = c.as_slice.ensures.value ∙ c.in_ok-claim.ensures ∙ ap (λ (l : List Step). l ++ claims m.from c.run-run.result) c.new-steps.ensures.items ∙ ap (claims m.from) run in
    subst (AllPlaced shape) (sym steps) (claims_placed shape m c.args.self.now.plain c.requires.can m.from)

pub act-requires-clause-vacated : goal.act-requires-clause-vacated
act-requires-clause-vacated g c =
    let m = c.args.message.now in
    let run = c.run-run.ensures ∙ ap (λ (s : Shape). run_of_message s m) c.shape-shape.ensures in
    let steps = c.as_slice.ensures.value ∙ c.in_ok-claim.ensures ∙ ap (λ (l : List Step). l ++ claims m.from c.run-run.result) c.new-steps.ensures.items ∙ ap (claims m.from) run in
    subst (AllVacated c.args.self.now.chunks.items) (sym steps) (claims_vacated c.args.self.now.chunks.items m.from (first_segment c.args.self.now.layout.shape m.queue) (chunks_for m.size) 0)

pub returns-clause-goes : goal.returns-clause-goes
returns-clause-goes g c =
    let shape = c.args.self.now.layout.shape in
    let m = c.args.message.now in
    let run = c.run-run.ensures ∙ ap (λ (s : Shape). run_of_message s m) c.shape-shape.ensures in
    let first = c.as_slice.ensures.value ∙ c.in_ok-claim.ensures ∙ ap (λ (l : List Step). l ++ claims m.from c.run-run.result) c.new-steps.ensures.items ∙ ap (claims m.from) run in
    let second = c.as_slice-2.ensures.value ∙ c.in_ok-post.ensures ∙ ap (λ (l : List Step). l ++ posting c.shape-shape.result m) c.new-steps-2.ensures.items ∙ ap (λ (s : Shape). posting s m) c.shape-shape.ensures in
    on_ok_weaker c.act-2.result
    (λ goes. goes_both shape c.act.new.self.layout.shape c.args.self.now.words.items c.act.new.self.words.items c.act-2.new.self.words.items c.args.self.now.trace.items c.act.new.self.trace.items c.act-2.new.self.trace.items
    c.as_slice.result.now c.as_slice-2.result.now (claims m.from (run_of_message shape m)) (posting shape m) c.act.ensures.shape c.in_ok-act.ensures.goes goes first second)
    c.act-2.ensures.goes
