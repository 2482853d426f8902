use Rattle.std.proofs.Common.{List, get_or, ◌∷◌, [], ◌++◌, sym, ap, subst, ◌∙◌}
use Rattle.std.specs.Prelude.{None}
use Rattle.std.proofs.lemmas.Result.{on_ok_weaker}
use Rattle.unit_model.specs.declared.machine.Step.{Step}
use Rattle.unit_model.specs.declared.shape.Shape.{Shape}
use Rattle.plain_fabric.specs.Schedule.{settling, undoing}
use Rattle.plain_fabric.specs.Stepping.{AllPlaced}
use Rattle.plain_fabric.proofs.Making.{goes_both}
use Rattle.plain_fabric.proofs.Placed.{all_vacated, undoing_placed}
use Rattle.plain_fabric.proofs.store.Store.cancel.Goals as goal

pub act-requires-2-clause-placed : goal.act-requires-2-clause-placed
act-requires-2-clause-placed g c =
    let shape = c.args.self.now.layout.shape in
    let m = c.args.message.now in
    let second = c.as_slice.ensures.value ∙ c.in_ok-undo.ensures ∙ ap (λ (l : List Step). l ++ undoing c.shape-shape.result m) c.new-steps.ensures.items ∙ ap (λ (s : Shape). undoing s m) c.shape-shape.ensures in
    subst (λ (s : Shape). AllPlaced s c.as_slice.result.now) (sym c.act.ensures.shape)
    (subst (AllPlaced shape) (sym second) (undoing_placed shape m c.args.self.now.plain c.requires.can))

pub act-requires-2-clause-vacated : goal.act-requires-2-clause-vacated
act-requires-2-clause-vacated g c = all_vacated c.take_out.new.chunks.items c.in_ok-_pieces.ensures.empty c.as_slice.result.now

pub returns-clause-goes : goal.returns-clause-goes
returns-clause-goes g c =
    let shape = c.args.self.now.layout.shape in
    let m = c.args.message.now in
    let first = ap (λ (s : Step). s ∷ []) (c.settling.ensures ∙ ap (λ (s : Shape). settling s m) c.shape-shape.ensures) in
    let second = c.as_slice.ensures.value ∙ c.in_ok-undo.ensures ∙ ap (λ (l : List Step). l ++ undoing c.shape-shape.result m) c.new-steps.ensures.items ∙ ap (λ (s : Shape). undoing s m) c.shape-shape.ensures in
    on_ok_weaker c.act-2.result
    (λ goes. goes_both shape c.act.new.self.layout.shape c.args.self.now.words.items c.act.new.self.words.items c.act-2.new.self.words.items c.args.self.now.trace.items c.act.new.self.trace.items c.act-2.new.self.trace.items
    (c.settling.result ∷ []) c.as_slice.result.now (settling shape m ∷ []) (undoing shape m) c.act.ensures.shape c.in_ok-act.ensures.goes goes first second)
    c.act-2.ensures.goes

pub returns-clause-empty : goal.returns-clause-empty
returns-clause-empty g c =
    on_ok_weaker c.act-2.result (λ _goes number. ap (λ (l : List _). get_or l number None) c.act-2.ensures.chunks ∙ c.in_ok-_pieces.ensures.empty number) c.act-2.ensures.goes
