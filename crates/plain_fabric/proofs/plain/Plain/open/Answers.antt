use Rattle.std.proofs.Common.{false, refl, sym, subst}
use Rattle.unit_model.specs.Opening.{opened_core}
use Rattle.unit_model.specs.declared.shape.Shape.{Shape}
use Rattle.plain_fabric.specs.Plains.{PlainValue}
use Rattle.plain_fabric.specs.Stepping.{IsShown}
use Rattle.plain_fabric.proofs.Keeping.{made_nothing}
use Rattle.plain_fabric.proofs.plain.Plain.open.Goals as goal

pub returns-clause-made : goal.returns-clause-made
returns-clause-made g c =
    let store = c.in_ok-open.field-0 in
    let new : PlainValue = record { shape = store.layout.shape; words = store.words.items; trace = store.trace.items; drawn = 0; sent = 0; failed = false } in
    let shown : IsShown store.layout.shape store.words.items (opened_core store.layout.shape) = subst (λ (s : Shape). IsShown s store.words.items (opened_core s)) (sym c.in_ok-open.ensures.shape) c.in_ok-open.ensures.shown in
    made_nothing new store.plain shown refl refl
