-- What a main seat knows by its lists.
use Rattle.std.proofs.Common.{ℕ, ◌≡◌, ◌≤◌, List, ◌∷◌, [], refl, sym, ap, ◌∙◌, subst, arith}
use mathlib.Core.Option.{some}
use lib.ListN.{get_elem?}
use Rattle.unit_model.specs.Core.{role_of}
use Rattle.unit_model.specs.PartOrder.{Each}
use Rattle.unit_model.specs.Weights.{weigh, is_number}
use Rattle.unit_model.specs.declared.machine.Core.{Core}
use Rattle.unit_model.proofs.Weights.{is_number_same}
use Rattle.fabric_rule.specs.Parts.{IsTrueLedger, ListsShown, ShowsLists}
use Rattle.fabric_rule.specs.Steps.{IsMain}
use Rattle.fabric_rule.specs.Views.{lists_at}
use Rattle.fabric_rule.specs.declared.view.Ledger.{Ledger}
use Rattle.fabric_rule.specs.declared.view.FabricView.{FabricView}

module _ (core : Core) (popped : ℕ → List ℕ) (views : List FabricView) (id : ℕ) (v : FabricView) (c : Ledger) (at : get_elem? views id ≡ some v) where
  pub own_ledger : v.ledgers ≡ c ∷ [] → ListsShown core popped views → IsTrueLedger core popped c
  own_ledger only lists =
      let once : 1 ≤ lists_at c.seat v = omega (arith, ap (weigh (λ (d : Ledger). is_number c.seat d.seat)) only, is_number_same c.seat) in
      let shown : ShowsLists core popped c.seat v = lists.each c.seat id v at once in
      (subst (λ (cs : List Ledger). Each (λ (d : Ledger). d.seat ≡ c.seat → IsTrueLedger core popped d) cs) only shown).0 refl

  -- an engine's has what the engine popped
  pub own_popped : IsMain v c → role_of core v.seat ≡ 0 → ListsShown core popped views → popped v.seat ≡ c.popped
  own_popped main engine lists = sym (ap popped main.number) ∙ (own_ledger main.only lists).popped_item (ap (role_of core) main.number ∙ engine)
