-- The account of a main seat that changes, and seats that are made one after another.
use Rattle.std.proofs.Common.{ℕ, ◌≡◌, ◌+◌, ◌-◌, ◌==◌, Bool, true, false, cond, ◌^◌, ◌≤◌, ◌∙◌, List, [], ◌∷◌, ◌++◌, map, inl, inr, refl, sym, subst, arith}
use Rattle.std.specs.List.{range_with_len}
use Rattle.std.proofs.lemmas.List.{map-append}
use Rattle.std.proofs.lemmas.List.FromFn.{map-range_with_len_more}
use Rattle.fabric_rule.specs.Opening.{ledger_of}
use Rattle.fabric_rule.specs.Seats.{Account, IsShared, MayAccount, MayBecome, accounted}
use Rattle.fabric_rule.specs.Views.{emptied_by}
use Rattle.fabric_rule.specs.declared.cause.Cause.TheVariants.{Worn}
use Rattle.fabric_rule.specs.declared.view.FabricView.{FabricView}
use Rattle.fabric_rule.specs.declared.view.HeldItem.{HeldItem}
use Rattle.fabric_rule.specs.declared.view.Work.{Work}
use Rattle.port_fabric.specs.States.{IsMainSeat, with_refusal}

-- ---- no stream is left

nothing : (b : Bool) → 0 ≡ cond {A = ℕ} b 0 0 + 0
nothing true = refl
nothing false = refl

module _ (place role number : ℕ) (v : FabricView) (main : IsMainSeat role number v) (worn : 2 ^ 62 ≤ place) where
  abbrev refusing : Account
  refusing = record {
    stay = [];
    ended = [];
    begun = 0;
    refused = (record { stream = 0; cause = Worn place }) ∷ [];
    items = [];
    gone = [];
    popped = [];
  }

  as_many : (ledger_of v).opened_works ≡ (ledger_of v).opened_works + 0 - 0
  as_many = omega arith

  is_accounted : with_refusal 0 (Worn place) v ≡ accounted refusing (ledger_of v) v
  is_accounted i = record v {
    ledgers = (record (ledger_of v) {
      refusals = (record { stream = 0; cause = Worn place }) ∷ (ledger_of v).refusals;
      opened_works = as_many i;
      popped = main.lists.nothing i;
    }) ∷ [];
    works = main.works i;
    items = main.items i;
  }

  may : MayAccount refusing (ledger_of v) v
  may = record {
    only = main.lists.only;
    number = main.lists.number;
    works = subst (λ (ws : List Work). IsShared ws [] []) (sym main.works) (refl, refl);
    may_end = tt;
    causes = ((worn, inl refl), tt);
    items = subst (λ (hs : List HeldItem). IsShared hs [] []) (sym main.items) (refl, refl);
    may_keep = tt;
    popped = inl (sym main.lists.nothing);
    idle = λ none. record { chunks = main.chunks; items = λ queue f. nothing (emptied_by v.shape (ledger_of v).seat == queue) };
  }

  pub may_be_refused : MayBecome v (with_refusal 0 (Worn place) v)
  may_be_refused = inr (refusing, ledger_of v, is_accounted, may)

-- ---- one seat more

pub one_more : {X Y : Type 0} (f : X → Y) (g : ℕ → Y) (xs : List X) (x : X) (from count j : ℕ)
    → map f xs ≡ map g (range_with_len from count) → from + count ≡ j → f x ≡ g j
    → map f (xs ++ x ∷ []) ≡ map g (range_with_len from (count + 1))
one_more f g xs x from count j before at is =
    map-append f xs (x ∷ [])
    ∙ (λ i. before i ++ is i ∷ [])
    ∙ sym (map-range_with_len_more g from count j at)
