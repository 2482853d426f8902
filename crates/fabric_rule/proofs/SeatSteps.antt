-- Splits and joins, with what an account says.
use Rattle.std.proofs.Common.{ℕ, ◌≡◌, ◌≢◌, inl, inr, List, [], ◌∷◌, ◌++◌, set, refl, sym, ap, ◌∙◌, subst}
use Rattle.std.specs.Prelude.{Option}
use mathlib.Core.Option.{some}
use lib.ListN.{get_elem?}
use Rattle.std.proofs.lemmas.List.{set-get_or}
use Rattle.atomic_table.specs.Table.{Allows, Joins, Me, Splits, State, keeps}
use Rattle.atomic_table.proofs.Lists.{set_again, set_else, set_here}
use Rattle.app_queue.specs.SeatLaws.{halved, merged}
use Rattle.app_queue.proofs.ArmFrames.{is_there}
use Rattle.request_context.specs.declared.piece.Parcel.{Parcel}
use Rattle.unit_model.specs.declared.shape.Shape.{Shape}
use Rattle.unit_types.specs.declared.message.Reply.{Reply}
use Rattle.unit_types.specs.declared.message.Request.{Request}
use Rattle.fabric_rule.specs.Rule.{FabricHolds}
use Rattle.fabric_rule.specs.Seats.{IsJoined, IsParted, JoinLaw, MayBecome, SplitLaw, together}
use Rattle.fabric_rule.specs.Steps.{IsNoStep}
use Rattle.fabric_rule.specs.Views.{empty}
use Rattle.fabric_rule.specs.declared.view.FabricView.{FabricView}
use Rattle.fabric_rule.proofs.Accounting.{accounts}
use Rattle.fabric_rule.proofs.Cutting.{cuts}
use Rattle.fabric_rule.proofs.Joining.{joins}
use Rattle.fabric_rule.proofs.Sharing.{set_around, set_twice}

module _ {H : Type 0} (reply_of : List ℕ → Request → Reply) (shape : Shape) where
  -- the table with these views
  abbrev seen : State (Option (Parcel H)) FabricView → List FabricView → State (Option (Parcel H)) FabricView
  seen s views = record s { views = views }

  -- no step, twice
  twice : (s : State (Option (Parcel H)) FabricView) (holds : FabricHolds reply_of shape s) (one two : List FabricView) (first : IsNoStep reply_of shape s holds (seen s one)) → IsNoStep reply_of shape (seen s one) first.after (seen s two) → IsNoStep reply_of shape s holds (seen s two)
  twice s holds one two first second = record { after = second.after; is = second.is ∙ first.is }

  becomes : (s : State (Option (Parcel H)) FabricView) (holds : FabricHolds reply_of shape s) (id : ℕ) (v u : FabricView) → get_elem? s.views id ≡ some v → MayBecome v u → IsNoStep reply_of shape s holds (seen s (set s.views id u))
  becomes s holds id v u at (inl same) =
      let stays : IsNoStep reply_of shape s holds (seen s s.views) = record { after = holds; is = refl } in
      subst (λ (views : List FabricView). IsNoStep reply_of shape s holds (seen s views)) (sym (set_again s.views id v at) ∙ ap (set s.views id) (sym same)) stays
  becomes s holds id v u at (inr (a, c, is, may)) =
      subst (λ (y : FabricView). IsNoStep reply_of shape s holds (seen s (set s.views id y))) (sym is) (accounts reply_of shape s holds id v a c at may)

  splits : (s : State (Option (Parcel H)) FabricView) (holds : FabricHolds reply_of shape s) (id : ℕ) (v left right : FabricView) → get_elem? s.views id ≡ some v → IsParted v left right → IsNoStep reply_of shape s holds (seen s (halved s.views id left right))
  splits s holds id v left right at parted =
      let u : FabricView = parted.between in
      let one : List FabricView = set s.views id u in
      let first : IsNoStep reply_of shape s holds (seen s one) = becomes s holds id v u at parted.becomes in
      let second : IsNoStep reply_of shape (seen s one) first.after (seen s (halved one id left right)) = cuts reply_of shape (seen s one) first.after id u left right (set_here s.views id u (is_there s.views id v at)) parted.cut in
      subst (λ (views : List FabricView). IsNoStep reply_of shape s holds (seen s (views ++ right ∷ []))) (set_twice s.views id u left) (twice s holds one (halved one id left right) first second)

  joined : (s : State (Option (Parcel H)) FabricView) (holds : FabricHolds reply_of shape s) (id other : ℕ) (v w both : FabricView) → get_elem? s.views id ≡ some v → other ≢ id → get_elem? s.views other ≡ some w → IsJoined v w both
      → IsNoStep reply_of shape s holds (seen s (merged s.views id both other (empty shape)))
  joined s holds id other v w both at apart also is =
      let u : FabricView = together v w in
      let one : List FabricView = merged s.views id u other (empty shape) in
      let first : IsNoStep reply_of shape s holds (seen s one) = joins reply_of shape s holds id other v w at apart also is.may in
      let here : get_elem? one id ≡ some u = set_else (set s.views id u) other id (empty shape) (λ same. apart (sym same)) ∙ set_here s.views id u (is_there s.views id v at) in
      let second : IsNoStep reply_of shape (seen s one) first.after (seen s (set one id both)) = becomes (seen s one) first.after id u both here is.becomes in
      subst (λ (views : List FabricView). IsNoStep reply_of shape s holds (seen s views)) (set_around s.views id other u (empty shape) both apart) (twice s holds one (set one id both) first second)

pub split : (H : Type 0) → SplitLaw H
split H reply_of shape s holds id v left right at parted = splits reply_of shape s holds id v left right at parted

pub join : (H : Type 0) → JoinLaw H
join H reply_of shape s holds id other v w both at apart also is = joined reply_of shape s holds id other v w both at apart also is

-- ---- on the table

pub table_splits : (H : Type 0) (reply_of : List ℕ → Request → Reply) (shape : Shape) (id : ℕ) (v left right : FabricView) → IsParted v left right → Splits {S = Option (Parcel H)} (FabricHolds reply_of shape) id v left right
table_splits H reply_of shape id v left right parted s holds at = (splits reply_of shape s holds id v left right at parted).after

pub table_joins : (H : Type 0) (reply_of : List ℕ → Request → Reply) (shape : Shape) (id other : ℕ) (v w both spent : FabricView) → IsJoined v w both → spent ≡ empty shape → Joins {S = Option (Parcel H)} (FabricHolds reply_of shape) id v other w both spent
table_joins H reply_of shape id other v w both spent is is_spent s holds at apart there =
    subst (λ (y : FabricView). FabricHolds reply_of shape (record s { views = merged s.views id both other y })) (sym is_spent)
    (joined reply_of shape s holds id other v w both at apart (sym (set_else s.views id other both apart) ∙ there) is).after

pub table_accounts : (H : Type 0) (reply_of : List ℕ → Request → Reply) (shape : Shape) (slots id : ℕ) (me : Me (Option (Parcel H)) FabricView) (u : FabricView) → MayBecome me.0 u
    → Allows (FabricHolds reply_of shape) slots id me 0 (λ n. n) (λ n after. after ≡ (u, me.1))
table_accounts H reply_of shape slots id me u may s holds homes at fits = (
  u,
  keeps,
  tt,
  subst (λ (ws : List ℕ). FabricHolds reply_of shape (record { words = ws; homes = s.homes; views = set s.views id u })) (sym (set-get_or s.words 0 0)) (becomes reply_of shape s holds id me.0 u at may).after,
  refl,
)
