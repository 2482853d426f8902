-- What tests know of their seats.
use Rattle.std.proofs.Common.{ℕ, ◌≡◌, ◌==◌, inl, Bool, true, false, cond, IfSome, List, Some, None, refl, sym, ap, ◌∙◌, subst}
use Rattle.std.specs.Prelude.{Option}
use Rattle.fabric_rule.specs.Seats.{MayJoin, handed, without_works, works_of}
use Rattle.fabric_rule.specs.Settling.{HasPost}
use Rattle.fabric_rule.specs.TestViews.{noted_request, with_a_request}
use Rattle.fabric_rule.specs.declared.view.FabricView.{FabricView}

-- the tag of an item that was popped isn't known
unsaid : (b : Bool) (stream : ℕ) → cond {A = Option ℕ} b None None ≡ Some stream → ⊥
unsaid true stream said = absurd (cc said)
unsaid false stream said = absurd (cc said)

joined : MayJoin (works_of (handed noted_request)) (without_works (handed noted_request))
joined = record { chunks = refl; items = refl; works = inl refl; posts = λ item stream held said. absurd (unsaid (0 == item) stream said) }

pub may_hold : (state main v : FabricView) → v ≡ noted_request → state ≡ works_of (handed v) → main ≡ without_works (handed v) → MayJoin state main
may_hold state main v is state_is main_is =
    subst (λ (s : FabricView). MayJoin s main) (sym (state_is ∙ ap (λ (y : FabricView). works_of (handed y)) is))
    (subst (MayJoin (works_of (handed noted_request))) (sym (main_is ∙ ap (λ (y : FabricView). without_works (handed y)) is)) joined)

-- a request that tests post is one that may be cancelled
pub its_post : (text : List ℕ) → HasPost (with_a_request text) 0 1 77
its_post text = record {
  arm = record { item = 0; place = 8; stream = 1; run = 77; part = 0 };
  place = 0;
  there = refl;
  of_item = refl;
  of_stream = refl;
  of_run = refl;
}

-- where there is a result, more is so of it
pub then_some : {A : Type 0} {P Q : A → Type 0} (o : Option A) → ((x : A) → P x → Q x) → IfSome o P → IfSome o Q
then_some None gives old = tt
then_some (Some x) gives old = gives x old
