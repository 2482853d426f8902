-- All steps that a fabric on one thread has made, with those of one request more.
use Rattle.std.proofs.Common.{◌≡◌, ℕ, ◌+◌, ◌*◌, ◌≤◌, List, [], ◌∷◌, ◌++◌, length, sym, ap, subst, ◌∙◌, arith}
use Rattle.request_context.proofs.Lengths.{request_length}
use Rattle.request_context.specs.Record.{request_record}
use Rattle.request_context.specs.declared.asked.Asked.{Asked}
use Rattle.unit_types.specs.Handlers.{IsReply}
use Rattle.unit_types.specs.declared.message.Reply.{Reply}
use Rattle.unit_model.specs.Effects.{after_step}
use Rattle.unit_model.specs.Opening.{opened_core}
use Rattle.unit_model.specs.Running.{AllEnabled, after_steps}
use Rattle.unit_model.specs.declared.machine.Core.{Core}
use Rattle.unit_model.specs.declared.machine.Step.{Step}
use Rattle.unit_model.specs.declared.shape.Shape.{Shape}
use Rattle.plain_fabric.proofs.Carried.{few_parts, parts_count}
use Rattle.plain_fabric.proofs.Making.{after_parts}
use Rattle.plain_fabric.proofs.Traces.{opened}
use Rattle.plain_fabric.proofs.Visits.{answered, hung_up}
use Rattle.plain_fabric.specs.AtRest.{IsAtRest}
use Rattle.plain_fabric.specs.Laws.{CanPass, HasOnePair, IsEarly, LeadsToRest}
use Rattle.plain_fabric.specs.Plains.{HasMade, PlainValue, sizes_of}
use Rattle.plain_fabric.specs.Schedule.{Answered, HungUp, answered_steps, hung_up_steps}
use Rattle.plain_fabric.specs.Stepping.{IsShown, MakesAll}

enabled_both : (core : Core) (steps more : List Step) → AllEnabled core steps → AllEnabled (after_steps core steps) more → AllEnabled core (steps ++ more)
enabled_both core [] more first second = second
enabled_both core (step ∷ steps) more first second = (first.0, enabled_both (after_step core step) steps more first.1 second)

-- steps from rest to rest
made_more : (old new : PlainValue) (made steps : List Step) → HasMade old made → new.shape ≡ old.shape → MakesAll old.shape old.words new.words steps
    → LeadsToRest (after_steps (opened_core old.shape) made) steps new.drawn new.sent → HasMade new (made ++ steps)
made_more old new made steps has is makes leads =
    let first : Core = opened_core old.shape in
    let behind : after_steps (opened_core new.shape) (made ++ steps) ≡ after_steps (after_steps first made) steps =
    ap (λ (s : Shape). after_steps (opened_core s) (made ++ steps)) is ∙ after_parts first made steps in
    record {
      legal = subst (λ (s : Shape). AllEnabled (opened_core s) (made ++ steps)) (sym is) (enabled_both first made steps has.legal leads.0);
      shown = subst (IsShown new.shape new.words) (sym behind)
          (subst (λ (s : Shape). IsShown s new.words (after_steps (after_steps first made) steps)) (sym is) (makes (after_steps first made) has.shown leads.0));
      rest = subst (λ (c : Core). IsAtRest c new.drawn new.sent) (sym behind) leads.1;
    }

pub made_answered : (old new : PlainValue) (made : List Step) (size : ℕ) (sizes : List ℕ) → HasMade old made → IsEarly old.drawn old.sent → CanPass (Answered size sizes) → new.shape ≡ old.shape
    → new.drawn ≡ old.drawn + 1 → new.sent ≡ old.sent + length sizes → MakesAll old.shape old.words new.words (answered_steps old.shape old.drawn old.sent size sizes)
    → HasMade new (made ++ answered_steps old.shape old.drawn old.sent size sizes)
made_answered old new made size sizes has early can is drawn sent makes =
    let core : Core = after_steps (opened_core old.shape) made in
    let leads = answered core old.drawn old.sent size sizes has.rest early can in
    made_more old new made (answered_steps old.shape old.drawn old.sent size sizes) has is makes
    (subst (λ (s : Shape). LeadsToRest core (answered_steps s old.drawn old.sent size sizes) new.drawn new.sent) has.shown.shape_is
    (subst (λ (k : ℕ). LeadsToRest core (answered_steps core.shape old.drawn old.sent size sizes) k new.sent) (sym drawn)
    (subst (LeadsToRest core (answered_steps core.shape old.drawn old.sent size sizes) (old.drawn + 1)) (sym sent) leads)))

pub made_gone : (old new : PlainValue) (made : List Step) (size : ℕ) → HasMade old made → IsEarly old.drawn old.sent → CanPass (HungUp size) → new.shape ≡ old.shape
    → new.drawn ≡ old.drawn + 1 → new.sent ≡ old.sent → MakesAll old.shape old.words new.words (hung_up_steps old.shape old.drawn size)
    → HasMade new (made ++ hung_up_steps old.shape old.drawn size)
made_gone old new made size has early can is drawn sent makes =
    let core : Core = after_steps (opened_core old.shape) made in
    let leads = hung_up core old.drawn old.sent size has.rest early can in
    made_more old new made (hung_up_steps old.shape old.drawn size) has is makes
    (subst (λ (s : Shape). LeadsToRest core (hung_up_steps s old.drawn size) new.drawn new.sent) has.shown.shape_is
    (subst (λ (k : ℕ). LeadsToRest core (hung_up_steps core.shape old.drawn size) k new.sent) (sym drawn)
    (subst (LeadsToRest core (hung_up_steps core.shape old.drawn size) (old.drawn + 1)) (sym sent) leads)))

-- a fabric that was just made has made nothing
pub made_nothing : (new : PlainValue) → HasOnePair new.shape → IsShown new.shape new.words (opened_core new.shape) → new.drawn ≡ 0 → new.sent ≡ 0 → HasMade new []
made_nothing new plain shown drawn sent = record {
  legal = tt;
  shown = shown;
  rest = subst (λ (k : ℕ). IsAtRest (opened_core new.shape) k new.sent) (sym drawn) (subst (IsAtRest (opened_core new.shape) 0) (sym sent) (opened new.shape plain));
}

-- a record has some bytes
pub some_request : (asked : Asked) → 1 ≤ length (request_record asked)
some_request asked = omega (arith, request_length asked)

-- a reply has few parts
pub few_more : (reply : Reply) (drawn sent now : ℕ) → IsReply reply → sent ≤ 4096 * drawn → now ≡ sent + length (sizes_of reply) → now ≤ 4096 * (drawn + 1)
few_more reply drawn sent now is few more = omega (arith, few, more, parts_count reply, few_parts reply is)
