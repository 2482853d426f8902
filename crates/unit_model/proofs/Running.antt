-- One step more.
use Rattle.std.proofs.Common.{◌≡◌, ℕ, ◌+◌, ◌<◌, ◌∙◌, List, [], ◌∷◌, ◌++◌, length, take, get_or, refl, sym, ap, subst}
use Rattle.std.proofs.lemmas.List.{take_more}
use Rattle.unit_model.specs.Effects.{after_step}
use Rattle.unit_model.specs.Running.{AllEnabled, Enabled, after_steps}
use Rattle.unit_model.specs.declared.machine.Core.{Core}
use Rattle.unit_model.specs.declared.machine.Step.{Step}

pub after_one_more : (core : Core) (steps : List Step) (step : Step) → after_steps core (steps ++ step ∷ []) ≡ after_step (after_steps core steps) step
after_one_more core [] step = refl
after_one_more core (first ∷ steps) step = after_one_more (after_step core first) steps step

pub enabled_one_more : (core : Core) (steps : List Step) (step : Step) → AllEnabled core steps → Enabled (after_steps core steps) step → AllEnabled core (steps ++ step ∷ [])
enabled_one_more core [] step before this = (this, tt)
enabled_one_more core (first ∷ steps) step before this = (before.0, enabled_one_more (after_step core first) steps step before.1 this)

-- the step at i is done behind those before it
pub run_one_more : (core now new : Core) (steps : List Step) (i : ℕ) (d : Step) → i < length steps → AllEnabled core (take i steps) → now ≡ after_steps core (take i steps) → Enabled now (get_or steps i d) → new ≡ after_step now (get_or steps i d) → AllEnabled core (take (i + 1) steps) × (new ≡ after_steps core (take (i + 1) steps))
run_one_more core now new steps i d inside before is this done =
    let step = get_or steps i d in
    let more = take_more steps i d inside in
    let here : Enabled (after_steps core (take i steps)) step = subst (λ (k : Core). Enabled k step) is this in
    let all = enabled_one_more core (take i steps) step before here in
    let last : new ≡ after_steps core (take i steps ++ step ∷ []) =
    done ∙ ap (λ (k : Core). after_step k step) is ∙ sym (after_one_more core (take i steps) step) in
    (subst (λ (l : List Step). AllEnabled core l) (sym more) all, subst (λ (l : List Step). new ≡ after_steps core l) (sym more) last)
