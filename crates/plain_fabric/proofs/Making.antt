-- Steps made one after another.
use Rattle.std.proofs.Common.{◌≡◌, ℕ, zero, suc, ◌<◌, List, [], ◌∷◌, ◌++◌, length, get_or, refl, sym, ap, subst, ◌∙◌, arith}
use Rattle.std.proofs.lemmas.List.{append_assoc}
use Rattle.unit_model.proofs.Presence.{shape_stays}
use Rattle.unit_model.specs.Effects.{after_step}
use Rattle.unit_model.specs.Running.{AllEnabled, Enabled, after_steps}
use Rattle.unit_model.specs.declared.machine.Core.{Core}
use Rattle.unit_model.specs.declared.machine.Step.{Step}
use Rattle.unit_model.specs.declared.shape.Shape.{Shape}
use Rattle.fabric_words.specs.Makes.{IsPlaced}
use Rattle.fabric_words.specs.Needs.{Needs}
use Rattle.fabric_words.specs.Offsets.{word_in}
use Rattle.fabric_words.specs.Shown.{IsStep, Shows}
use Rattle.unit_model.specs.Soundness.{IsSound}
use Rattle.plain_fabric.proofs.Needed.{enabled_is_needed}
use Rattle.plain_fabric.specs.Stepping.{AllPlaced, Goes, IsShown, MakesAll, TailIsOn}

-- ---- one step

pub made_here : (shape : Shape) (moved words : List ℕ) (step : Step) → TailIsOn (word_in shape moved) step
    → ((core : Core) → core.shape ≡ shape → IsSound core → Shows (word_in shape moved) core → Needs (word_in shape moved) core step → IsStep (word_in shape words) core step)
    → (core : Core) → IsShown shape moved core → Enabled core step → IsShown shape words (after_step core step)
made_here shape moved words step on makes core shown enabled =
    let is = makes core shown.shape_is shown.sound shown.shows (enabled_is_needed (word_in shape moved) core shown.sound shown.shows step enabled on) in
    record { shape_is = shape_stays core step ∙ shown.shape_is; sound = is.sound; shows = is.shows }

-- ---- many

pub enabled_parts : (core : Core) (steps more : List Step) → AllEnabled core (steps ++ more) → AllEnabled core steps × AllEnabled (after_steps core steps) more
enabled_parts core [] more all = (tt, all)
enabled_parts core (step ∷ steps) more all =
    let rest = enabled_parts (after_step core step) steps more all.1 in
    ((all.0, rest.0), rest.1)

pub after_parts : (core : Core) (steps more : List Step) → after_steps core (steps ++ more) ≡ after_steps (after_steps core steps) more
after_parts core [] more = refl
after_parts core (step ∷ steps) more = after_parts (after_step core step) steps more

pub makes_none : (shape : Shape) (words : List ℕ) → MakesAll shape words words []
makes_none shape words core shown all = shown

pub makes_on : (shape : Shape) (words now new : List ℕ) (steps more : List Step) → MakesAll shape words now steps → MakesAll shape now new more → MakesAll shape words new (steps ++ more)
makes_on shape words now new steps more first second core shown all =
    let parts = enabled_parts core steps more all in
    subst (IsShown shape new) (sym (after_parts core steps more)) (second (after_steps core steps) (first core shown parts.0) parts.1)

pub makes_one : (shape : Shape) (words new : List ℕ) (step : Step) → ((core : Core) → IsShown shape words core → Enabled core step → IsShown shape new (after_step core step)) → MakesAll shape words new (step ∷ [])
makes_one shape words new step makes core shown all = makes core shown all.0

pub placed_at : (shape : Shape) (steps : List Step) (i : ℕ) (d : Step) → AllPlaced shape steps → i < length steps → IsPlaced shape (get_or steps i d)
placed_at shape [] i d all inside = absurd (omega (arith, inside))
placed_at shape (step ∷ steps) zero d all inside = all.0
placed_at shape (step ∷ steps) (suc i) d all inside = placed_at shape steps i d all.1 (omega (arith, inside))

-- the trace too
pub goes_on : (shape : Shape) (words now new : List ℕ) (trace longer longest steps more : List Step) → Goes shape words now trace longer steps → Goes shape now new longer longest more → Goes shape words new trace longest (steps ++ more)
goes_on shape words now new trace longer longest steps more first second = record {
  made = makes_on shape words now new steps more first.made second.made;
  listed = second.listed ∙ ap (λ (t : List Step). t ++ more) first.listed ∙ append_assoc trace steps more;
}

-- two runs one after the other, by what their steps are
pub goes_both : (shape other : Shape) (words now new : List ℕ) (trace longer longest steps more steps' more' : List Step) → other ≡ shape → Goes shape words now trace longer steps → Goes other now new longer longest more → steps ≡ steps' → more ≡ more'
    → Goes shape words new trace longest (steps' ++ more')
goes_both shape other words now new trace longer longest steps more steps' more' same first second is is_more =
    goes_on shape words now new trace longer longest steps' more'
    (subst (Goes shape words now trace longer) is first)
    (subst (Goes shape now new longer longest) is_more (subst (λ (s : Shape). Goes s now new longer longest more) same second))
