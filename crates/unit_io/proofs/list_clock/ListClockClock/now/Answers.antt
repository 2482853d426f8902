use Rattle.std.proofs.Common.{◌≤◌, ◌∙◌, ℕ, List, Some, sym, ap, subst}
use Rattle.std.proofs.lemmas.Option.{same_Some}
use Rattle.unit_io.specs.Readings.{last_shown, noted, readings_shown}
use Rattle.unit_io.proofs.ReadingLemmas.{later, shown_noted, told}
use Rattle.unit_io.proofs.list_clock.ListClockClock.now.Goals as goal

pub returns-clause-told : goal.returns-clause-told
returns-clause-told c =
    ap last_shown c.show.ensures.after ∙ told c.args.self.now c.show.ensures.clock ∙ sym c.show.ensures.shows

pub returns-clause-later : goal.returns-clause-later
returns-clause-later c =
    subst (λ (n : ℕ). last_shown c.args.self.now ≤ n) (sym c.show.ensures.shows) (later c.args.self.now c.show.ensures.clock)

pub returns-clause-noted : goal.returns-clause-noted
returns-clause-noted c readings is =
    ap Some
    (ap readings_shown c.show.ensures.after
    ∙ shown_noted c.args.self.now c.show.ensures.clock
    ∙ ap (λ (n : ℕ). noted (readings_shown c.args.self.now) n) (sym c.show.ensures.shows)
    ∙ ap (λ (rs : List ℕ). noted rs c.show.result) (same_Some _ readings is))
