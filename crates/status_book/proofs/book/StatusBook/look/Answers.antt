use Rattle.std.proofs.Common.{ℕ, suc, ◌≡◌, ◌+◌, ◌<◌, ◌≤◌, ◌++◌, ◌∷◌, List, length, set, length-set, refl, sym, ap, ◌∙◌, subst, arith}
use Rattle.status_book.specs.declared.view.Reading.{Reading}
use Rattle.status_book.specs.Seats.{readings_of}
use Rattle.status_book.specs.Views.{last_reading, readings_told}
use Rattle.status_book.specs.Words.{place_of, word_at}
use Rattle.status_book.proofs.Places.{word_of_place}
use Rattle.status_book.proofs.Readings.{empty_behind, noted_behind, noted_here, risen_next, told_next, zeros}
use Rattle.status_book.proofs.book.StatusBook.look.Goals as goal

pub loop-place-init : goal.loop-place-init
loop-place-init c = (c.requires.own, refl, refl, λ q lt. absurd (omega arith), λ q le. zeros 32 q)

pub loop-place-preserved : goal.loop-place-preserved
loop-place-preserved c =
    let now = c.loop-place.invariant in
    let counts : List ℕ = c.loop-place.counts in
    let place : ℕ = c.loop-place.place in
    let found : ℕ = c.count.result in
    let old : List Reading = readings_of c.args.seat.now in
    let noted : ℕ → ℕ = λ q. last_reading (word_at q) old in
    let lt : place < length counts = omega (arith, c.loop-place-test.true, now.1, c.args.self.now.sized.3) in
    let next : suc place ≡ place + 1 = omega arith in
    let rises : noted place ≤ found = subst (λ (n : ℕ). n ≤ found) (ap (last_reading (word_at place)) now.2 ∙ noted_behind counts old place place (omega arith)) c.count.ensures.risen in (
      c.count.ensures.own,
      length-set counts place found ∙ now.1,
      c.count.ensures.found
          ∙ ap (λ (rs : List Reading). record { word = word_at place; number = found } ∷ rs) now.2
          ∙ ap (λ (rs : List Reading). rs ++ old) (told_next counts place found lt ∙ ap (readings_told (set counts place found)) next),
      risen_next noted counts place found lt now.3 rises,
      empty_behind counts place found now.4,
    )

pub returns-clause-noted : goal.returns-clause-noted
returns-clause-noted c engine kind lt kind_lt =
    let now = c.loop-place.invariant in
    let old : List Reading = readings_of c.args.seat.now in
    let place : ℕ = place_of engine kind in
    let below : place < c.loop-place.place = omega (arith, c.loop-place-test.false, lt, kind_lt) in
    sym (ap (λ (w : ℕ). last_reading w (readings_of c.loop-place.seat)) (word_of_place engine kind kind_lt))
    ∙ ap (last_reading (word_at place)) now.2
    ∙ noted_here c.loop-place.counts old c.loop-place.place place below
