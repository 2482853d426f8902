use Rattle.std.proofs.Common.{◌≡◌, ◌++◌, ◌∷◌, [], map, replicate, sym, ap, ◌∙◌, subst}
use Rattle.std.specs.List.{All}
use Rattle.std.proofs.lemmas.List.Elements.{All-push}
use Rattle.status_book.specs.declared.seat.CountSeat.{CountSeat}
use Rattle.status_book.specs.Seats.{CountsIn, sums_of}
use Rattle.status_book.specs.Words.{kinds}
use Rattle.status_book.proofs.NewSeats.{engines_next}
use Rattle.status_book.proofs.book.StatusBook.seats.Goals as goal

pub loop-engine-preserved : goal.loop-engine-preserved
loop-engine-preserved c =
    let now = c.loop-engine.invariant in
    let items = c.loop-engine.counts.items in
    let made = c.count_seat.result in
    let is : c.push.new.self.items ≡ items ++ made ∷ [] = c.in_ok-push.ensures.items in
    let are_new : CountSeat → Type 0 = λ s. sums_of s ≡ replicate kinds 0 in (
      c.count_seat.ensures.own.0 ∙ now.0,
      c.count_seat.ensures.view,
      subst (All (CountsIn c.args.self.now)) (sym is) (All-push (CountsIn c.args.self.now) items made now.2 c.count_seat.ensures.own.1),
      ap (map (λ (s : CountSeat). s.engine)) is ∙ engines_next items made c.loop-engine.engine now.3 c.count_seat.ensures.new.0,
      subst (All are_new) (sym is) (All-push are_new items made now.4 c.count_seat.ensures.new.1),
    )
