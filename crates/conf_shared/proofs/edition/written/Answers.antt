use Rattle.std.proofs.Common.{◌≡◌, sym, ◌∙◌, ap, length}
use Rattle.std.specs.Arc.{arc_value}
use Rattle.conf_shared.proofs.AddingLemmas.{adds_moves}
use Rattle.conf_shared.proofs.edition.written.Goals as goal

pub compare_exchange-found-requires : goal.compare_exchange-found-requires
compare_exchange-found-requires g c =
    let h = c.args.head.now.head_is in
    let again = c.again-seen.ensures in
    let offer = c.plain-offer.ensures in
    let pen = c.no_pen-pen.ensures in
    let book : c.again-seen.result.book ≡ g.J.Naming.history = ap (λ s. s.book) again ∙ c.requires.0 in (
      ap (λ w. w.tracked) h,
      book ∙ sym (ap (λ w. w.book) h),
      pen.0 ∙ (book ∙ sym (ap (λ w. w.book) h)),
      offer.0,
      rw (ap (λ w. w.key) h, pen.1, offer.1, offer.3) (adds_moves c.again-seen.result.log (arc_value c.args.current.now.conf) c.args.count (ap length (ap (λ s. s.log) again) ∙ sym c.requires.1)),
    )
