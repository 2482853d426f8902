use Rattle.std.proofs.Common.{ℕ, ◌<◌, ◌∙◌, subst, sym}
use Rattle.tracking_word.proofs.Steps.{arms}
use Rattle.tracking_word.proofs.tags.Tags.arm.Goals as goal

pub store-requires : goal.store-requires
store-requires c =
    let table = c.args.self.now.table.shared in
    let seat = c.args.seat.now in
    let there : c.args.item < table.table_id.words = subst (λ (id : _). c.args.item < id.words) c.requires.own (seat.sound.1 c.args.item c.requires.held) in
    let known : c.args.item < table.key = subst (λ (m : ℕ). c.args.item < m) (c.args.self.now.sized.1 ∙ sym c.args.self.now.sized.0) there in (
      c.requires.own,
      there,
      λ s holds homes at fits. arms table.key c.args.item c.args.stream table.table_id.slots seat.seat.id seat.seat.me.0 seat.seat.me.1 s known c.requires.stream holds at c.requires.held c.requires.zero,
    )
