use Rattle.std.proofs.Common.{[], ◌∷◌, Some, ◌∙◌, ap}
use Rattle.carried_slots.specs.Carried.{but, numbers}
use Rattle.port_message.specs.Words.{numbers_of}
use Rattle.request_context.specs.declared.piece.Parcel.TheVariants.{Ask}
use Rattle.fabric_rule.specs.Opening.{ledger_of}
use Rattle.fabric_rule.specs.Steps.{slots_left, with_posted}
use Rattle.fabric_rule.specs.TestViews.{with_a_post}
use Rattle.fabric_rule.proofs.TestParcels.{its_text, one_piece}
use Rattle.fabric_rule.proofs.tests.request.posts.Goals as goal

pub post-requires-clause-carries : goal.post-requires-clause-carries
post-requires-clause-carries c =
    let text = c.args.text in
    one_piece text c.swap.new.seat.seat.me.1 (c.swap.ensures.slots ∙ ap (λ m. (0, Some (Ask text)) ∷ but 0 m.1) c.requires.words) c.requires.text

pub returns-clause-me : goal.returns-clause-me
returns-clause-me c =
    let text = c.args.text in
    let old = c.swap.new.seat.seat.me in
    let new = c.post.new.seat.seat.me in
    let told = c.post.ensures.told in
    let slots = c.swap.ensures.slots ∙ ap (λ m. (0, Some (Ask text)) ∷ but 0 m.1) c.requires.words in
    let view = c.swap.ensures.view ∙ ap (λ m. m.0) c.requires.words in
    let left = told.slots ∙ ap (slots_left (numbers_of 77)) slots in
    let posted = told.posted
    ∙ ap (λ t. with_posted 0 8 1 77 t (numbers new.1) (ledger_of old.0) old.0) (its_text text old.1 slots told.carried)
    ∙ ap (λ l. with_posted 0 8 1 77 text (numbers l) (ledger_of old.0) old.0) left
    ∙ ap (λ v. with_posted 0 8 1 77 text [] (ledger_of v) v) view in
    ap (λ v. (v, new.1)) posted ∙ ap (λ l. (with_a_post text, l)) left
