use Rattle.std.proofs.Common.{ℕ, ◌≡◌, ◌∙◌, List, length, sym, ap, subst, arith}
use Rattle.unit_model.specs.declared.shape.Shape.{Shape}
use Rattle.fabric_words.specs.Offsets.{width_of, word_in}
use Rattle.fabric_words.specs.Opened.{IsOpened}
use Rattle.fabric_rule.proofs.Beginning.{opens_law}
use Rattle.fabric_rule.proofs.table.FabricTable.open.Goals as goal

pub vacant-requires : goal.vacant-requires
vacant-requires g c =
    let shape : Shape = c.args.shape.now in
    let laid : Shape = c.of-layout.result.shape in
    let same : laid ≡ shape = c.of-layout.ensures in
    let words : List ℕ = c.as_slice.result.now in
    let are : words ≡ c.in_ok-words.words.items = c.as_slice.ensures.value in
    let long : length words ≡ width_of shape = ap length are ∙ c.in_ok-words.ensures.long ∙ ap width_of same in
    let opened : IsOpened shape (word_in shape words) =
    subst (λ (sh : Shape). IsOpened sh (word_in sh words)) same (subst (λ (ws : List ℕ). IsOpened laid (word_in laid ws)) (sym are) c.in_ok-words.ensures.opened) in
    (opens_law g.row.H.Denot g.H.Handlers.reply_of shape words c.requires (omega (arith, long)) opened).holds
