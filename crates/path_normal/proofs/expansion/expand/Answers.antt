use Rattle.std.proofs.Common.{◌≡◌, ◌++◌, [], Bool, true, false, cond, List, ℕ, sym, ap, ◌∙◌, refl, append-nil}
use Rattle.std.specs.List.{flat_map}
use Rattle.unit_types.specs.declared.message.Request.{Request}
use Rattle.path_normal.specs.PiecesLeft.{pieces_left}
use Rattle.path_normal.specs.Variables.{piece_value, variable_value, shown, expansion_with, expansion_of, escaped_expansion_of}
use Rattle.path_normal.proofs.expansion.expand.Goals as goal

-- a value is shown as it is, or escaped
either_way : (escapes : Bool) (text : List ℕ) (request : Request) → expansion_with (λ name. shown escapes (variable_value request name)) text ≡ cond escapes (escaped_expansion_of text request) (expansion_of text request)
either_way true text request = refl
either_way false text request = refl

pub returns : goal.returns
returns c =
    let out = c.loop-piece.out.items in
    let value = λ (name : List ℕ). shown c.args.escapes (variable_value c.args.request.now name) in
    let over : pieces_left c.loop-piece.piece-iterator ≡ [] = c.in-None.ensures.steps.0 in
    c.of.ensures ∙ sym (append-nil out) ∙ ap (λ x. out ++ flat_map (piece_value value) x) (sym over) ∙ c.loop-piece.invariant ∙ either_way c.args.escapes c.args.text.now c.args.request.now
