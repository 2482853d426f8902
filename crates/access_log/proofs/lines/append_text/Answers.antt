use Rattle.std.proofs.Common.{◌≡◌, ◌++◌, ◌∷◌, [], List, ℕ, take, option_map, sym, ap, ◌∙◌}
use Rattle.std.specs.List.{flat_map}
use Rattle.path_normal.specs.PiecesLeft.{piece_text, pieces_left}
use Rattle.path_normal.specs.Variables.{piece_value, variable}
use Rattle.access_log.specs.Buffer.{written}
use Rattle.access_log.specs.Line.{line_limit, log_value, logged}
use Rattle.access_log.proofs.BufferLemmas.{appends_nothing, appends_part}
use Rattle.access_log.proofs.lines.append_text.Goals as goal

pub loop-piece-preserved-in-Variable : goal.loop-piece-preserved-in-Variable
loop-piece-preserved-in-Variable c =
    let was = c.loop-piece.buffer in
    let told = c.args.exchange.now in
    let name = c.in-Variable.name.now in
    let value = λ (name : List ℕ). logged (log_value told.from (option_map (λ r. r.now) told.request) told.status told.body name) in
    let rest = pieces_left c.next.new.self in
    let steps : pieces_left c.loop-piece.piece-iterator ≡ variable name ∷ rest =
    c.in-Some.ensures.steps ∙ ap (λ p. piece_text p ∷ rest) c.in-Variable.is in
    appends_part (written was) (value name) (flat_map (piece_value value) rest) (written c.append_value.new.buffer) c.append_value.ensures
    ∙ ap (λ t. take line_limit (written was ++ flat_map (piece_value value) t)) (sym steps) ∙ c.loop-piece.invariant

pub returns : goal.returns
returns c =
    let now = c.loop-piece.buffer in
    let told = c.args.exchange.now in
    let value = λ (name : List ℕ). logged (log_value told.from (option_map (λ r. r.now) told.request) told.status told.body name) in
    let over : pieces_left c.loop-piece.piece-iterator ≡ [] = c.in-None.ensures.steps.0 in
    appends_nothing now ∙ ap (λ t. take line_limit (written now ++ flat_map (piece_value value) t)) (sym over) ∙ c.loop-piece.invariant
