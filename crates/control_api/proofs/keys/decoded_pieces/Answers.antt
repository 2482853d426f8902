use Rattle.std.proofs.Common.{◌≡◌, ◌∷◌, ◌++◌, [], ◌∙◌, List, ℕ, Some, None, option_map, sym, ap}
use Rattle.unit_types.specs.Text.{cut}
use Rattle.control_api.specs.Keys.{decoded_pieces}
use Rattle.percent_encoding.specs.Percent.{percent_decode}
use Rattle.control_api.proofs.KeyLemmas.{piece_pushed, pieces_cut, pieces_whole}
use Rattle.control_api.proofs.keys.decoded_pieces.Goals as goal

pub loop-piece-preserved : goal.loop-piece-preserved
loop-piece-preserved c =
    let l = c.loop-piece in
    let piece = c.in-Some.piece.now in
    let behind = c.in-Some.behind.now in
    let is : cut 47 l.rest.now ≡ Some (piece, behind) = sym c.cut.ensures ∙ ap (option_map (λ parts. (parts.0.now, parts.1.now))) c.in-Some.is in
    piece_pushed (decoded_pieces c.args.text.now) l.keys.items c.push.new.self.items (decoded_pieces behind) c.in_ok-decoded.field-0 (percent_decode piece)
    (l.invariant ∙ ap (λ (ps : List (List ℕ)). l.keys.items ++ ps) (pieces_cut l.rest.now piece behind is)) c.in_ok-decoded.ensures c.in_ok-push.ensures.items

pub returns : goal.returns
returns c =
    let l = c.loop-piece in
    let is : cut 47 l.rest.now ≡ None = sym c.in_default.ensures in
    c.in_ok-push-2.ensures.items
    ∙ ap (λ (k : List ℕ). l.keys.items ++ k ∷ []) c.in_ok-decoded-2.ensures
    ∙ sym (l.invariant ∙ ap (λ (ps : List (List ℕ)). l.keys.items ++ ps) (pieces_whole l.rest.now is))
