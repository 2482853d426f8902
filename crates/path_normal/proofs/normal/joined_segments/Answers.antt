use Rattle.std.proofs.Common.{◌≡◌, ◌∷◌, ◌∙◌, sym, ap, fold, Some}
use Rattle.std.specs.List.{last_or}
use Rattle.path_normal.specs.Cut.{parts_behind}
use Rattle.path_normal.specs.Path.{left_with}
use Rattle.path_normal.proofs.PathLemmas.{left_clean}
use Rattle.path_normal.proofs.normal.joined_segments.Goals as goal

pub loop-rest-preserved : goal.loop-rest-preserved
loop-rest-preserved c =
    let left = c.loop-rest.invariant.left in
    let last = c.loop-rest.invariant.last in
    let segment = c.cut.result.0.now in
    let more : parts_behind 47 c.loop-rest.rest ≡ segment ∷ parts_behind 47 c.cut.result.1 = ap (parts_behind 47) c.in-Some.is ∙ c.cut.ensures.parts in
    record {
      left = (left_with left.0 segment, left_clean left.0 segment left.1 c.cut.ensures.clean, c.in_ok-is_open.ensures.adds left.0 left.1 left.2, sym (ap (fold left_with left.0) more) ∙ left.3);
      last = (Some segment, c.in_ok-is_open.ensures.ends, sym (ap (last_or last.0) more) ∙ last.2);
    }
