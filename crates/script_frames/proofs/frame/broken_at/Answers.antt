use Rattle.std.proofs.Common.{◌∙◌, ℕ, List, sym, ap, arith}
use Rattle.script_frames.specs.Frames.{Frame, Framed, broken_at_rest}
use Rattle.script_frames.specs.Left.{said}
use Rattle.script_frames.proofs.FrameLemmas.{frames_behind, shorter}
use Rattle.script_frames.proofs.frame.broken_at.Goals as goal

pub loop-rest-smaller : goal.loop-rest-smaller
loop-rest-smaller c = shorter c.loop-rest.rest.now (said c.in-Some.field-0-0, c.in-Some.behind.now) (sym c.in-Some.ensures)

pub loop-rest-preserved : goal.loop-rest-preserved
loop-rest-preserved c =
    let first : Frame × List ℕ = (said c.in-Some.field-0-0, c.in-Some.behind.now) in
    let short = shorter c.loop-rest.rest.now first (sym c.in-Some.ensures) in
    record {
      within = omega (arith, short, c.loop-rest.invariant.within);
      same = ap (λ (f : Framed). broken_at_rest c.args.input.now f.rest) (sym (frames_behind c.loop-rest.rest.now first (sym c.in-Some.ensures))) ∙ c.loop-rest.invariant.same;
    }
