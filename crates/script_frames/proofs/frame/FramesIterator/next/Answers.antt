use Rattle.std.proofs.Common.{◌∙◌, sym, ap, length, arith}
use Rattle.script_frames.specs.Frames.{Framed}
use Rattle.script_frames.specs.Left.{said}
use Rattle.script_frames.proofs.FrameLemmas.{frames_behind}
use Rattle.script_frames.proofs.frame.FramesIterator.next.Goals as goal

pub returns-clause-steps : goal.returns-clause-steps
returns-clause-steps c =
    ap (λ (f : Framed). f.frames) (frames_behind c.args.self.now.rest.now (said c.in_ok-frame.frame, c.in_ok-frame.rest.now) (sym c.in_ok-frame.ensures))

pub returns-clause-goes : goal.returns-clause-goes
returns-clause-goes c =
    let shorter = ap length (returns-clause-steps c) in
    record {
      on = λ finite. (tt, tt, omega (arith, shorter));
      keeps = tt;
      rests = λ finite. tt;
    }
