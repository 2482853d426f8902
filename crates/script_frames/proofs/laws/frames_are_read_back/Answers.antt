use Rattle.std.proofs.Common.{length, arith}
use Rattle.script_frames.proofs.SpelledFrames.{frames_read, frames_spelled}
use Rattle.script_frames.proofs.laws.frames_are_read_back.Goals as goal

pub returns-clause-read : goal.returns-clause-read
returns-clause-read c = frames_read

pub returns-clause-spelled : goal.returns-clause-spelled
returns-clause-spelled c = λ input. frames_spelled (length input) input (omega arith)
