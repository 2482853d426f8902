-- What a reader of frames gives, and has left to give.
use Rattle.std.specs.Prelude.{ℕ, List, Option, option_map}
use Rattle.script_frames.specs.declared.frame.Frame.{Frame as Given}
use Rattle.script_frames.specs.declared.frame.Frame.TheVariants as given
use Rattle.script_frames.specs.declared.frame.Frames.{Frames}
use Rattle.script_frames.specs.declared.head.Kind.{Kind as Read}
use Rattle.script_frames.specs.declared.head.Kind.TheVariants as read
use Rattle.script_frames.specs.declared.head.Head.{Head}
use Rattle.script_frames.specs.Frames.{Frame, Control, Connection, HungUp, Kind, control, connection, hung_up, frames_of}

-- what a frame says
abbrev pub said : Given → Frame
said (given.Control bytes) = Control bytes.now
said (given.Connection listener bytes) = Connection listener.now bytes.now
said (given.HungUp listener bytes) = HungUp listener.now bytes.now

-- what a line says
abbrev pub kind_said : Read → Kind
kind_said read.Control = control
kind_said (read.Connection listener) = connection listener.now
kind_said (read.HungUp listener) = hung_up listener.now

abbrev pub head_said : Head → Kind × ℕ
head_said head = (kind_said head.kind, head.size)

-- the frames that are left to give
abbrev pub frames_left : Frames → List Frame
frames_left frames = frames_of frames.rest.now
