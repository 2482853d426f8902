-- What the lines of a trace say. A line is given here without its LF.
use Rattle.std.specs.Prelude.{ℕ, ◌-◌, ◌^◌, List, Option, Some, None, codes, bytes_eq, if◌then◌else◌}
use Rattle.trace_check.specs.Numbers.{◌>>=◌, cut, number_of, first_number}
use Rattle.trace_check.specs.declared.line.Kind.{Kind}
use Rattle.trace_check.specs.declared.line.Kind.TheVariants as kind
use Rattle.trace_check.specs.declared.line.ItemKind.{ItemKind}
use Rattle.trace_check.specs.declared.line.ItemKind.TheVariants as on
use Rattle.trace_check.specs.declared.line.ItemNumbers.{ItemNumbers}
use Rattle.unit_model.specs.declared.machine.Step.{Step}
use Rattle.unit_model.specs.declared.machine.Step.TheVariants.{Draw, Claim, Release, Open, GetItem, SetRun, SetPart, Arm, Push, Pop, Settle, GiveItem, Abandon}
use Rattle.unit_model.specs.declared.shape.Shape.{Shape}
use Rattle.unit_model.specs.declared.runs.Run.{Run}

-- the largest numbers: of a segment or chunk of a run; of a seat, queue, item, segment, chunk, count or size; and of a
-- stream, place or part
abbrev pub u16_limit : ℕ
u16_limit = 2 ^ 16 - 1

abbrev pub u32_limit : ℕ
u32_limit = 2 ^ 32 - 1

abbrev pub u64_limit : ℕ
u64_limit = 2 ^ 64 - 1

-- the kind of step that a line's first word names
unfoldable pub kind_of : List ℕ → Option Kind
kind_of name =
    if bytes_eq name (codes "draw") then Some kind.Draw
    else if bytes_eq name (codes "claim") then Some kind.Claim
    else if bytes_eq name (codes "release") then Some kind.Release
    else if bytes_eq name (codes "open") then Some kind.Open
    else if bytes_eq name (codes "getitem") then Some (kind.OnItem on.GetItem)
    else if bytes_eq name (codes "setrun") then Some kind.SetRun
    else if bytes_eq name (codes "setpart") then Some (kind.OnItem on.SetPart)
    else if bytes_eq name (codes "arm") then Some (kind.OnItem on.Arm)
    else if bytes_eq name (codes "push") then Some (kind.OnItem on.Push)
    else if bytes_eq name (codes "pop") then Some (kind.OnItem on.Pop)
    else if bytes_eq name (codes "settle") then Some (kind.OnItem on.Settle)
    else if bytes_eq name (codes "giveitem") then Some (kind.OnItem on.GiveItem)
    else if bytes_eq name (codes "abandon") then Some kind.Abandon
    else None

-- `SEAT NUMBER`
unfoldable pub seat_and_number : ℕ → List ℕ → Option (ℕ × ℕ)
seat_and_number limit text = do
  seat ← first_number u32_limit text
  number ← number_of limit seat.1
  Some (seat.0, number)

-- `SEAT SEGMENT CHUNK`
unfoldable pub seat_and_chunk : List ℕ → Option (ℕ × ℕ × ℕ)
seat_and_chunk text = do
  seat ← first_number u32_limit text
  segment ← first_number u32_limit seat.1
  chunk ← number_of u32_limit segment.1
  Some (seat.0, segment.0, chunk)

-- `SEAT QUEUE ITEM NUMBER`
unfoldable pub on_item : List ℕ → Option ItemNumbers
on_item text = do
  seat ← first_number u32_limit text
  queue ← first_number u32_limit seat.1
  item ← first_number u32_limit queue.1
  number ← number_of u64_limit item.1
  Some (record { seat = seat.0; queue = queue.0; item = item.0; number = number })

-- `SEGMENT CHUNK SIZE`
unfoldable pub run_of : List ℕ → Option Run
run_of text = do
  segment ← first_number u16_limit text
  chunk ← first_number u16_limit segment.1
  size ← number_of u32_limit chunk.1
  Some (record { segment = segment.0; chunk = chunk.0; size = size })

-- `SEAT QUEUE ITEM SEGMENT CHUNK SIZE`
unfoldable pub set_run_of : List ℕ → Option Step
set_run_of text = do
  seat ← first_number u32_limit text
  queue ← first_number u32_limit seat.1
  item ← first_number u32_limit queue.1
  run ← run_of item.1
  Some (SetRun seat.0 queue.0 item.0 run)

-- the step of this kind that names an item
unfoldable pub item_step : ItemKind → ItemNumbers → Step
item_step on.GetItem n = GetItem n.seat n.queue n.item n.number
item_step on.SetPart n = SetPart n.seat n.queue n.item n.number
item_step on.Arm n = Arm n.seat n.queue n.item n.number
item_step on.Push n = Push n.seat n.queue n.item n.number
item_step on.Pop n = Pop n.seat n.queue n.item n.number
item_step on.Settle n = Settle n.seat n.queue n.item n.number
item_step on.GiveItem n = GiveItem n.seat n.queue n.item n.number

-- the step of this kind with these numbers
unfoldable pub step_with : Kind → List ℕ → Option Step
step_with kind.Draw numbers = do
  n ← seat_and_number u64_limit numbers
  Some (Draw n.0 n.1)
step_with kind.Abandon numbers = do
  n ← seat_and_number u64_limit numbers
  Some (Abandon n.0 n.1)
step_with kind.Open numbers = do
  n ← seat_and_number u32_limit numbers
  Some (Open n.0 n.1)
step_with kind.Claim numbers = do
  n ← seat_and_chunk numbers
  Some (Claim n.0 n.1 n.2)
step_with kind.Release numbers = do
  n ← seat_and_chunk numbers
  Some (Release n.0 n.1 n.2)
step_with kind.SetRun numbers = set_run_of numbers
step_with (kind.OnItem which) numbers = do
  n ← on_item numbers
  Some (item_step which n)

-- the step that a line says: its kind in lower case and then its numbers, each after one space
unfoldable pub step_of : List ℕ → Option Step
step_of line = do
  parts ← cut line
  kind ← kind_of parts.0
  step_with kind parts.1

-- `OUT BACK ENGINES WORKERS START`, behind the numbers of items and back items
unfoldable pub rest_of_shape : ℕ → ℕ → List ℕ → Option Shape
rest_of_shape items back_items text = do
  out ← first_number u32_limit text
  back ← first_number u32_limit out.1
  engines ← first_number u32_limit back.1
  workers ← first_number u32_limit engines.1
  start ← number_of u64_limit workers.1
  Some (record {
    items = items;
    back_items = back_items;
    out_segments = out.0;
    back_segments = back.0;
    engines = engines.0;
    workers = workers.0;
    start = start;
  })

-- the shape, valid or not, that a line says: `shape ITEMS BACK_ITEMS OUT BACK ENGINES WORKERS START`
unfoldable pub shape_of : List ℕ → Option Shape
shape_of line = do
  parts ← cut line
  items ← if bytes_eq parts.0 (codes "shape") then first_number u32_limit parts.1 else None
  back_items ← first_number u32_limit items.1
  rest_of_shape items.0 back_items.0 back_items.1
