-- What one thread does that plays an engine and a worker in turn: the engine has seat 0, the worker
-- seat 1. All steps of a request are done before those of the next one.
use Rattle.std.specs.Prelude.{ℕ, ◌+◌, ◌%◌, ◌==◌, Bool, List, [], ◌∷◌, ◌++◌, length, map}
use Rattle.port_message.specs.Words.{part_word_of}
use Rattle.unit_model.specs.Core.{chunk_number}
use Rattle.unit_model.specs.Holding.{first_segment, items_of}
use Rattle.unit_model.specs.Runs.{chunks_of}
use Rattle.unit_model.specs.declared.machine.Step.{Step}
use Rattle.unit_model.specs.declared.machine.Step.TheVariants.{Draw, Claim, Release, GetItem, SetRun, SetPart, Arm, Push, Pop, Settle, GiveItem}
use Rattle.unit_model.specs.declared.runs.Run.{Run}
use Rattle.unit_model.specs.declared.shape.Shape.{Shape}
use Rattle.plain_fabric.specs.declared.message.Message.{Message}

-- ---- one message

-- messages go one at a time, so the items take turns, and each place comes once
abbrev pub item_of_message : Shape → Message → ℕ
item_of_message shape m = m.before % items_of shape m.queue

abbrev pub place_of_message : Shape → Message → ℕ
place_of_message shape m = shape.start + m.before

-- its chunks: all are free, so the lowest run of free ones is at the beginning of the side of those
-- who fill the queue
abbrev pub run_of_message : Shape → Message → Run
run_of_message shape m = record {
  segment = first_segment shape m.queue;
  chunk = 0;
  size = m.size;
}

-- the first of them, over all segments
abbrev pub first_chunk : Shape → Message → ℕ
first_chunk shape m = chunk_number (first_segment shape m.queue) 0

-- where its item is given back: behind all others
abbrev pub place_behind : Shape → Message → ℕ
place_behind shape m = shape.start + items_of shape m.queue + m.before

-- a seat claims the chunks of a run, or releases them, in ascending order
abbrev pub claims : ℕ → Run → List Step
claims seat run = map (λ chunk. Claim seat run.segment chunk) (chunks_of run)

abbrev pub releases : ℕ → Run → List Step
releases seat run = map (λ chunk. Release seat run.segment chunk) (chunks_of run)

-- the sender gets an item, sets its run and its part, arms it and pushes it
abbrev pub posting : Shape → Message → List Step
posting shape m =
    GetItem m.from m.queue (item_of_message shape m) (place_of_message shape m)
    ∷ SetRun m.from m.queue (item_of_message shape m) (run_of_message shape m)
    ∷ SetPart m.from m.queue (item_of_message shape m) m.part
    ∷ Arm m.from m.queue (item_of_message shape m) m.stream
    ∷ Push m.from m.queue (item_of_message shape m) (place_of_message shape m)
    ∷ []

-- it has claimed the chunks before
abbrev pub sending : Shape → Message → List Step
sending shape m = claims m.from (run_of_message shape m) ++ posting shape m

-- the taker pops the item and settles it
abbrev pub winning : Shape → Message → List Step
winning shape m =
    Pop m.to m.queue (item_of_message shape m) (place_of_message shape m)
    ∷ Settle m.to m.queue (item_of_message shape m) m.stream
    ∷ []

-- a seat gives the item back
abbrev pub giving : Shape → Message → Step
giving shape m = GiveItem m.to m.queue (item_of_message shape m) (place_behind shape m)

-- then it releases the chunks and gives the item back
abbrev pub freeing : Shape → Message → List Step
freeing shape m = releases m.to (run_of_message shape m) ++ giving shape m ∷ []

abbrev pub taking : Shape → Message → List Step
taking shape m = winning shape m ++ freeing shape m

-- the sender settles its own message
abbrev pub settling : Shape → Message → Step
settling shape m = Settle m.from m.queue (item_of_message shape m) m.stream

-- it releases the chunks; the taker pops the item and gives it back
abbrev pub undoing : Shape → Message → List Step
undoing shape m =
    releases m.from (run_of_message shape m)
    ++ Pop m.to m.queue (item_of_message shape m) (place_of_message shape m)
    ∷ giving shape m
    ∷ []

abbrev pub cancelling : Shape → Message → List Step
cancelling shape m = settling shape m ∷ undoing shape m

-- ---- one request, with so many streams drawn and so many parts sent before

-- the record of the request, of so many bytes
abbrev pub request_message : ℕ → ℕ → Message
request_message drawn size = record {
  from = 0;
  to = 1;
  queue = 0;
  before = drawn;
  size = size;
  part = 0;
  stream = drawn + 1;
}

-- a part of the record of the reply: its number, whether it is the last, and its bytes
abbrev pub part_message : ℕ → ℕ → ℕ → Bool → ℕ → Message
part_message drawn sent number last size = record {
  from = 1;
  to = 0;
  queue = 1;
  before = sent;
  size = size;
  part = part_word_of number last;
  stream = drawn + 1;
}

-- the parts from this number on, by their sizes; behind the last one none is left
abbrev pub part_steps : Shape → ℕ → ℕ → ℕ → List ℕ → List Step
part_steps shape drawn sent number [] = []
part_steps shape drawn sent number (size ∷ sizes) =
    let m = part_message drawn sent number (length sizes == 0) size in
    (sending shape m ++ taking shape m) ++ part_steps shape drawn (sent + 1) (number + 1) sizes

-- a request that is answered: the engine draws its stream, its record goes to the worker, and the
-- parts of the reply come back
abbrev pub answered_steps : Shape → ℕ → ℕ → ℕ → List ℕ → List Step
answered_steps shape drawn sent size sizes =
    let m = request_message drawn size in
    Draw 0 m.stream
    ∷ (sending shape m ++ taking shape m) ++ part_steps shape drawn sent 0 sizes

-- a request whose client has hung up: it is posted and cancelled
abbrev pub hung_up_steps : Shape → ℕ → ℕ → List Step
hung_up_steps shape drawn size =
    let m = request_message drawn size in
    Draw 0 m.stream ∷ sending shape m ++ cancelling shape m

-- ---- requests one after another

-- a request by the bytes of its record, and the answered one by those of the parts of its reply
pub data Passed : Type 0 where
  Answered : (size : ℕ) (sizes : List ℕ) → Passed
  HungUp : (size : ℕ) → Passed

abbrev pub parts_in : Passed → ℕ
parts_in (Answered size sizes) = length sizes
parts_in (HungUp size) = 0

abbrev pub steps_of : Shape → ℕ → ℕ → Passed → List Step
steps_of shape drawn sent (Answered size sizes) = answered_steps shape drawn sent size sizes
steps_of shape drawn sent (HungUp size) = hung_up_steps shape drawn size

abbrev pub trace_from : Shape → ℕ → ℕ → List Passed → List Step
trace_from shape drawn sent [] = []
trace_from shape drawn sent (passed ∷ more) =
    steps_of shape drawn sent passed
    ++ trace_from shape (drawn + 1) (sent + parts_in passed) more

-- the steps of these requests from the opened core on
abbrev pub trace_of : Shape → List Passed → List Step
trace_of shape requests = trace_from shape 0 0 requests
