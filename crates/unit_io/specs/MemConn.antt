-- A connection over memory: what it holds, and what each call answers and makes of it.
use Rattle.std.specs.Prelude.{◌≡◌, ◌⊎◌, ℕ, ◌<◌, ◌≤◌, nat_lt, min, Bool, false, true, List, [], ◌∷◌, ◌++◌, length, take, drop, All, Contains, ⊤, if◌then◌else◌}
use Rattle.unit_types.specs.declared.message.Addr.{Addr}
use Rattle.unit_io.specs.Causes.{one_more}
use Rattle.unit_io.specs.declared.conn.ConnCheck.{ConnCheck}
use Rattle.unit_io.specs.declared.conn.ConnCheck.TheVariants as check
use Rattle.unit_io.specs.declared.conn.ConnRead.{ConnRead}
use Rattle.unit_io.specs.declared.conn.ConnRead.TheVariants as read
use Rattle.unit_io.specs.declared.conn.ConnWrite.{ConnWrite}
use Rattle.unit_io.specs.declared.conn.ConnWrite.TheVariants as write
use Rattle.unit_io.specs.declared.mem_conn.Event.{Event}
use Rattle.unit_io.specs.declared.mem_conn.Event.TheVariants.{Give, NotYet, Fail, End}
use Rattle.unit_io.specs.declared.mem_conn.Met.{Met}
use Rattle.unit_io.specs.declared.mem_conn.Met.TheVariants as met
use Rattle.unit_io.specs.declared.mem_conn.Script.{Script}

-- the events that are still to come; the numbers of the writes that fail, and how many writes there were; what the
-- connection is; what came and went, and what was counted, among it how many calls found no memory
pub record ConnState : Type 0 where
  pub events : List Event
  pub fail_writes : List ℕ
  pub writes : ℕ
  pub number : ℕ
  pub listener : List ℕ
  pub from : Addr
  pub to : Addr
  pub came : List ℕ
  pub went : List ℕ
  pub ended : Bool
  pub faults : ℕ
  pub waits : ℕ
  pub unkept : ℕ

-- a connection to which nothing happened yet
abbrev pub opened : List Event → List ℕ → List ℕ → Addr → Addr → ConnState
opened events fail_writes listener from to = record {
  events = events;
  fail_writes = fail_writes;
  writes = 0;
  number = 0;
  listener = listener;
  from = from;
  to = to;
  came = [];
  went = [];
  ended = false;
  faults = 0;
  waits = 0;
  unkept = 0;
}

-- an event that gives a byte, or none that gives bytes
abbrev pub IsSomeEvent : Event → Type 0
IsSomeEvent (Give bytes) = 0 < length bytes
IsSomeEvent NotYet = ⊤
IsSomeEvent Fail = ⊤
IsSomeEvent End = ⊤

-- what is left of a script: what is left of a `Give` that is under way, and the events behind it
abbrev pub left_events : List ℕ → ℕ → List Event → List Event
left_events current at rest =
    if nat_lt at (length current) then Give (drop at current) ∷ rest else rest

abbrev pub events_of : Script → List Event
events_of script = left_events script.current script.at script.rest.items

-- no event that gives bytes gives none
abbrev pub IsScript : Script → Type 0
IsScript script = (script.at ≤ length script.current) × All IsSomeEvent script.rest.items

-- bytes come next
abbrev pub gives_next : List Event → Bool
gives_next [] = false
gives_next (Give bytes ∷ rest) = true
gives_next (NotYet ∷ rest) = false
gives_next (Fail ∷ rest) = false
gives_next (End ∷ rest) = false

-- a fault comes next
abbrev pub fails_next : List Event → Bool
fails_next [] = false
fails_next (Give bytes ∷ rest) = false
fails_next (NotYet ∷ rest) = false
fails_next (Fail ∷ rest) = true
fails_next (End ∷ rest) = false

-- the end comes next
abbrev pub ends_next : List Event → Bool
ends_next [] = true
ends_next (Give bytes ∷ rest) = false
ends_next (NotYet ∷ rest) = false
ends_next (Fail ∷ rest) = false
ends_next (End ∷ rest) = true

-- what stands next, and the events that are still to come then
abbrev pub IsMet : List Event → Met → List Event → Type 0
IsMet before met.Bytes after = (gives_next before ≡ true) × (after ≡ before)
IsMet before met.NotYet after = before ≡ NotYet ∷ after
IsMet before met.Fail after = before ≡ Fail ∷ after
IsMet before met.End after = (ends_next before ≡ true) × (after ≡ [])

-- ---- reads

-- a call's answer and the connection after it
pub record Answered (A : Type 0) : Type 0 where
  pub answer : A
  pub after : ConnState

-- the events after n bytes of the first one came
abbrev pub after_bytes : List ℕ → List Event → ℕ → List Event
after_bytes bytes rest n = if nat_lt n (length bytes) then Give (drop n bytes) ∷ rest else rest

-- a read with that much room, by the events that are still to come; after an end every read meets the end
abbrev pub read_of : List Event → ConnState → ℕ → Answered ConnRead
read_of [] c room = record { answer = read.End; after = record c { events = []; ended = true } }
read_of (Give bytes ∷ rest) c room =
    let n = min room (length bytes) in
    record {
      answer = read.Got n;
      after = record c { events = after_bytes bytes rest n; came = c.came ++ take n bytes };
    }
read_of (NotYet ∷ rest) c room = record {
  answer = read.NotYet;
  after = record c { events = rest; waits = one_more c.waits };
}
read_of (Fail ∷ rest) c room = record {
  answer = read.Failed;
  after = record c { events = rest; faults = one_more c.faults };
}
read_of (End ∷ rest) c room = record {
  answer = read.End;
  after = record c { events = []; ended = true };
}

-- the connection after a call that found no memory
abbrev pub unkept_by : ConnState → ConnState
unkept_by c = record c { faults = one_more c.faults; unkept = one_more c.unkept }

-- what a read answers and leaves; beside what its script says it may fail where bytes come next, for want of memory
abbrev pub IsConnRead : ConnState → ℕ → ConnRead → ConnState → Type 0
IsConnRead c room answer after =
    ((answer ≡ (read_of c.events c room).answer) × (after ≡ (read_of c.events c room).after))
    ⊎ ((gives_next c.events ≡ true) × (answer ≡ read.Failed) × (after ≡ unkept_by c))

-- ---- writes

-- the connection with one write more
abbrev pub written_by : ConnState → ConnState
written_by c = record c { writes = one_more c.writes }

-- what a write answers and leaves, of at most 64 bytes; beside the writes that are told to, those alone fail that find no
-- memory
pub record IsConnWrite
    (c : ConnState) (bytes : List ℕ) (answer : ConnWrite) (after : ConnState) : Type 0 where
  pub told : Contains c.fail_writes c.writes
      → (answer ≡ write.Failed) × (after ≡ record (written_by c) { faults = one_more c.faults })
  pub untold : (Contains c.fail_writes c.writes → ⊥)
      → ((answer ≡ write.Wrote (min 64 (length bytes)))
      × (after ≡ record (written_by c) { went = c.went ++ take (min 64 (length bytes)) bytes }))
      ⊎ ((answer ≡ write.Failed) × (after ≡ unkept_by (written_by c)))

-- ---- checks

-- what a look answers and leaves: it fails where a fault comes next
pub record IsConnCheck (c : ConnState) (answer : ConnCheck) (after : ConnState) : Type 0 where
  pub fault : fails_next c.events ≡ true
      → (answer ≡ check.Failed) × (after ≡ record c { faults = one_more c.faults })
  pub none : fails_next c.events ≡ false → (answer ≡ check.Alive) × (after ≡ c)
