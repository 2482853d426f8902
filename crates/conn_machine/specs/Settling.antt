-- How a machine answers what it finds, within a call.
use Rattle.std.specs.Prelude.{◌≡◌, ◌≢◌, ℕ, suc, ◌-◌, ◌==◌, Bool, true, false, List, [], ◌∷◌, ◌++◌, length, take, Option, Some, None, if◌then◌else◌}
use Rattle.std.specs.Option.{is_some, option_or}
use Rattle.unit_types.specs.declared.message.Reply.{Reply}
use Rattle.unit_types.specs.declared.message.Request.{Request}
use Rattle.http_front.specs.Kept.{HasRead, marked}
use Rattle.http_front.specs.Reading.{Reading, answer_at, behind_found, next_answer, next_reading}
use Rattle.http_front.specs.Written.{continue_bytes, http_bytes}
use Rattle.http_front.specs.declared.next_unit.Next.{Next}
use Rattle.http_front.specs.declared.next_unit.Next.TheVariants as Answer
use Rattle.conn_machine.specs.declared.receipt.Kind.{Kind}
use Rattle.conn_machine.specs.declared.receipt.Receipt.{Receipt}
use Rattle.conn_machine.specs.declared.settling.Place.{Place}
use Rattle.conn_machine.specs.Answers.{Connection, closes, is_to_head, reply_line}
use Rattle.conn_machine.specs.Calls.{Account, own_answer, settled}
use Rattle.conn_machine.specs.Shows.{Held, Carries, IsQuiet, Shows, Stands, bound_in, reading_in}
use Rattle.conn_machine.specs.States.{Numbered, unit_under}
use Rattle.conn_machine.specs.Turns.{receipt_of}

-- what a machine holds behind a reply to the request under way, or to bytes that are refused
abbrev pub replied_in : Numbered → Receipt → Option Request → Reply → Held → Held
replied_in bound receipt asked reply m = record m {
  is_under_way = false;
  pending = None;
  left = m.left - 1;
  last = bound.0;
  out = m.out ++ http_bytes reply (is_to_head asked) (closes asked m.left);
  lines = m.lines ++ reply_line bound.1 m.from asked reply;
  closed = closes asked m.left;
  receipts = m.receipts ++ receipt ∷ [];
}

-- the same, part by part: the line of the log, the bytes, and the receipt
abbrev pub logged_in : Numbered → Option Request → Reply → Held → Held
logged_in bound asked reply m = record m { lines = m.lines ++ reply_line bound.1 m.from asked reply }

abbrev pub written_in : Reply → Bool → Bool → Held → Held
written_in reply head close m = record m { out = m.out ++ http_bytes reply head close }

abbrev pub finished_in : ℕ → ℕ → Kind → Bool → Held → Held
finished_in number stream kind close m = record m {
  is_under_way = false;
  pending = None;
  left = m.left - 1;
  last = number;
  closed = close;
  receipts = m.receipts ++ receipt_of number stream kind ∷ [];
}

-- ---- within a call

abbrev pub IsBehind : {A : Type 0} → List A → List A → Type 0
IsBehind {A} old new = (more : List A) × (new ≡ old ++ more)

-- the configuration of the request under way where a call began
abbrev pub recovered : Held → Option Numbered
recovered m = option_or m.former m.met

-- what a call adds can be taken back, and its input ended or not as before
pub record Grows (old new : Held) : Type 0 where
  pub listener : new.listener ≡ old.listener
  pub from : new.from ≡ old.from
  pub to : new.to ≡ old.to
  pub ended : new.ended ≡ old.ended
  pub given_up : new.given_up ≡ old.given_up
  pub reader : marked new.reader ≡ marked old.reader
  pub met : (bound : Numbered) → recovered old ≡ Some bound → recovered new ≡ Some bound
  pub out : IsBehind old.out new.out
  pub lines : IsBehind old.lines new.lines
  pub receipts : IsBehind old.receipts new.receipts

-- where the client waits for `100 Continue` it is to be written, and this is what the reader finds then
pub record IsToldOn (old : Held) (limit : ℕ) (first next : Next) (new : Held) : Type 0 where
  pub other : first ≢ Answer.Continue → (next ≡ first) × (new ≡ old)
  pub due : first ≡ Answer.Continue → new ≡ record old { reader = new.reader; out = old.out ++ continue_bytes true }
  pub answer : first ≡ Answer.Continue → (r : Reading) → HasRead r old.reader → next ≡ next_answer r limit
  pub reads : first ≡ Answer.Continue → (r : Reading) → HasRead r old.reader → HasRead (next_reading r limit) new.reader

-- the newest request has the configuration of this number
abbrev pub has_met : ℕ → Option Numbered → Bool
has_met number None = false
has_met number (Some met) = met.0 == number

-- the request at the front is under way by this configuration
abbrev pub taken_up_in : Numbered → Held → Held
taken_up_in current m = record m {
  met = Some current;
  former = if has_met current.0 m.met then m.former else recovered m;
  is_under_way = true;
}

-- ---- one request

-- the request at the front is under way, and this is found of it
pub record IsFound (reply_of : List ℕ → Request → Reply) (c : Connection) (bound : Numbered) (a : Account) (next : Next) (m : Held) : Type 0 where
  pub carries : Carries reply_of c a m
  pub way : a.state.bound ≡ Some bound
  pub next_is : next ≡ answer_at c.from c.to (unit_under bound.1 a.state).found
  pub behind : HasRead (behind_found (reading_in c a.state) (unit_under bound.1 a.state).found) m.reader

-- the front is taken up, and what follows is its answer
pub record IsTaken (reply_of : List ℕ → Request → Reply) (c : Connection) (current : Numbered) (a : Account) (next : Next) (m : Held) : Type 0 where
  pub bound : Numbered
  pub account : Account
  pub found : IsFound reply_of c bound account next m
  pub goes : (n : ℕ) → settled c current (suc n) a
      ≡ own_answer c bound (settled c current n) account (unit_under bound.1 account.state).found

abbrev pub FindsFront : (List ℕ → Request → Reply) → Connection → Numbered → Account → Option Next → Held → Type 0
FindsFront reply_of c current a None m = Shows reply_of c a m × ((n : ℕ) → settled c current (suc n) a ≡ a)
FindsFront reply_of c current a (Some next) m = IsTaken reply_of c current a next m

-- what is found is answered, and more may follow
pub record IsAnswered (reply_of : List ℕ → Request → Reply) (c : Connection) (bound : Numbered) (a : Account) (goes : Bool) (m : Held) : Type 0 where
  pub account : Account
  pub answer : (rest : Account → Account) → own_answer c bound rest a (unit_under bound.1 a.state).found
      ≡ (if goes then rest account else account)
  pub stands : Stands reply_of c account m
  pub quiet : goes ≡ false → m.closed ≡ false → IsQuiet c account.state m.pending

-- one step of settling
pub record Settles (reply_of : List ℕ → Request → Reply) (c : Connection) (current : Numbered) (a : Account) (goes : Bool) (m : Held) : Type 0 where
  pub account : Account
  pub answer : (n : ℕ) → settled c current (suc n) a ≡ (if goes then settled c current n account else account)
  pub stands : Stands reply_of c account m
  pub quiet : goes ≡ false → m.closed ≡ false → IsQuiet c account.state m.pending

-- ---- taking back

-- what a machine held where a call began: all but its reader
abbrev pub taken_back : Place → Held → Held
taken_back place m = record m {
  met = recovered m;
  former = None;
  is_under_way = place.is_under_way;
  pending = None;
  left = place.left;
  last = place.last;
  ended = place.ended;
  closed = place.closed;
  out = take place.out m.out;
  lines = take place.lines m.lines;
  receipts = take place.receipts m.receipts;
}

-- the place of a machine
abbrev pub place_of : Held → Place
place_of m = record {
  is_under_way = m.is_under_way;
  left = m.left;
  last = m.last;
  ended = m.ended;
  closed = m.closed;
  out = length m.out;
  lines = length m.lines;
  receipts = length m.receipts;
}

-- a call that adds to what it found there can go back to this place: what stood there is a front of what is held, and the
-- reader is marked there
pub record GoesBack (before : Held) (place : Place) (now : Held) : Type 0 where
  pub place_is : place ≡ place_of before
  pub listener : now.listener ≡ before.listener
  pub from : now.from ≡ before.from
  pub to : now.to ≡ before.to
  pub given_up : now.given_up ≡ before.given_up
  pub reader : (r : Reading) → HasRead r before.reader → HasRead r (marked now.reader)
  pub met : (bound : Numbered) → bound_in before ≡ Some bound → recovered now ≡ Some bound
  pub way : before.is_under_way ≡ true → is_some (bound_in before) ≡ true
  pub out : IsBehind before.out now.out
  pub lines : IsBehind before.lines now.lines
  pub receipts : IsBehind before.receipts now.receipts
