-- What a seat knows: the chunks that it holds, by their numbers over all segments, and what it did, newest first.
use Rattle.std.specs.Prelude.{ℕ, ◌≡◌, ◌<◌, ◌==◌, List, [], ◌∷◌, cond, ◌+◌, ◌++◌}
use Rattle.std.proofs.lemmas.Bool.{eqb-true}
use mathlib.Core.Path.{ap}
use Rattle.unit_model.specs.Weights.{weigh, is_number, without_first}
use Rattle.unit_model.proofs.Weights.{weigh-without_first}
use Rattle.chunk_map.specs.Looks.{open_seen}
use Rattle.chunk_map.specs.declared.view.MapEvent.{MapEvent}
use Rattle.chunk_map.specs.declared.view.MapEvent.TheVariants.{SawOpen, SawWord, Gained, Missed, Released, OpenedTo, FoundOpen}
use Rattle.chunk_map.specs.declared.view.MapView.{MapView}

-- what the chunks held weigh
abbrev pub held_by : (ℕ → ℕ) → MapView → ℕ
held_by f v = weigh f v.held

abbrev pub open_noted : MapView → ℕ
open_noted v = open_seen v.log

-- what the numbers weigh to which the seat, and those that it has joined, took the number of open segments
abbrev pub opening_weight : (ℕ → ℕ) → MapEvent → ℕ
opening_weight f (SawOpen count) = 0
opening_weight f (SawWord number found) = 0
opening_weight f (Gained chunk) = 0
opening_weight f (Missed chunk) = 0
opening_weight f (Released chunk) = 0
opening_weight f (OpenedTo count) = f count
opening_weight f (FoundOpen count) = 0

abbrev pub openings_of : (ℕ → ℕ) → MapView → ℕ
openings_of f v = weigh (opening_weight f) v.log + weigh (opening_weight f) v.joined

-- nothing held, and nothing done
abbrev pub empty : ℕ → MapView
empty segments = record { segments = segments; held = []; log = []; joined = [] }

-- one event more
abbrev pub after : MapEvent → MapView → MapView
after e v = record { segments = v.segments; held = v.held; log = e ∷ v.log; joined = v.joined }

-- with what the other one did
abbrev pub together : MapView → MapView → MapView
together v w = record { segments = v.segments; held = v.held; log = v.log; joined = w.log ++ w.joined ++ v.joined }

-- the chunk gained
abbrev pub with_chunk : ℕ → MapView → MapView
with_chunk chunk v = record { segments = v.segments; held = chunk ∷ v.held; log = Gained chunk ∷ v.log; joined = v.joined }

-- the chunk given back
abbrev pub without_chunk : ℕ → MapView → MapView
without_chunk chunk v = record { segments = v.segments; held = without_first (λ other. other == chunk) v.held; log = Released chunk ∷ v.log; joined = v.joined }

-- a chunk that is gained is held, and one that is given back isn't
abbrev pub held_after : MapEvent → List ℕ → List ℕ
held_after (SawOpen count) held = held
held_after (SawWord number found) held = held
held_after (Gained chunk) held = chunk ∷ held
held_after (Missed chunk) held = held
held_after (Released chunk) held = without_first (λ other. other == chunk) held
held_after (OpenedTo count) held = held
held_after (FoundOpen count) held = held

-- what an event makes of a view
abbrev pub does : MapEvent → MapView → MapView
does e v = record { segments = v.segments; held = held_after e v.held; log = e ∷ v.log; joined = v.joined }

-- what is held without one chunk that is held
pub frees_one : (f : ℕ → ℕ) (chunk : ℕ) (chunks : List ℕ) → 0 < weigh (is_number chunk) chunks → weigh f (without_first (λ other. other == chunk) chunks) + f chunk ≡ weigh f chunks
frees_one f chunk chunks mine = weigh-without_first f (λ other. other == chunk) (f chunk) (λ other is. ap f (eqb-true other chunk is)) chunks mine

-- what an exchange of the open word tells that would take it from one number to another, and found this one
abbrev pub opening : ℕ → ℕ → ℕ → MapEvent
opening old new found = cond (found == old) (OpenedTo new) (FoundOpen found)
