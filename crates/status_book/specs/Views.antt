-- What a seat knows: the sums that it keeps of engines, and the numbers that it found, newest first.
use Rattle.std.specs.Prelude.{ℕ, zero, suc, ◌+◌, ◌-◌, ◌*◌, ◌==◌, ◌++◌, List, [], ◌∷◌, cond, map, take, drop, replicate, slice_index, slice_set}
use Rattle.std.specs.List.{range_with_len}
use Rattle.unit_model.specs.Weights.{weigh}
use Rattle.status_book.specs.Words.{kinds, word_at}
use Rattle.status_book.specs.declared.view.EngineSums.{EngineSums}
use Rattle.status_book.specs.declared.view.Reading.{Reading}
use Rattle.status_book.specs.declared.view.StatusView.{StatusView}

-- ---- what a view says

-- what the engines weigh whose sums it keeps
abbrev pub held_by : (ℕ → ℕ) → StatusView → ℕ
held_by f v = weigh (λ e. f e.engine) v.engines

-- the sums of its first engine
abbrev pub first_sums : List EngineSums → List ℕ
first_sums [] = []
first_sums (e ∷ es) = e.sums

-- the number that was found last at the word, or 0
abbrev pub last_reading : ℕ → List Reading → ℕ
last_reading word [] = 0
last_reading word (r ∷ rs) = cond (r.word == word) r.number (last_reading word rs)

-- the readings that found the first counts of a list, each at its word, newest first
abbrev pub readings_told : List ℕ → ℕ → List Reading
readings_told counts zero = []
readings_told counts (suc place) =
    record { word = word_at place; number = slice_index counts place } ∷ readings_told counts place

-- ---- views

-- an engine of which nothing was counted
abbrev pub new_engine : ℕ → EngineSums
new_engine engine = record { engine = engine; sums = replicate kinds 0 }

-- so many new engines, from this one on
abbrev pub new_engines : ℕ → ℕ → StatusView
new_engines from count =
    record { engines = map new_engine (range_with_len from count); readings = [] }

abbrev pub of_engine : ℕ → List ℕ → StatusView
of_engine engine sums =
    record { engines = record { engine = engine; sums = sums } ∷ []; readings = [] }

abbrev pub empty : StatusView
empty = record { engines = []; readings = [] }

-- the first engine goes to a view of its own
abbrev pub first_of : StatusView → StatusView
first_of v = record { engines = take 1 v.engines; readings = [] }

abbrev pub others_of : StatusView → StatusView
others_of v = record { engines = drop 1 v.engines; readings = v.readings }

-- with the engines of the other one, in front
abbrev pub together : StatusView → StatusView → StatusView
together v w = record { engines = w.engines ++ v.engines; readings = v.readings }

-- n more of a kind
abbrev pub counted : ℕ → ℕ → EngineSums → EngineSums
counted kind n e =
    record { engine = e.engine; sums = slice_set e.sums kind (slice_index e.sums kind + n) }

-- n more at a word of the first engine
abbrev pub counted_first : ℕ → ℕ → List EngineSums → List EngineSums
counted_first word n [] = []
counted_first word n (e ∷ es) = counted (word - 16 * e.engine) n e ∷ es

abbrev pub after_count : ℕ → ℕ → StatusView → StatusView
after_count word n v = record { engines = counted_first word n v.engines; readings = v.readings }

-- one number more was found
abbrev pub after_reading : ℕ → ℕ → StatusView → StatusView
after_reading word number v =
    record { engines = v.engines; readings = record { word = word; number = number } ∷ v.readings }
