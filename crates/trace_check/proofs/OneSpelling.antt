-- A text that is read as a step is the line that this step is told by, without its LF.
use Rattle.std.proofs.Common.{◌≡◌, ◌∙◌, ℕ, ◌^◌, ◌<◌, ◌≤◌, Bool, true, false, if◌then◌else◌, List, [], ◌∷◌, ◌++◌, refl, sym, ap, subst, arith}
use Rattle.std.specs.Prelude.{Option, Some, bytes_eq, codes, decimal, option_and_then}
use Rattle.std.proofs.lemmas.List.{append-nil}
use Rattle.std.proofs.lemmas.Option.{option_and_then_some, same_Some}
use Rattle.std.proofs.lemmas.Slice.Eq.{bytes_eq-Decides}
use Rattle.trace_check.specs.Lines.{item_step, kind_of, on_item, run_of, seat_and_chunk, seat_and_number, set_run_of, step_of, step_with, u16_limit, u32_limit, u64_limit}
use Rattle.trace_check.specs.Numbers.{cut, first_number, number_of}
use Rattle.unit_types.proofs.SpelledLemmas as spelled
use Rattle.trace_check.specs.ReadBack.{FitsOnItem, FitsStep}
use Rattle.trace_check.specs.declared.line.ItemKind.{ItemKind}
use Rattle.trace_check.specs.declared.line.ItemKind.TheVariants as on
use Rattle.trace_check.specs.declared.line.ItemNumbers.{ItemNumbers}
use Rattle.trace_check.specs.declared.line.Kind.{Kind}
use Rattle.trace_check.specs.declared.line.Kind.TheVariants as kind
use Rattle.unit_model.specs.Lines.{line, line_of, numbers_text}
use Rattle.unit_model.specs.declared.runs.Run.{Run}
use Rattle.unit_model.specs.declared.machine.Step.{Step}
use Rattle.unit_model.specs.declared.machine.Step.TheVariants.{Draw, Claim, Release, Open, GetItem, SetRun, SetPart, Arm, Push, Pop, Settle, GiveItem, Abandon}

-- ---- numbers

-- what a number that was read is to the text
abbrev pub IsSpelledBy : ℕ → ℕ → List ℕ → Type 0
IsSpelledBy limit n text = (n ≤ limit) × (text ≡ decimal n)

pub number_spelled : (limit n : ℕ) (text : List ℕ) → limit < 2 ^ 64 → number_of limit text ≡ Some n → IsSpelledBy limit n text
number_spelled limit n text small e = spelled.number_spelled limit text n small e

-- the parts of a text around its first space, joined again
pub cut_joined : (text : List ℕ) (parts : List ℕ × List ℕ) → cut text ≡ Some parts → text ≡ parts.0 ++ 32 ∷ parts.1
cut_joined text parts e = spelled.cut_joined 32 text parts e

-- a number in front of a space
abbrev pub IsFront : ℕ → List ℕ → ℕ × List ℕ → Type 0
IsFront limit text parts = (parts.0 ≤ limit) × (text ≡ decimal parts.0 ++ 32 ∷ parts.1)

pub first_spelled : (limit : ℕ) (text : List ℕ) (parts : ℕ × List ℕ) → limit < 2 ^ 64 → first_number limit text ≡ Some parts → IsFront limit text parts
first_spelled limit text parts small e =
    option_and_then_some _ (cut text) parts e (λ cuts is read.
    option_and_then_some _ (number_of limit cuts.0) parts read (λ number numbers last.
    let spelled = number_spelled limit number cuts.0 small numbers in
    let joined = cut_joined text cuts is ∙ ap (λ ds. ds ++ 32 ∷ cuts.1) spelled.1 in
    let P : ℕ × List ℕ → Type 0 = λ p. IsFront limit text p in
    subst P (same_Some (number, cuts.1) parts last) (spelled.0, joined)))

-- ---- several numbers, each after a space

pub one_more : (text rest : List ℕ) (n : ℕ) (ns : List ℕ) → text ≡ decimal n ++ 32 ∷ rest → 32 ∷ rest ≡ numbers_text ns → 32 ∷ text ≡ numbers_text (n ∷ ns)
one_more text rest n ns e after = ap (λ ds. 32 ∷ ds) (e ∙ ap (λ ds. decimal n ++ ds) after)

pub last_one : (text : List ℕ) (n : ℕ) → text ≡ decimal n → 32 ∷ text ≡ numbers_text (n ∷ [])
last_one text n e = ap (λ ds. 32 ∷ ds) (e ∙ sym (append-nil (decimal n)))

abbrev pub IsPair : ℕ → List ℕ → ℕ × ℕ → Type 0
IsPair limit text n = (n.0 ≤ u32_limit) × (n.1 ≤ limit) × (32 ∷ text ≡ numbers_text (n.0 ∷ n.1 ∷ []))

pair_spelled : (limit : ℕ) (text : List ℕ) (n : ℕ × ℕ) → limit < 2 ^ 64 → seat_and_number limit text ≡ Some n → IsPair limit text n
unfolding seat_and_number
pair_spelled limit text n small e =
    option_and_then_some _ (first_number u32_limit text) n e (λ seat is-seat after-seat.
    option_and_then_some _ (number_of limit seat.1) n after-seat (λ number is-number last.
    let s = first_spelled u32_limit text seat (omega arith) is-seat in
    let m = number_spelled limit number seat.1 small is-number in
    let P : ℕ × ℕ → Type 0 = λ p. IsPair limit text p in
    subst P (same_Some (seat.0, number) n last) (s.0, m.0, one_more text seat.1 seat.0 (number ∷ []) s.1 (last_one seat.1 number m.1))))

abbrev pub IsChunk : List ℕ → ℕ × ℕ × ℕ → Type 0
IsChunk text n = (n.0 ≤ u32_limit) × (n.1 ≤ u32_limit) × (n.2 ≤ u32_limit) × (32 ∷ text ≡ numbers_text (n.0 ∷ n.1 ∷ n.2 ∷ []))

chunk_spelled : (text : List ℕ) (n : ℕ × ℕ × ℕ) → seat_and_chunk text ≡ Some n → IsChunk text n
unfolding seat_and_chunk
chunk_spelled text n e =
    option_and_then_some _ (first_number u32_limit text) n e (λ seat is-seat after-seat.
    option_and_then_some _ (first_number u32_limit seat.1) n after-seat (λ segment is-segment after-segment.
    option_and_then_some _ (number_of u32_limit segment.1) n after-segment (λ chunk is-chunk last.
    let s = first_spelled u32_limit text seat (omega arith) is-seat in
    let g = first_spelled u32_limit seat.1 segment (omega arith) is-segment in
    let c = number_spelled u32_limit chunk segment.1 (omega arith) is-chunk in
    let end = one_more seat.1 segment.1 segment.0 (chunk ∷ []) g.1 (last_one segment.1 chunk c.1) in
    let P : ℕ × ℕ × ℕ → Type 0 = λ p. IsChunk text p in
    subst P (same_Some (seat.0, segment.0, chunk) n last) (s.0, g.0, c.0, one_more text seat.1 seat.0 (segment.0 ∷ chunk ∷ []) s.1 end))))

abbrev pub item_numbers : ItemNumbers → List ℕ
item_numbers n = n.seat ∷ n.queue ∷ n.item ∷ n.number ∷ []

abbrev pub IsItem : List ℕ → ItemNumbers → Type 0
IsItem text n = FitsOnItem n.seat n.queue n.item n.number × (32 ∷ text ≡ numbers_text (item_numbers n))

item_spelled : (text : List ℕ) (n : ItemNumbers) → on_item text ≡ Some n → IsItem text n
unfolding on_item
item_spelled text n e =
    option_and_then_some _ (first_number u32_limit text) n e (λ seat is-seat after-seat.
    option_and_then_some _ (first_number u32_limit seat.1) n after-seat (λ queue is-queue after-queue.
    option_and_then_some _ (first_number u32_limit queue.1) n after-queue (λ item is-item after-item.
    option_and_then_some _ (number_of u64_limit item.1) n after-item (λ number is-number last.
    let s = first_spelled u32_limit text seat (omega arith) is-seat in
    let q = first_spelled u32_limit seat.1 queue (omega arith) is-queue in
    let i = first_spelled u32_limit queue.1 item (omega arith) is-item in
    let m = number_spelled u64_limit number item.1 (omega arith) is-number in
    let end = one_more queue.1 item.1 item.0 (number ∷ []) i.1 (last_one item.1 number m.1) in
    let middle = one_more seat.1 queue.1 queue.0 (item.0 ∷ number ∷ []) q.1 end in
    let fits : FitsOnItem seat.0 queue.0 item.0 number = (omega (arith, s.0), omega (arith, q.0), omega (arith, i.0), omega (arith, m.0)) in
    let P : ItemNumbers → Type 0 = λ p. IsItem text p in
    subst P (same_Some (record { seat = seat.0; queue = queue.0; item = item.0; number = number }) n last)
    (fits, one_more text seat.1 seat.0 (queue.0 ∷ item.0 ∷ number ∷ []) s.1 middle)))))

abbrev pub FitsRun : Run → Type 0
FitsRun run = (run.segment < 2 ^ 16) × (run.chunk < 2 ^ 16) × (run.size < 2 ^ 32)

abbrev pub IsRun : List ℕ → Run → Type 0
IsRun text run = FitsRun run × (32 ∷ text ≡ numbers_text (run.segment ∷ run.chunk ∷ run.size ∷ []))

run_spelled : (text : List ℕ) (run : Run) → run_of text ≡ Some run → IsRun text run
unfolding run_of
run_spelled text run e =
    option_and_then_some _ (first_number u16_limit text) run e (λ segment is-segment after-segment.
    option_and_then_some _ (first_number u16_limit segment.1) run after-segment (λ chunk is-chunk after-chunk.
    option_and_then_some _ (number_of u32_limit chunk.1) run after-chunk (λ size is-size last.
    let g = first_spelled u16_limit text segment (omega arith) is-segment in
    let c = first_spelled u16_limit segment.1 chunk (omega arith) is-chunk in
    let z = number_spelled u32_limit size chunk.1 (omega arith) is-size in
    let end = one_more segment.1 chunk.1 chunk.0 (size ∷ []) c.1 (last_one chunk.1 size z.1) in
    let fits : FitsRun (record { segment = segment.0; chunk = chunk.0; size = size }) = (omega (arith, g.0), omega (arith, c.0), omega (arith, z.0)) in
    let P : Run → Type 0 = λ r. IsRun text r in
    subst P (same_Some (record { segment = segment.0; chunk = chunk.0; size = size }) run last)
    (fits, one_more text segment.1 segment.0 (chunk.0 ∷ size ∷ []) g.1 end))))

-- ---- lines

-- the line of the step is this name, a space and these numbers, with LF, and the step's numbers fit their types
abbrev pub IsTold : Step → List ℕ → List ℕ → Type 0
IsTold step name rest = FitsStep step × (line_of step ≡ (name ++ 32 ∷ rest) ++ 10 ∷ [])

told_by : (step : Step) (name rest numbers : List ℕ) → FitsStep step → line_of step ≡ line name numbers → 32 ∷ rest ≡ numbers_text numbers → IsTold step name rest
told_by step name rest numbers fits is e = (fits, is ∙ ap (λ ds. (name ++ ds) ++ 10 ∷ []) (sym e))

set_run_told : (text : List ℕ) (step : Step) → set_run_of text ≡ Some step → IsTold step (codes "setrun") text
unfolding set_run_of line_of
set_run_told text step e =
    option_and_then_some _ (first_number u32_limit text) step e (λ seat is-seat after-seat.
    option_and_then_some _ (first_number u32_limit seat.1) step after-seat (λ queue is-queue after-queue.
    option_and_then_some _ (first_number u32_limit queue.1) step after-queue (λ item is-item after-item.
    option_and_then_some _ (run_of item.1) step after-item (λ run is-run last.
    let s = first_spelled u32_limit text seat (omega arith) is-seat in
    let q = first_spelled u32_limit seat.1 queue (omega arith) is-queue in
    let i = first_spelled u32_limit queue.1 item (omega arith) is-item in
    let r = run_spelled item.1 run is-run in
    let numbers = run.segment ∷ run.chunk ∷ run.size ∷ [] in
    let end = one_more queue.1 item.1 item.0 numbers i.1 r.1 in
    let middle = one_more seat.1 queue.1 queue.0 (item.0 ∷ numbers) q.1 end in
    let all = one_more text seat.1 seat.0 (queue.0 ∷ item.0 ∷ numbers) s.1 middle in
    let fits : FitsStep (SetRun seat.0 queue.0 item.0 run) = (omega (arith, s.0), omega (arith, q.0), omega (arith, i.0), r.0.0, r.0.1, r.0.2) in
    let P : Step → Type 0 = λ t. IsTold t (codes "setrun") text in
    subst P (same_Some (SetRun seat.0 queue.0 item.0 run) step last)
    (told_by (SetRun seat.0 queue.0 item.0 run) (codes "setrun") text (seat.0 ∷ queue.0 ∷ item.0 ∷ numbers) fits refl all)))))

abbrev pub item_word : ItemKind → List ℕ
item_word on.GetItem = codes "getitem"
item_word on.SetPart = codes "setpart"
item_word on.Arm = codes "arm"
item_word on.Push = codes "push"
item_word on.Pop = codes "pop"
item_word on.Settle = codes "settle"
item_word on.GiveItem = codes "giveitem"

abbrev pub word : Kind → List ℕ
word kind.Draw = codes "draw"
word kind.Claim = codes "claim"
word kind.Release = codes "release"
word kind.Open = codes "open"
word kind.SetRun = codes "setrun"
word (kind.OnItem which) = item_word which
word kind.Abandon = codes "abandon"

item_told : (which : ItemKind) (n : ItemNumbers) (rest : List ℕ) → IsItem rest n → IsTold (item_step which n) (item_word which) rest
unfolding item_step line_of
item_told on.GetItem n rest is = told_by (GetItem n.seat n.queue n.item n.number) (codes "getitem") rest (item_numbers n) is.0 refl is.1
item_told on.SetPart n rest is = told_by (SetPart n.seat n.queue n.item n.number) (codes "setpart") rest (item_numbers n) is.0 refl is.1
item_told on.Arm n rest is = told_by (Arm n.seat n.queue n.item n.number) (codes "arm") rest (item_numbers n) is.0 refl is.1
item_told on.Push n rest is = told_by (Push n.seat n.queue n.item n.number) (codes "push") rest (item_numbers n) is.0 refl is.1
item_told on.Pop n rest is = told_by (Pop n.seat n.queue n.item n.number) (codes "pop") rest (item_numbers n) is.0 refl is.1
item_told on.Settle n rest is = told_by (Settle n.seat n.queue n.item n.number) (codes "settle") rest (item_numbers n) is.0 refl is.1
item_told on.GiveItem n rest is = told_by (GiveItem n.seat n.queue n.item n.number) (codes "giveitem") rest (item_numbers n) is.0 refl is.1

-- a step made of what was read
made : {A : Type 0} (f : A → Step) (o : Option A) (step : Step) (name rest : List ℕ) → option_and_then (λ n. Some (f n)) o ≡ Some step
    → ((n : A) → o ≡ Some n → IsTold (f n) name rest) → IsTold step name rest
made f o step name rest e told =
    option_and_then_some (λ n. Some (f n)) o step e (λ n is last.
    let P : Step → Type 0 = λ t. IsTold t name rest in
    subst P (same_Some (f n) step last) (told n is))

with_told : (k : Kind) (rest : List ℕ) (step : Step) → step_with k rest ≡ Some step → IsTold step (word k) rest
unfolding step_with line_of
with_told kind.Draw rest step e = made (λ n. Draw n.0 n.1) (seat_and_number u64_limit rest) step (codes "draw") rest e (λ n is.
    let p = pair_spelled u64_limit rest n (omega arith) is in
    told_by (Draw n.0 n.1) (codes "draw") rest (n.0 ∷ n.1 ∷ []) (omega (arith, p.0), omega (arith, p.1)) refl p.2)
with_told kind.Abandon rest step e = made (λ n. Abandon n.0 n.1) (seat_and_number u64_limit rest) step (codes "abandon") rest e (λ n is.
    let p = pair_spelled u64_limit rest n (omega arith) is in
    told_by (Abandon n.0 n.1) (codes "abandon") rest (n.0 ∷ n.1 ∷ []) (omega (arith, p.0), omega (arith, p.1)) refl p.2)
with_told kind.Open rest step e = made (λ n. Open n.0 n.1) (seat_and_number u32_limit rest) step (codes "open") rest e (λ n is.
    let p = pair_spelled u32_limit rest n (omega arith) is in
    told_by (Open n.0 n.1) (codes "open") rest (n.0 ∷ n.1 ∷ []) (omega (arith, p.0), omega (arith, p.1)) refl p.2)
with_told kind.Claim rest step e = made (λ n. Claim n.0 n.1 n.2) (seat_and_chunk rest) step (codes "claim") rest e (λ n is.
    let p = chunk_spelled rest n is in
    told_by (Claim n.0 n.1 n.2) (codes "claim") rest (n.0 ∷ n.1 ∷ n.2 ∷ []) (omega (arith, p.0), omega (arith, p.1), omega (arith, p.2)) refl p.3)
with_told kind.Release rest step e = made (λ n. Release n.0 n.1 n.2) (seat_and_chunk rest) step (codes "release") rest e (λ n is.
    let p = chunk_spelled rest n is in
    told_by (Release n.0 n.1 n.2) (codes "release") rest (n.0 ∷ n.1 ∷ n.2 ∷ []) (omega (arith, p.0), omega (arith, p.1), omega (arith, p.2)) refl p.3)
with_told kind.SetRun rest step e = set_run_told rest step e
with_told (kind.OnItem which) rest step e = made (λ n. item_step which n) (on_item rest) step (item_word which) rest e (λ n is. item_told which n rest (item_spelled rest n is))

-- ---- words

is_word : (name : List ℕ) (k which : Kind) (b : Bool) (other : Option Kind) → bytes_eq name (word k) ≡ b → (if b then Some k else other) ≡ Some which
    → (other ≡ Some which → name ≡ word which) → name ≡ word which
is_word name k which true other is e next = (bytes_eq-Decides name (word k)).0 is ∙ ap word (same_Some k which e)
is_word name k which false other is e next = next e

named : (name : List ℕ) (k : Kind) → kind_of name ≡ Some k → name ≡ word k
unfolding kind_of
named name k e =
    is_word name kind.Draw k _ _ refl e (λ e.
    is_word name kind.Claim k _ _ refl e (λ e.
    is_word name kind.Release k _ _ refl e (λ e.
    is_word name kind.Open k _ _ refl e (λ e.
    is_word name (kind.OnItem on.GetItem) k _ _ refl e (λ e.
    is_word name kind.SetRun k _ _ refl e (λ e.
    is_word name (kind.OnItem on.SetPart) k _ _ refl e (λ e.
    is_word name (kind.OnItem on.Arm) k _ _ refl e (λ e.
    is_word name (kind.OnItem on.Push) k _ _ refl e (λ e.
    is_word name (kind.OnItem on.Pop) k _ _ refl e (λ e.
    is_word name (kind.OnItem on.Settle) k _ _ refl e (λ e.
    is_word name (kind.OnItem on.GiveItem) k _ _ refl e (λ e.
    is_word name kind.Abandon k _ _ refl e (λ e. absurd (cc e))))))))))))))

pub one_spelling : (step : Step) (text : List ℕ) → step_of text ≡ Some step → FitsStep step × (line_of step ≡ text ++ 10 ∷ [])
unfolding step_of
one_spelling step text e =
    option_and_then_some _ (cut text) step e (λ parts is-cut after.
    option_and_then_some _ (kind_of parts.0) step after (λ k is-kind numbers.
    let told = with_told k parts.1 step numbers in
    let spelled : text ≡ word k ++ 32 ∷ parts.1 = cut_joined text parts is-cut ∙ ap (λ name. name ++ 32 ∷ parts.1) (named parts.0 k is-kind) in
    (told.0, told.1 ∙ ap (λ t. t ++ 10 ∷ []) (sym spelled))))
