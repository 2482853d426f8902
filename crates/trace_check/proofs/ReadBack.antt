-- The line that a step is told by is read back as that step.
use Rattle.std.proofs.Common.{◌≡◌, ◌∙◌, ℕ, ◌^◌, ◌<◌, ◌≤◌, Bool, false, List, [], ◌∷◌, ◌++◌, length, take, refl, sym, ap, ap₂, arith, length-append}
use Rattle.std.specs.Prelude.{Some, codes, decimal}
use Rattle.std.proofs.lemmas.List.{append-nil}
use Rattle.trace_check.specs.Lines.{item_step, kind_of, on_item, run_of, seat_and_chunk, seat_and_number, set_run_of, step_of, step_with, u16_limit, u32_limit, u64_limit}
use Rattle.trace_check.specs.Numbers.{first_number, number_of}
use Rattle.unit_types.proofs.SpelledLemmas.{cut_at, decimal_no_byte, has_byte, number_back, take_front}
use Rattle.trace_check.specs.ReadBack.{FitsStep}
use Rattle.trace_check.specs.declared.line.ItemKind.{ItemKind}
use Rattle.trace_check.specs.declared.line.ItemKind.TheVariants as on
use Rattle.trace_check.specs.declared.line.Kind.{Kind}
use Rattle.trace_check.specs.declared.line.Kind.TheVariants as kind
use Rattle.unit_model.specs.Lines.{line, line_of, numbers_text}
use Rattle.unit_model.specs.declared.runs.Run.{Run}
use Rattle.unit_model.specs.declared.machine.Step.{Step}
use Rattle.unit_model.specs.declared.machine.Step.TheVariants.{Draw, Claim, Release, Open, GetItem, SetRun, SetPart, Arm, Push, Pop, Settle, GiveItem, Abandon}

-- ---- numbers and spaces

abbrev pub has_space : List ℕ → Bool
has_space text = has_byte 32 text

pub first_back : (limit n : ℕ) (rest : List ℕ) → n ≤ limit → n < 2 ^ 64 → first_number limit (decimal n ++ 32 ∷ rest) ≡ Some (n, rest)
first_back limit n rest le small =
    rw (cut_at 32 (decimal n) rest (decimal_no_byte 32 n (omega arith) small), number_back limit n le small) refl

pub last_back : (limit n : ℕ) → n ≤ limit → n < 2 ^ 64 → number_of limit (decimal n ++ []) ≡ Some n
last_back limit n le small = rw (append-nil (decimal n)) (number_back limit n le small)

-- ---- lines

step_by : (name rest : List ℕ) (kind : Kind) (step : Step) → has_space name ≡ false → kind_of name ≡ Some kind → step_with kind rest ≡ Some step
    → step_of (name ++ 32 ∷ rest) ≡ Some step
unfolding step_of
step_by name rest kind step none is numbers = rw (cut_at 32 name rest none, is, numbers) refl

pair_back : (limit seat n : ℕ) → seat < 2 ^ 32 → n ≤ limit → n < 2 ^ 64
    → seat_and_number limit (decimal seat ++ 32 ∷ (decimal n ++ [])) ≡ Some (seat, n)
unfolding seat_and_number
pair_back limit seat n s le small =
    rw (first_back u32_limit seat (decimal n ++ []) (omega arith) (omega arith), last_back limit n le small) refl

chunk_back : (seat segment chunk : ℕ) → seat < 2 ^ 32 → segment < 2 ^ 32 → chunk < 2 ^ 32
    → seat_and_chunk (decimal seat ++ 32 ∷ (decimal segment ++ 32 ∷ (decimal chunk ++ []))) ≡ Some (seat, segment, chunk)
unfolding seat_and_chunk
chunk_back seat segment chunk s g c =
    rw (first_back u32_limit seat (decimal segment ++ 32 ∷ (decimal chunk ++ [])) (omega arith) (omega arith), first_back u32_limit segment (decimal chunk ++ []) (omega arith) (omega arith), last_back u32_limit chunk (omega arith) (omega arith)) refl

item_back : (seat queue item n : ℕ) → seat < 2 ^ 32 → queue < 2 ^ 32 → item < 2 ^ 32 → n < 2 ^ 64
    → on_item (decimal seat ++ 32 ∷ (decimal queue ++ 32 ∷ (decimal item ++ 32 ∷ (decimal n ++ [])))) ≡ Some (record { seat = seat; queue = queue; item = item; number = n })
unfolding on_item
item_back seat queue item n s q i small =
    rw (first_back u32_limit seat (decimal queue ++ 32 ∷ (decimal item ++ 32 ∷ (decimal n ++ []))) (omega arith) (omega arith), first_back u32_limit queue (decimal item ++ 32 ∷ (decimal n ++ [])) (omega arith) (omega arith), first_back u32_limit item (decimal n ++ []) (omega arith) (omega arith), last_back u64_limit n (omega arith) small) refl

run_back : (run : Run) → run.segment < 2 ^ 16 → run.chunk < 2 ^ 16 → run.size < 2 ^ 32
    → run_of (decimal run.segment ++ 32 ∷ (decimal run.chunk ++ 32 ∷ (decimal run.size ++ []))) ≡ Some run
unfolding run_of
run_back run s c z =
    rw (first_back u16_limit run.segment (decimal run.chunk ++ 32 ∷ (decimal run.size ++ [])) (omega arith) (omega arith), first_back u16_limit run.chunk (decimal run.size ++ []) (omega arith) (omega arith), last_back u32_limit run.size (omega arith) (omega arith)) refl

set_run_back : (seat queue item : ℕ) (run : Run) → seat < 2 ^ 32 → queue < 2 ^ 32 → item < 2 ^ 32 → run.segment < 2 ^ 16 → run.chunk < 2 ^ 16 → run.size < 2 ^ 32
    → set_run_of (decimal seat ++ 32 ∷ (decimal queue ++ 32 ∷ (decimal item ++ 32 ∷ (decimal run.segment ++ 32 ∷ (decimal run.chunk ++ 32 ∷ (decimal run.size ++ [])))))) ≡ Some (SetRun seat queue item run)
unfolding set_run_of
set_run_back seat queue item run s q i g c z =
    let rest = decimal run.segment ++ 32 ∷ (decimal run.chunk ++ 32 ∷ (decimal run.size ++ [])) in
    rw (first_back u32_limit seat (decimal queue ++ 32 ∷ (decimal item ++ 32 ∷ rest)) (omega arith) (omega arith), first_back u32_limit queue (decimal item ++ 32 ∷ rest) (omega arith) (omega arith), first_back u32_limit item rest (omega arith) (omega arith), run_back run g c z) refl

-- the line without its LF
abbrev pub text_of : List ℕ → List ℕ → List ℕ
text_of name numbers = name ++ numbers_text numbers

abbrev pub says : Step → List ℕ → List ℕ → Type 0
says step name numbers = step_of (text_of name numbers) ≡ Some step

draw_back : (seat stream : ℕ) → seat < 2 ^ 32 → stream < 2 ^ 64 → says (Draw seat stream) (codes "draw") (seat ∷ stream ∷ [])
unfolding kind_of step_with
draw_back seat stream s n = step_by (codes "draw") _ kind.Draw _ refl refl (rw (pair_back u64_limit seat stream s (omega arith) n) refl)

abandon_back : (seat stream : ℕ) → seat < 2 ^ 32 → stream < 2 ^ 64 → says (Abandon seat stream) (codes "abandon") (seat ∷ stream ∷ [])
unfolding kind_of step_with
abandon_back seat stream s n = step_by (codes "abandon") _ kind.Abandon _ refl refl (rw (pair_back u64_limit seat stream s (omega arith) n) refl)

open_back : (seat count : ℕ) → seat < 2 ^ 32 → count < 2 ^ 32 → says (Open seat count) (codes "open") (seat ∷ count ∷ [])
unfolding kind_of step_with
open_back seat count s n = step_by (codes "open") _ kind.Open _ refl refl (rw (pair_back u32_limit seat count s (omega arith) (omega arith)) refl)

claim_back : (seat segment chunk : ℕ) → seat < 2 ^ 32 → segment < 2 ^ 32 → chunk < 2 ^ 32 → says (Claim seat segment chunk) (codes "claim") (seat ∷ segment ∷ chunk ∷ [])
unfolding kind_of step_with
claim_back seat segment chunk s g c = step_by (codes "claim") _ kind.Claim _ refl refl (rw (chunk_back seat segment chunk s g c) refl)

release_back : (seat segment chunk : ℕ) → seat < 2 ^ 32 → segment < 2 ^ 32 → chunk < 2 ^ 32 → says (Release seat segment chunk) (codes "release") (seat ∷ segment ∷ chunk ∷ [])
unfolding kind_of step_with
release_back seat segment chunk s g c = step_by (codes "release") _ kind.Release _ refl refl (rw (chunk_back seat segment chunk s g c) refl)

item_says : (name : List ℕ) (which : ItemKind) (seat queue item n : ℕ) → has_space name ≡ false → kind_of name ≡ Some (kind.OnItem which)
    → seat < 2 ^ 32 → queue < 2 ^ 32 → item < 2 ^ 32 → n < 2 ^ 64
    → says (item_step which (record { seat = seat; queue = queue; item = item; number = n })) name (seat ∷ queue ∷ item ∷ n ∷ [])
unfolding step_with
item_says name which seat queue item n none is s q i small =
    step_by name _ (kind.OnItem which) _ none is (rw (item_back seat queue item n s q i small) refl)

set_run_says : (seat queue item : ℕ) (run : Run) → seat < 2 ^ 32 → queue < 2 ^ 32 → item < 2 ^ 32 → run.segment < 2 ^ 16 → run.chunk < 2 ^ 16 → run.size < 2 ^ 32
    → says (SetRun seat queue item run) (codes "setrun") (seat ∷ queue ∷ item ∷ run.segment ∷ run.chunk ∷ run.size ∷ [])
unfolding kind_of step_with
set_run_says seat queue item run s q i g c z = step_by (codes "setrun") _ kind.SetRun _ refl refl (set_run_back seat queue item run s q i g c z)

-- the texts in front of a last byte are one
pub same_front : (xs ys : List ℕ) (b : ℕ) → xs ++ b ∷ [] ≡ ys ++ b ∷ [] → ys ≡ xs
same_front xs ys b e =
    let all = ap length e in
    let lengths : length ys ≡ length xs = omega (arith, all, length-append xs (b ∷ []), length-append ys (b ∷ [])) in
    sym (take_front ys b []) ∙ ap₂ take lengths (sym e) ∙ take_front xs b []

said : (step : Step) (name numbers text : List ℕ) → says step name numbers → line name numbers ≡ text ++ 10 ∷ [] → step_of text ≡ Some step
said step name numbers text says e = ap step_of (same_front (text_of name numbers) text 10 e) ∙ says

pub read_back : (step : Step) → FitsStep step → (text : List ℕ) → line_of step ≡ text ++ 10 ∷ [] → step_of text ≡ Some step
unfolding line_of kind_of item_step
read_back (Draw seat stream) fits text e = said (Draw seat stream) (codes "draw") (seat ∷ stream ∷ []) text (draw_back seat stream fits.0 fits.1) e
read_back (Claim seat segment chunk) fits text e = said (Claim seat segment chunk) (codes "claim") (seat ∷ segment ∷ chunk ∷ []) text (claim_back seat segment chunk fits.0 fits.1 fits.2) e
read_back (Release seat segment chunk) fits text e = said (Release seat segment chunk) (codes "release") (seat ∷ segment ∷ chunk ∷ []) text (release_back seat segment chunk fits.0 fits.1 fits.2) e
read_back (Open seat count) fits text e = said (Open seat count) (codes "open") (seat ∷ count ∷ []) text (open_back seat count fits.0 fits.1) e
read_back (GetItem seat queue item place) fits text e = said (GetItem seat queue item place) (codes "getitem") (seat ∷ queue ∷ item ∷ place ∷ []) text (item_says (codes "getitem") on.GetItem seat queue item place refl refl fits.0 fits.1 fits.2 fits.3) e
read_back (SetRun seat queue item run) fits text e = said (SetRun seat queue item run) (codes "setrun") (seat ∷ queue ∷ item ∷ run.segment ∷ run.chunk ∷ run.size ∷ []) text (set_run_says seat queue item run fits.0 fits.1 fits.2 fits.3 fits.4 fits.5) e
read_back (SetPart seat queue item part) fits text e = said (SetPart seat queue item part) (codes "setpart") (seat ∷ queue ∷ item ∷ part ∷ []) text (item_says (codes "setpart") on.SetPart seat queue item part refl refl fits.0 fits.1 fits.2 fits.3) e
read_back (Arm seat queue item stream) fits text e = said (Arm seat queue item stream) (codes "arm") (seat ∷ queue ∷ item ∷ stream ∷ []) text (item_says (codes "arm") on.Arm seat queue item stream refl refl fits.0 fits.1 fits.2 fits.3) e
read_back (Push seat queue item place) fits text e = said (Push seat queue item place) (codes "push") (seat ∷ queue ∷ item ∷ place ∷ []) text (item_says (codes "push") on.Push seat queue item place refl refl fits.0 fits.1 fits.2 fits.3) e
read_back (Pop seat queue item place) fits text e = said (Pop seat queue item place) (codes "pop") (seat ∷ queue ∷ item ∷ place ∷ []) text (item_says (codes "pop") on.Pop seat queue item place refl refl fits.0 fits.1 fits.2 fits.3) e
read_back (Settle seat queue item stream) fits text e = said (Settle seat queue item stream) (codes "settle") (seat ∷ queue ∷ item ∷ stream ∷ []) text (item_says (codes "settle") on.Settle seat queue item stream refl refl fits.0 fits.1 fits.2 fits.3) e
read_back (GiveItem seat queue item place) fits text e = said (GiveItem seat queue item place) (codes "giveitem") (seat ∷ queue ∷ item ∷ place ∷ []) text (item_says (codes "giveitem") on.GiveItem seat queue item place refl refl fits.0 fits.1 fits.2 fits.3) e
read_back (Abandon seat stream) fits text e = said (Abandon seat stream) (codes "abandon") (seat ∷ stream ∷ []) text (abandon_back seat stream fits.0 fits.1) e
