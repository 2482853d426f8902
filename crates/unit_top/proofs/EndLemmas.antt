-- How commands end.
use Rattle.std.proofs.Common.{ℕ, ◌≡◌, ◌≢◌, ◌⊎◌, inl, inr, ◌∙◌, sym, ap, refl, subst, cond, List, [], ◌∷◌, Bool, true, false, ◌&&◌, if◌then◌else◌, bytes_eq, codes, length, Option, Some, None, Result, Ok, Err, OnOk, IfErr, nat_le, arith}
use Rattle.std.proofs.lemmas.List.{append-nil}
use Rattle.unit_types.specs.declared.message.Request.{Request}
use Rattle.unit_types.specs.declared.message.Reply.{Reply}
use Rattle.http_front.specs.Session.{once_of}
use Rattle.unit_io.specs.declared.stop.Stop.{Stop}
use Rattle.unit_io.specs.declared.stop.Stop.TheVariants as stop
use Rattle.unit_io.specs.Status.{IsReadStop, input_limit, status_in, status_of}
use Rattle.unit_io.specs.Told.{Adds, AddsFront}
use Rattle.unit_top.specs.Check.{IsCheckRead, check_outcome}
use Rattle.unit_types.specs.Numeral.{plain_decimal_within}
use Rattle.unit_top.specs.Command.{Command, Once, Exchange, Trace, Check, Load, command_of, is_listed, load_by, load_command, load_limit}
use Rattle.unit_top.specs.Ends.{EndsAs, IsEnd, IsInput, IsPlace, IsStatus, line_of_status, outcome_of}
use Rattle.unit_top.specs.Exchange.{exchange_outcome}
use Rattle.unit_top.specs.Outcome.{Outcome, Refused, Written, once_outcome, output_in}
use Rattle.unit_top.specs.Trace.{trace_outcome}

pub is_status : {T : Type 0} (r : Result T Stop) → IsStatus (status_in r)
is_status (Ok x) = inl refl
is_status (Err stop.Usage) = inr (inl refl)
is_status (Err stop.Read) = inr (inr (inl refl))
is_status (Err stop.Write) = inr (inr (inr (inl refl)))
is_status (Err stop.Memory) = inr (inr (inr (inr (inl refl))))
is_status (Err (stop.Input place)) = inr (inr (inr (inr (inr (inl refl)))))
is_status (Err stop.Illegal) = inr (inr (inr (inr (inr (inr refl)))))

-- the words ask for one command
pub one_command : (asked : Option Command) (command other : Command) → asked ≡ Some command → asked ≡ Some other → command ≡ other
one_command asked command other is is_other = cc (is, is_other)

-- ---- ends by faults and for want of memory

broken_off : (outcome : Outcome) (status : ℕ) → (status ≡ 3) ⊎ (status ≡ 5) → IsEnd outcome status
broken_off (Refused place) status ends = inr ends
broken_off (Written output end) status (inl three) = inr (inl three)
broken_off (Written output end) status (inr five) = inr (inr (inr five))

pub front_none : (before after : Option (List ℕ)) (output : List ℕ) → after ≡ before → AddsFront before after output
front_none before after output same contents is = ([], output, refl, same ∙ is ∙ ap Some (sym (append-nil contents)))

-- nothing was written
pub ends_early : (outcome : Outcome) (status : ℕ) (before after : Option (List ℕ)) → (status ≡ 3) ⊎ (status ≡ 5) → after ≡ before → EndsAs outcome status before after
ends_early outcome status before after ends same = record {
  end = broken_off outcome status ends;
  whole = λ e. absurd (not_done ends e);
  front = λ e. front_none before after (output_in outcome) same;
}
  where
    not_done : (status ≡ 3) ⊎ (status ≡ 5) → (status ≡ 0) ⊎ (status ≡ 8) → ⊥
    not_done (inl is) (inl e) = omega arith
    not_done (inl is) (inr e) = omega arith
    not_done (inr is) (inl e) = omega arith
    not_done (inr is) (inr e) = omega arith

pub ends_refused : (place status : ℕ) (before after : Option (List ℕ)) → status ≡ 6 → EndsAs (Refused place) status before after
ends_refused place status before after six = record {
  end = inl six;
  whole = λ e. absurd (not_done six e);
  front = λ e. absurd (not_broken six e);
}
  where
    not_done : status ≡ 6 → (status ≡ 0) ⊎ (status ≡ 8) → ⊥
    not_done is (inl e) = omega arith
    not_done is (inr e) = omega arith

    not_broken : status ≡ 6 → (status ≡ 4) ⊎ (status ≡ 5) → ⊥
    not_broken is (inl e) = omega arith
    not_broken is (inr e) = omega arith

-- the input wasn't read to its end
pub ends_unread : (outcome : Outcome) (s : Stop) (written : Option (List ℕ)) → IsReadStop s → (status_of s ≡ 6 → outcome ≡ Refused input_limit)
    → EndsAs outcome (status_of s) written written
ends_unread outcome s written (inl is) long = ends_early outcome (status_of s) written written (inl (ap status_of is)) refl
ends_unread outcome s written (inr (inl is)) long = ends_early outcome (status_of s) written written (inr (ap status_of is)) refl
ends_unread outcome s written (inr (inr is)) long =
    let six : status_of s ≡ 6 = ap status_of is in
    subst (λ (o : Outcome). EndsAs o (status_of s) written written) (sym (long six)) (ends_refused input_limit (status_of s) written written six)

-- all was written, and a front of it
pub ends_written : (output : List ℕ) (status : ℕ) (before after : Option (List ℕ)) → (status ≡ 0) ⊎ (status ≡ 8) → Adds before after output
    → EndsAs (Written output status) status before after
ends_written output status before after ends adds = record {
  end = inl refl;
  whole = λ e. adds;
  front = λ e. absurd (not_broken ends e);
}
  where
    not_broken : (status ≡ 0) ⊎ (status ≡ 8) → (status ≡ 4) ⊎ (status ≡ 5) → ⊥
    not_broken (inl is) (inl e) = omega arith
    not_broken (inl is) (inr e) = omega arith
    not_broken (inr is) (inl e) = omega arith
    not_broken (inr is) (inr e) = omega arith

pub ends_in_front : (output : List ℕ) (end status : ℕ) (before after : Option (List ℕ)) → (status ≡ 4) ⊎ (status ≡ 5) → AddsFront before after output
    → EndsAs (Written output end) status before after
ends_in_front output end status before after ends front = record {
  end = inr (inr ends);
  whole = λ e. absurd (not_done ends e);
  front = λ e. front;
}
  where
    not_done : (status ≡ 4) ⊎ (status ≡ 5) → (status ≡ 0) ⊎ (status ≡ 8) → ⊥
    not_done (inl is) (inl e) = omega arith
    not_done (inl is) (inr e) = omega arith
    not_done (inr is) (inl e) = omega arith
    not_done (inr is) (inr e) = omega arith

-- ---- `once`

abbrev once_by : (List ℕ → Request → Reply) → List ℕ → List ℕ → Bool → Outcome
once_by reply_of handler input fits = cond fits (Written (once_of reply_of handler input) 0) (Refused input_limit)

-- a refused input is refused with the limit
pub once_refused : (reply_of : List ℕ → Request → Reply) (handler input : List ℕ) → IsEnd (once_outcome reply_of handler input) 6
    → once_outcome reply_of handler input ≡ Refused input_limit
once_refused reply_of handler input ends = by_fit (nat_le (length input) input_limit) ends
  where
    by_fit : (fits : Bool) → IsEnd (once_by reply_of handler input fits) 6 → once_by reply_of handler input fits ≡ Refused input_limit
    by_fit true (inl e) = absurd (omega arith)
    by_fit true (inr (inl e)) = absurd (omega arith)
    by_fit true (inr (inr (inl e))) = absurd (omega arith)
    by_fit true (inr (inr (inr e))) = absurd (omega arith)
    by_fit false ends = refl

-- ---- `check`

-- what was read stays what it was, where a fault of the sink or want of memory ends the check
pub read_before_fault : (status end : ℕ) (trace : List ℕ) (after : Option (List ℕ)) → (end ≡ status) ⊎ ((end ≡ 4) ⊎ (end ≡ 5))
    → IsCheckRead status trace after → IsCheckRead end trace after
read_before_fault status end trace after (inl is) read = subst (λ (n : ℕ). IsCheckRead n trace after) (sym is) read
read_before_fault status end trace after (inr ends) read = record {
  before = read.before;
  piece = read.piece;
  rest = read.rest;
  parts = read.parts;
  left = read.left;
  undecided = read.undecided;
  short = read.short;
  fault = λ e. absurd (other 3 ends (λ x. omega arith) (λ x. omega arith) e);
  whole = λ e. absurd (other 0 ends (λ x. omega arith) (λ x. omega arith) e);
  verdict = neither (other 0 ends (λ x. omega arith) (λ x. omega arith)) (other 8 ends (λ x. omega arith) (λ x. omega arith));
}
  where
    other : (n : ℕ) → (end ≡ 4) ⊎ (end ≡ 5) → n ≢ 4 → n ≢ 5 → end ≡ n → ⊥
    other n (inl four) not4 not5 e = not4 (sym e ∙ four)
    other n (inr five) not4 not5 e = not5 (sym e ∙ five)

    neither : {A : Type 0} → (end ≡ 0 → ⊥) → (end ≡ 8 → ⊥) → (end ≡ 0) ⊎ (end ≡ 8) → A
    neither not0 not8 (inl e) = absurd (not0 e)
    neither not0 not8 (inr e) = absurd (not8 e)

-- a part of the text was written, or none
pub ends_cut : (output : List ℕ) (end : ℕ) (s : Stop) (before after : Option (List ℕ)) → (s ≡ stop.Memory) ⊎ (s ≡ stop.Write) → AddsFront before after output
    → EndsAs (Written output end) (status_of s) before after
ends_cut output end s before after (inl is) front = ends_in_front output end (status_of s) before after (inr (ap status_of is)) front
ends_cut output end s before after (inr is) front = ends_in_front output end (status_of s) before after (inl (ap status_of is)) front

pub ends_with_0 : {T : Type 0} (r : Result T Stop) (output : List ℕ) (before after : Option (List ℕ)) → OnOk r (Adds before after output) → AddsFront before after output
    → IfErr r (λ s. (s ≡ stop.Memory) ⊎ (s ≡ stop.Write)) → EndsAs (Written output 0) (status_in r) before after
ends_with_0 (Ok x) output before after adds front stops = ends_written output 0 before after (inl refl) adds
ends_with_0 (Err s) output before after adds front stops = ends_cut output 0 s before after stops front

-- ---- the command that the words ask for

pub command_ends : (reply_of : List ℕ → Request → Reply) (names : List (List ℕ)) (asked : Option Command) (own : Command) (left before after : Option (List ℕ)) (status result : ℕ)
    → result ≡ status → asked ≡ Some own → ((input : List ℕ) → IsInput own left input → EndsAs (outcome_of reply_of names own input) status before after)
    → (command : Command) → asked ≡ Some command → (input : List ℕ) → IsInput command left input → EndsAs (outcome_of reply_of names command input) result before after
command_ends reply_of names asked own left before after status result same is ends command other input =
    subst (λ (d : Command). IsInput d left input → EndsAs (outcome_of reply_of names d input) result before after) (one_command asked own command is other)
    (λ told. subst (λ (n : ℕ). EndsAs (outcome_of reply_of names own input) n before after) (sym same) (ends input told))

-- the place with which the input is refused
command_place : (reply_of : List ℕ → Request → Reply) (names : List (List ℕ)) (asked : Option Command) (own : Command) (left : Option (List ℕ)) (status result place : ℕ)
    → result ≡ status → asked ≡ Some own → (status ≡ 6 → IsPlace reply_of names own left place)
    → result ≡ 6 → (command : Command) → asked ≡ Some command → IsPlace reply_of names command left place
command_place reply_of names asked own left status result place same is at six command other =
    subst (λ (d : Command). IsPlace reply_of names d left place) (one_command asked own command is other) (at (sym same ∙ six))

-- its line on `err`, and the place that it tells
pub command_line : (reply_of : List ℕ → Request → Reply) (names : List (List ℕ)) (asked : Option Command) (own : Command) (left before after : Option (List ℕ)) (status result place : ℕ)
    {Quiet : Type 0} → result ≡ status → asked ≡ Some own → (Quiet → Adds before after (line_of_status status place)) → AddsFront before after (line_of_status status place)
    → (status ≡ 6 → IsPlace reply_of names own left place)
    → (told : ℕ) × (Quiet → Adds before after (line_of_status result told)) × AddsFront before after (line_of_status result told)
    × (result ≡ 6 → (command : Command) → asked ≡ Some command → IsPlace reply_of names command left told)
command_line reply_of names asked own left before after status result place same is line front at = (
  place,
  λ quiet. subst (λ (n : ℕ). Adds before after (line_of_status n place)) (sym same) (line quiet),
  subst (λ (n : ℕ). AddsFront before after (line_of_status n place)) (sym same) front,
  command_place reply_of names asked own left status result place same is at,
)

pub once_place : (reply_of : List ℕ → Request → Reply) (names : List (List ℕ)) (handler : List ℕ) (left before after : Option (List ℕ)) (status place : ℕ)
    → ((input : List ℕ) → left ≡ Some input → EndsAs (once_outcome reply_of handler input) status before after)
    → (status ≡ 6 → place ≡ input_limit) → status ≡ 6 → IsPlace reply_of names (Once handler) left place
once_place reply_of names handler left before after status place ends limit six =
    let at : place ≡ input_limit = limit six in
    record {
      told = λ input told. once_refused reply_of handler input (subst (λ (n : ℕ). IsEnd (once_outcome reply_of handler input) n) six (ends input told).end) ∙ ap Refused (sym at);
      once = λ h e. at;
    }

not_exchange : (handler : List ℕ) → Exchange ≡ Once handler → ⊥
not_exchange handler e = cc e

not_trace : (handler : List ℕ) → Trace ≡ Once handler → ⊥
not_trace handler e = cc e

not_check : (handler : List ℕ) → Check ≡ Once handler → ⊥
not_check handler e = cc e

pub exchange_place : (reply_of : List ℕ → Request → Reply) (names : List (List ℕ)) (left : Option (List ℕ)) (place : ℕ)
    → ((input : List ℕ) → left ≡ Some input → exchange_outcome reply_of names input ≡ Refused place) → IsPlace reply_of names Exchange left place
exchange_place reply_of names left place refused = record { told = refused; once = λ h e. absurd (not_exchange h e) }

pub trace_place : (reply_of : List ℕ → Request → Reply) (names : List (List ℕ)) (left : Option (List ℕ)) (place : ℕ)
    → ((input : List ℕ) → left ≡ Some input → trace_outcome reply_of names input ≡ Refused place) → IsPlace reply_of names Trace left place
trace_place reply_of names left place refused = record { told = refused; once = λ h e. absurd (not_trace h e) }

pub check_place : (reply_of : List ℕ → Request → Reply) (names : List (List ℕ)) (left : Option (List ℕ)) (place : ℕ)
    → ((trace : List ℕ) → left ≡ Some trace → check_outcome trace ≡ Refused place) → IsPlace reply_of names Check left place
check_place reply_of names left place refused = record { told = refused; once = λ h e. absurd (not_check h e) }

-- ---- a handler that `once` names is there

pub asks_listed : (names words : List (List ℕ)) (handler : List ℕ) → command_of names words ≡ Some (Once handler) → is_listed names handler ≡ true
unfolding load_command
asks_listed names [] handler is = absurd (cc is)
asks_listed names (word ∷ []) handler is = by (bytes_eq word (codes "exchange")) (bytes_eq word (codes "trace")) (bytes_eq word (codes "check")) is
  where
    by : (exchange trace check : Bool) → (if exchange then Some Exchange else if trace then Some Trace else if check then Some Check else None) ≡ Some (Once handler)
        → is_listed names handler ≡ true
    by true trace check is = absurd (cc is)
    by false true check is = absurd (cc is)
    by false false true is = absurd (cc is)
    by false false false is = absurd (cc is)
asks_listed names (word ∷ other ∷ []) handler is = by (bytes_eq word (codes "once")) (is_listed names other) refl is
  where
    by : (once listed : Bool) → is_listed names other ≡ listed → (if once && listed then Some (Once other) else None) ≡ Some (Once handler) → is_listed names handler ≡ true
    by true true there is = let same : other ≡ handler = cc is in subst (λ (name : List ℕ). is_listed names name ≡ true) same there
    by true false there is = absurd (cc is)
    by false listed there is = absurd (cc is)
asks_listed names (word ∷ requests ∷ seed ∷ []) handler is =
    by (bytes_eq word (codes "load")) (plain_decimal_within load_limit requests) (plain_decimal_within 18446744073709551615 seed) is
  where
    by_number : (some : Bool) (n state : ℕ) → (if some then Some (Load n state) else None) ≡ Some (Once handler) → is_listed names handler ≡ true
    by_number true n state is = absurd (cc is)
    by_number false n state is = absurd (cc is)

    by : (load : Bool) (n state : Option ℕ) → (if load then load_by n state else None) ≡ Some (Once handler) → is_listed names handler ≡ true
    by false n state is = absurd (cc is)
    by true None state is = absurd (cc is)
    by true (Some n) None is = absurd (cc is)
    by true (Some n) (Some state) is = by_number (nat_le 1 n) n state is
asks_listed names (a ∷ b ∷ c ∷ d ∷ es) handler is = absurd (cc is)
