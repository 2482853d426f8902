-- What `clap` has for words without a fault: each argument's values pass its parser and are as many
-- as it takes, and each of the four has some.
use Rattle.std.proofs.Common.{◌≡◌, ◌∙◌, ◌==◌, ◌≤◌, ◌&&◌, ◌||◌, ◌++◌, ℕ, Bool, cond, codes, not, true, false, refl, sym, ap, subst, arith, append-nil, eqb-true, ltb-false, nat_lt, List, [], ◌∷◌, length, Option, Some, None, is_some}
use Rattle.std.specs.Prelude.{IfSome, unwrap_or}
use Rattle.std.specs.List.{All, find, fold}
use Rattle.std.specs.Option.{option_map_or}
use Rattle.std.specs.Str.{bytes_eq}
use Rattle.std.proofs.lemmas.Bool.{or_parts, or_right}
use Rattle.std.proofs.lemmas.List.Elements.{All-from_recursion, All-nil, All-push}
use Rattle.std.proofs.lemmas.Slice.Eq.{bytes_eq-Decides}
use Rattle.clap.specs.Facts.{explicit_source, unwrap_or_range}
use Rattle.clap.specs.Faults.{action_fault, repeat_fault, set_fault, values_fault}
use Rattle.clap.specs.Kinds.{check_kinds, range_kinds}
use Rattle.clap.specs.Simple.{argument_words, built, filled, filled_from, help_rule, matches_of, names_of, with_index}
use Rattle.clap.specs.Takes.{is_given}
use Rattle.clap.specs.Walk.{Row, Rule, Text, action_of, all_of, arg_by_id, at_row, default_rows, has_row, more_values, most_values, nothing_held, reading_by, settled, used, used_as, values_or_missing, walk, with_default, with_values, without}
use Rattle.clap.specs.declared.builder.action.ArgAction.{ArgAction}
use Rattle.clap.specs.declared.builder.action.ArgAction.TheVariants.{Help, Set}
use Rattle.clap.specs.declared.error.kind.ErrorKind.TheVariants as kind
use Rattle.clap.specs.declared.parser.matches.ValueSource.{ValueSource}
use Rattle.clap.specs.declared.parser.matches.ValueSource.TheVariants.{CommandLine, DefaultValue}
use Rattle.unit_serve.specs.Serve.{HasMatches, accept, control, ports, serve, workers}
use Rattle.unit_serve.proofs.WalkKept.{IsDefaultKept, IsKeptBy, both_pass, find_each, level_checked, level_keeps}

-- the arguments of the built command
abbrev pub rules : List Rule
rules = (built serve).top.rules

abbrev pub workers_rule : Rule
workers_rule = with_index 1 (filled workers)

abbrev pub accept_rule : Rule
accept_rule = with_index 1 (filled accept)

abbrev pub control_rule : Rule
control_rule = with_index 1 (filled control)

abbrev pub ports_rule : Rule
ports_rule = with_index 2 (filled ports)

abbrev help_built : Rule
help_built = with_index 3 (filled help_rule)

-- the values are as many as the argument takes, and each passes its parser
abbrev pub Passes : Rule → List Text → Type 0
Passes a values = (values_fault a values ≡ []) × (1 ≤ length values) × (length values ≤ most_values a)

abbrev Fits : Row → Type 0
Fits r = (a : Rule) → arg_by_id rules r.id ≡ Some a → Passes a r.values

-- ---- a use, and a default

added : (id : Text) (change : Row → List Row) (missing rows : List Row) → has_row id rows ≡ false → at_row id change missing rows ≡ rows ++ missing
added id change missing [] e = refl
added id change missing (r ∷ rs) e =
    let parts = or_parts (bytes_eq r.id id) _ e in
    rw parts.0 (ap (λ (xs : List Row). r ∷ xs) (added id change missing rs parts.1))

joined : (a : Rule) (s : ValueSource) (values : List Text) (rows : List Row) → has_row a.id rows ≡ false → arg_by_id rules a.id ≡ Some a
    → Passes a values → All Fits rows → All Fits (with_values a.id (reading_by a) s values rows)
joined a s values rows new own passes h =
    let row : Row = record { id = a.id; values = values; count = None; source = Some s; reading = reading_by a } in
    subst (All Fits) (sym (added a.id (more_values s values) (row ∷ []) rows new))
    (All-push Fits rows row h (λ b is. subst (λ (x : Rule). Passes x values) (ap (λ (o : Option Rule). unwrap_or o a) (sym own ∙ is)) passes))

range_fits : (most n : ℕ) → range_kinds 1 most n ≡ [] → (1 ≤ n) × (n ≤ most)
range_fits most n e = go (n == 0) (1 == most) (1 == n) (nat_lt n 1) (nat_lt most n) refl refl refl refl e
  where
    go : (none one exact under over : Bool) → (1 == most) ≡ one → (1 == n) ≡ exact → nat_lt n 1 ≡ under → nat_lt most n ≡ over
        → cond none (kind.InvalidValue ∷ []) (cond one (cond exact [] (kind.WrongNumberOfValues ∷ []))
        (cond under (kind.TooFewValues ∷ []) (cond over (kind.TooManyValues ∷ []) []))) ≡ []
        → (1 ≤ n) × (n ≤ most)
    go true one exact under over o x u v e = cc
    go false true true under over o x u v e = (omega (arith, eqb-true _ _ x), omega (arith, eqb-true _ _ o, eqb-true _ _ x))
    go false true false under over o x u v e = cc
    go false false exact true over o x u v e = cc
    go false false exact false true o x u v e = cc
    go false false exact false false o x u v e = (omega (arith, ltb-false _ _ u), omega (arith, ltb-false _ _ v))

no_repeat : (id : Text) (rows : List Row) → repeat_fault false id rows ≡ [] → has_row id rows ≡ false
no_repeat id rows e = go (has_row id rows) e
  where
    go : (b : Bool) → cond (b && true) (kind.ArgumentConflict ∷ []) [] ≡ [] → b ≡ false
    go true e = cc
    go false e = refl

set_kept : (a : Rule) → arg_by_id rules a.id ≡ Some a → action_of a ≡ Set → (unwrap_or_range a.range).start_inclusive ≡ 1 → IsKeptBy (All Fits) false a
set_kept a own set least values rows e h =
    let parts = both_pass (range_kinds (unwrap_or_range a.range).start_inclusive (most_values a) (length values)) _ e in
    let range = range_fits (most_values a) (length values) (subst (λ (n : ℕ). range_kinds n (most_values a) (length values) ≡ []) least parts.0) in
    go values range (subst (λ (x : ArgAction). action_fault x false a (values_or_missing a values) rows ≡ []) set parts.1)
  where
    go : (vs : List Text) → (1 ≤ length vs) × (length vs ≤ most_values a) → set_fault false a (values_or_missing a vs) rows ≡ [] → All Fits (used a vs rows)
    go [] range f = absurd (omega (arith, range.0))
    go (v ∷ vs) range f =
        let two = both_pass (repeat_fault false a.id rows) _ f in
        let new = no_repeat a.id rows two.0 in
        let same : without a.id rows ≡ rows = added a.id (λ (r : Row). []) [] rows new ∙ append-nil rows in
        subst (λ (x : ArgAction). All Fits (used_as x a.id (reading_by a) (v ∷ vs) rows)) (sym set)
        (subst (λ (rs : List Row). All Fits (with_values a.id (reading_by a) CommandLine (v ∷ vs) rs)) (sym same)
        (joined a CommandLine (v ∷ vs) rows new own (two.1, range.0, range.1) h))

-- no use of the help flag passes
help_kept : (a : Rule) → action_of a ≡ Help → IsKeptBy (All Fits) false a
help_kept a help values rows e h =
    let parts = both_pass (range_kinds (unwrap_or_range a.range).start_inclusive (most_values a) (length values)) _ e in
    let no : kind.DisplayHelp ∷ [] ≡ [] = subst (λ (x : ArgAction). action_fault x false a (values_or_missing a values) rows ≡ []) help parts.1 in
    cc

uses_keep : All (IsKeptBy (All Fits) false) rules
uses_keep = All-from_recursion (IsKeptBy (All Fits) false) rules
    (set_kept workers_rule refl refl refl, (set_kept accept_rule refl refl refl, (set_kept control_rule refl refl refl, (set_kept ports_rule refl refl refl, (help_kept help_built refl, tt)))))

given_kept : (a : Rule) → arg_by_id rules a.id ≡ Some a → Passes a a.defaults → IsDefaultKept (All Fits) a
given_kept a own passes before h = go (has_row a.id before) refl
  where
    join : (values : List Text) → Passes a values → has_row a.id before ≡ false → All Fits (default_rows a.id (reading_by a) values before)
    join [] p new = h
    join (v ∷ vs) p new = joined a DefaultValue (v ∷ vs) before new own p h

    go : (b : Bool) → has_row a.id before ≡ b → All Fits (cond b before (default_rows a.id (reading_by a) a.defaults before))
    go true e = h
    go false e = join a.defaults passes e

none_kept : (a : Rule) → a.defaults ≡ [] → IsDefaultKept (All Fits) a
none_kept a none before h = subst (λ (ds : List Text). All Fits (cond (has_row a.id before) before (default_rows a.id (reading_by a) ds before))) (sym none) (go (has_row a.id before))
  where
    go : (b : Bool) → All Fits (cond b before before)
    go true = h
    go false = h

one_passes : (a : Rule) (value : Text) → values_fault a (value ∷ []) ≡ [] → most_values a ≡ 1 → Passes a (value ∷ [])
one_passes a value e one = (e, omega arith, omega (arith, one))

defaults_keep : All (IsDefaultKept (All Fits)) rules
defaults_keep = All-from_recursion (IsDefaultKept (All Fits)) rules (
  given_kept workers_rule refl (one_passes workers_rule (codes "2") refl refl),
  (
    given_kept accept_rule refl (one_passes accept_rule (codes "8192") refl refl),
    (none_kept control_rule refl, (none_kept ports_rule refl, (none_kept help_built refl, tt))),
  ),
)

fits : (words : List Text) → HasMatches words → All Fits (matches_of serve words)
fits words e = level_keeps (built serve).top (names_of (built serve)) (All Fits) uses_keep (argument_words serve words) _ _ e defaults_keep (All-nil Fits)

-- ---- which arguments have values

no_missing : (x y z : Bool) → check_kinds x y z ≡ [] → z ≡ false
no_missing true y z e = cc
no_missing false true z e = cc
no_missing false false true e = cc
no_missing false false false e = refl

not_false : (b : Bool) → not b ≡ false → b ≡ true
not_false true e = refl
not_false false e = cc

abbrev HasRow : Text → List Row → Type 0
HasRow id rows = is_some (find (λ r. bytes_eq r.id id) rows) ≡ true

row_given : (id : Text) (rows : List Row) → is_given id rows ≡ true → HasRow id rows
row_given id rows e = go (find (λ r. bytes_eq r.id id) rows) e
  where
    go : (o : Option Row) → option_map_or (λ r. explicit_source r.source) o false ≡ true → is_some o ≡ true
    go None e = cc
    go (Some r) e = refl

both_given : (words : List Text) → HasMatches words → HasRow (codes "control") (matches_of serve words) × HasRow (codes "ports") (matches_of serve words)
both_given words e =
    let rows = matches_of serve words in
    let checked = level_checked (built serve).top (names_of (built serve)) (argument_words serve words) _ _ e in
    let missing : (not (is_given (codes "control") rows) || (not (is_given (codes "ports") rows) || false)) ≡ false = no_missing _ _ _ checked in
    let one = or_parts (not (is_given (codes "control") rows)) _ missing in
    let two = or_parts (not (is_given (codes "ports") rows)) false one.1 in
    (row_given (codes "control") rows (not_false _ one.0), row_given (codes "ports") rows (not_false _ two.0))

has_more : (id : Text) (rows more : List Row) → has_row id rows ≡ true → has_row id (rows ++ more) ≡ true
has_more id [] more e = cc
has_more id (r ∷ rs) more e = go (bytes_eq r.id id) (has_more id rs more) e
  where
    go : (b : Bool) → (has_row id rs ≡ true → has_row id (rs ++ more) ≡ true) → (b || has_row id rs) ≡ true → (b || has_row id (rs ++ more)) ≡ true
    go true rest e = refl
    go false rest e = rest e

has_last : (id : Text) (rows : List Row) (r : Row) → bytes_eq r.id id ≡ true → has_row id (rows ++ r ∷ []) ≡ true
has_last id [] r e = rw e refl
has_last id (x ∷ xs) r e = or_right (bytes_eq x.id id) _ (has_last id xs r e)

abbrev default_row : Rule → List Text → Row
default_row a values = record { id = a.id; values = values; count = None; source = Some DefaultValue; reading = reading_by a }

default_keeps_row : (id : Text) (rows : List Row) (a : Rule) → has_row id rows ≡ true → has_row id (with_default rows a) ≡ true
default_keeps_row id rows a e = go (has_row a.id rows) refl
  where
    join : (values : List Text) → has_row a.id rows ≡ false → has_row id (default_rows a.id (reading_by a) values rows) ≡ true
    join [] new = e
    join (v ∷ vs) new = ap (has_row id) (added a.id (more_values DefaultValue (v ∷ vs)) (default_row a (v ∷ vs) ∷ []) rows new)
        ∙ has_more id rows (default_row a (v ∷ vs) ∷ []) e

    go : (b : Bool) → has_row a.id rows ≡ b → has_row id (cond b rows (default_rows a.id (reading_by a) a.defaults rows)) ≡ true
    go true new = e
    go false new = join a.defaults new

default_adds_row : (rows : List Row) (a : Rule) (v : Text) (vs : List Text) → a.defaults ≡ v ∷ vs → bytes_eq a.id a.id ≡ true
    → has_row a.id (with_default rows a) ≡ true
default_adds_row rows a v vs some same = go (has_row a.id rows) refl
  where
    join : has_row a.id rows ≡ false → has_row a.id (default_rows a.id (reading_by a) a.defaults rows) ≡ true
    join new =
        ap (λ (ds : List Text). has_row a.id (default_rows a.id (reading_by a) ds rows)) some
        ∙ ap (has_row a.id) (added a.id (more_values DefaultValue (v ∷ vs)) (default_row a (v ∷ vs) ∷ []) rows new)
        ∙ has_last a.id rows (default_row a (v ∷ vs)) same

    go : (b : Bool) → has_row a.id rows ≡ b → has_row a.id (cond b rows (default_rows a.id (reading_by a) a.defaults rows)) ≡ true
    go true e = e
    go false e = join e

defaults_keep_row : (id : Text) (xs : List Rule) (rows : List Row) → has_row id rows ≡ true → has_row id (fold with_default rows xs) ≡ true
defaults_keep_row id [] rows e = e
defaults_keep_row id (a ∷ xs) rows e = defaults_keep_row id xs (with_default rows a) (default_keeps_row id rows a e)

-- an argument with a default has a row after the defaults
defaults_add_row : (before : List Rule) (a : Rule) (after : List Rule) (rows : List Row) (v : Text) (vs : List Text) → a.defaults ≡ v ∷ vs → bytes_eq a.id a.id ≡ true
    → has_row a.id (fold with_default rows (before ++ a ∷ after)) ≡ true
defaults_add_row [] a after rows v vs some same = defaults_keep_row a.id after (with_default rows a) (default_adds_row rows a v vs some same)
defaults_add_row (b ∷ bs) a after rows v vs some same = defaults_add_row bs a after (with_default rows b) v vs some same

row_had : (id : Text) (rows : List Row) → has_row id rows ≡ true → HasRow id rows
row_had id [] e = cc
row_had id (r ∷ rs) e = go (bytes_eq r.id id) (row_had id rs) e
  where
    go : (b : Bool) → (has_row id rs ≡ true → HasRow id rs) → (b || has_row id rs) ≡ true → is_some (cond b (Some r) (find (λ x. bytes_eq x.id id) rs)) ≡ true
    go true rest e = refl
    go false rest e = rest e

-- the rows of the words, before the defaults
abbrev used_rows : List Text → List Row
used_rows words = (settled rules (walk rules (names_of (built serve)) nothing_held (argument_words serve words)).held).rows

workers_had : (words : List Text) → HasRow (codes "workers") (matches_of serve words)
workers_had words = row_had (codes "workers") (matches_of serve words)
    (defaults_add_row [] workers_rule (filled_from 1 (accept ∷ control ∷ ports ∷ help_rule ∷ [])) (used_rows words) (codes "2") [] refl refl)

accept_had : (words : List Text) → HasRow (codes "accept") (matches_of serve words)
accept_had words = row_had (codes "accept") (matches_of serve words)
    (defaults_add_row (workers_rule ∷ []) accept_rule (filled_from 1 (control ∷ ports ∷ help_rule ∷ [])) (used_rows words) (codes "8192") [] refl refl)

-- ---- the values of an argument

find_hits : {X : Type 0} (p : X → Bool) (xs : List X) → IfSome (find p xs) (λ x. p x ≡ true)
find_hits p [] = tt
find_hits p (x ∷ xs) = go (p x) refl (find_hits p xs)
  where
    go : (b : Bool) → p x ≡ b → IfSome (find p xs) (λ y. p y ≡ true) → IfSome (cond b (Some x) (find p xs)) (λ y. p y ≡ true)
    go true e rest = e
    go false e rest = rest

abbrev pub HasPassing : Text → Rule → List Row → Type 0
HasPassing id a rows = (values : List Text) × (all_of id rows ≡ Some values) × Passes a values

row_passes : (id : Text) (a : Rule) (rows : List Row) → arg_by_id rules id ≡ Some a → All Fits rows → HasRow id rows → HasPassing id a rows
row_passes id a rows own all has = go (find (λ r. bytes_eq r.id id) rows) refl (find_each Fits _ rows all) (find_hits (λ r. bytes_eq r.id id) rows) has
  where
    go : (o : Option Row) → find (λ r. bytes_eq r.id id) rows ≡ o → IfSome o Fits → IfSome o (λ r. bytes_eq r.id id ≡ true) → is_some o ≡ true
        → HasPassing id a rows
    go None found fit hit some = cc
    go (Some r) found fit hit some =
        (r.values, rw found refl, fit a (ap (arg_by_id rules) ((bytes_eq-Decides r.id id).0 hit) ∙ own))

pub control_passes : (words : List Text) → HasMatches words → HasPassing (codes "control") control_rule (matches_of serve words)
control_passes words e = row_passes (codes "control") control_rule (matches_of serve words) refl (fits words e) (both_given words e).0

pub ports_pass : (words : List Text) → HasMatches words → HasPassing (codes "ports") ports_rule (matches_of serve words)
ports_pass words e = row_passes (codes "ports") ports_rule (matches_of serve words) refl (fits words e) (both_given words e).1

pub workers_pass : (words : List Text) → HasMatches words → HasPassing (codes "workers") workers_rule (matches_of serve words)
workers_pass words e = row_passes (codes "workers") workers_rule (matches_of serve words) refl (fits words e) (workers_had words)

pub accept_passes : (words : List Text) → HasMatches words → HasPassing (codes "accept") accept_rule (matches_of serve words)
accept_passes words e = row_passes (codes "accept") accept_rule (matches_of serve words) refl (fits words e) (accept_had words)
