-- What a connection that needs something has.
use Rattle.std.proofs.Common.{ℕ, ◌≡◌, ◌≢◌, refl, sym, ap, ◌∙◌, length, Bool, true, false, ◌⊎◌, inl, inr, nat_lt, if◌then◌else◌, Option, Some, None}
use Rattle.std.specs.Option.{is_some}
use Rattle.conf_validate.specs.Configuration.{Configuration}
use Rattle.route_match.specs.Target.{target_of}
use Rattle.http_front.specs.Message.{request_of}
use Rattle.http_front.specs.NextUnit.{Found, request, bad, cut, finished, wait, next_unit}
use Rattle.conn_machine.specs.declared.receipt.Need.{Need}
use Rattle.conn_machine.specs.declared.receipt.Need.TheVariants.{Read, Ask, Write, Close}
use Rattle.conn_machine.specs.Answers.{Connection}
use Rattle.conn_machine.specs.Asking.{asked_of, is_app}
use Rattle.conn_machine.specs.States.{Numbered, State, unit_under, asks_by, IsSettled, need_under, need_of, asked_by, by_bound, is_ask, asking_of}
use Rattle.conn_machine.proofs.FrontLaws.{unbegun_waits}

pub if_false : (b : Bool) (x y z : Need) → (if b then x else y) ≡ z → x ≢ z → (b ≡ false) × (y ≡ z)
if_false true x y z is differs = absurd (differs is)
if_false false x y z is differs = (refl, is)

-- a connection that needs bytes or a reply is open, and nothing is left to show
pub open_need : (c : Connection) (s : State) (z : Need) → need_of c s ≡ z → Close ≢ z → Write ≢ z
    → (s.closed ≡ false) × (need_under c s s.bound ≡ z)
open_need c s z is close write =
    let goes = if s.closed then Close else need_under c s s.bound in
    let first = if_false s.given_up Close (if nat_lt 0 (length s.out) then Write else goes) z is close in
    let second = if_false (nat_lt 0 (length s.out)) Write goes z first.1 write in
    if_false s.closed Close (need_under c s s.bound) z second.1 close

pub reads_now : (c : Connection) (s : State) → IsSettled c s → need_of c s ≡ Read
    → ((bound : Numbered) → s.bound ≡ Some bound → (unit_under bound.1 s).found ≡ wait)
    × (s.bound ≡ None → (limit : ℕ) → (next_unit s.unused s.ended limit).found ≡ wait)
reads_now c s settled is = (
  λ bound way. by_wait bound (ap (need_under c s) (sym way) ∙ need.1) (settled.waits bound way),
  λ free limit.
      let under : (if s.ended then Close else Read) ≡ Read = ap (need_under c s) (sym free) ∙ need.1 in
      let ended : s.ended ≡ false = (if_false s.ended Close Read Read under (λ e. cc)).0 in
      ap (λ over. (next_unit s.unused over limit).found) ended
      ∙ unbegun_waits s.unused limit (settled.begun need.0 free),
)
  where
    need : (s.closed ≡ false) × (need_under c s s.bound ≡ Read)
    need = open_need c s Read is (λ e. cc) (λ e. cc)

    asks_none : (asks : Bool) → (if asks then Ask else Read) ≡ Read → asks ≢ true
    asks_none true under first = absurd (cc under)
    asks_none false under first = absurd (cc first)

    by_wait : (bound : Numbered) → (if asks_by c bound.1 (unit_under bound.1 s).found then Ask else Read) ≡ Read
        → ((asks_by c bound.1 (unit_under bound.1 s).found ≡ true) ⊎ ((unit_under bound.1 s).found ≡ wait)) → (unit_under bound.1 s).found ≡ wait
    by_wait bound under (inl asks) = absurd (asks_none (asks_by c bound.1 (unit_under bound.1 s).found) under asks)
    by_wait bound under (inr waits) = waits

-- ---- something is asked exactly where a reply is needed

some_if : {A : Type 0} (b : Bool) (x : A) → is_some (if b then Some x else None) ≡ b
some_if true x = refl
some_if false x = refl

asked_some : (c : Connection) (conf : Configuration) (found : Found) → is_some (asked_by c conf found) ≡ asks_by c conf found
asked_some c conf (request m used) =
    let r = request_of c.from c.to m in
    some_if (is_app (target_of conf c.listener r)) ((asked_of c conf 0 r).name, (asked_of c conf 0 r).request)
asked_some c conf (bad status) = refl
asked_some c conf cut = refl
asked_some c conf finished = refl
asked_some c conf wait = refl

pub ask_if : (b : Bool) → (if b then Ask else Read) ≡ Ask → b ≡ true
ask_if true is = refl
ask_if false is = absurd (cc is)

bound_some : (c : Connection) (s : State) (o : Option Numbered) → need_under c s o ≡ Ask → is_some (by_bound (asked_by c) s o) ≡ true
bound_some c s None is = by s.ended is
  where
    by : (ended : Bool) → (if ended then Close else Read) ≡ Ask → is_some (by_bound (asked_by c) s None) ≡ true
    by true is = absurd (cc is)
    by false is = absurd (cc is)
bound_some c s (Some bound) is =
    let found = (unit_under bound.1 s).found in asked_some c bound.1 found ∙ ask_if (asks_by c bound.1 found) is

pub asking_now : (c : Connection) (s : State) → is_some (asking_of c s) ≡ is_ask (need_of c s)
asking_now c s = by (need_of c s) refl
  where
    by : (need : Need) → need_of c s ≡ need → is_some (asking_of c s) ≡ is_ask (need_of c s)
    by Ask is =
        ap (λ need. is_some (if is_ask need then by_bound (asked_by c) s s.bound else None)) is
        ∙ bound_some c s s.bound (open_need c s Ask is (λ e. cc) (λ e. cc)).1 ∙ sym (ap is_ask is)
    by Read is = ap (λ need. is_some (if is_ask need then by_bound (asked_by c) s s.bound else None)) is ∙ sym (ap is_ask is)
    by Write is = ap (λ need. is_some (if is_ask need then by_bound (asked_by c) s s.bound else None)) is ∙ sym (ap is_ask is)
    by Close is = ap (λ need. is_some (if is_ask need then by_bound (asked_by c) s s.bound else None)) is ∙ sym (ap is_ask is)
