-- What a whole connection has written, by the laws of its calls and of their ends.
use Rattle.std.proofs.Common.{ℕ, ◌≡◌, ◌≢◌, ◌<◌, arith, refl, sym, ap, ◌∙◌, subst, List, [], ◌∷◌, ◌++◌, length, Bool, true, false, ◌||◌, nat_lt, if◌then◌else◌, Option, Some, None, append-nil, append_assoc}
use Rattle.std.proofs.lemmas.Bool.Decides.{Decides-ltb}
use Rattle.std.specs.Option.{is_some}
use Rattle.conf_validate.specs.Configuration.{Configuration}
use Rattle.http_front.specs.Session.{request_limit}
use Rattle.conn_machine.specs.declared.receipt.Need.TheVariants.{Read, Ask, Write, Close}
use Rattle.conn_machine.specs.Answers.{Connection}
use Rattle.conn_machine.specs.Calls.{Account, IsSound, ended_at, opened, replied_with, settled}
use Rattle.conn_machine.specs.Connections.{Call, on_bytes, on_end, on_answer, on_gone, wrote, HasWritten, MayAllCome, MayCome, account_after, account_behind, bytes_of, piece_of}
use Rattle.conn_machine.specs.States.{Agrees, Numbered, State, asks_by, counted, need_of, need_under, unit_under}
use Rattle.conn_machine.specs.Steps.{at_end, fed}
use Rattle.conn_machine.proofs.CallLemmas.{answer_sound, bytes_sound, end_sound, gone_sound, opened_sound, wrote_sound}
use Rattle.conn_machine.proofs.EndLemmas.{session_now, still}
use Rattle.conn_machine.proofs.NeedLemmas.{if_false}
use Rattle.conn_machine.proofs.OneLemmas.{settled_keeps}
use Rattle.conn_machine.proofs.UnitLaws.{UnitLaws}

-- ---- at the end of a call

none_shown : (out : List ℕ) → nat_lt 0 (length out) ≡ false → out ≡ []
none_shown [] is = refl
none_shown (b ∷ bs) is =
    let some : 0 < length (b ∷ bs) = omega arith in absurd (cc (sym ((Decides-ltb 0 (length (b ∷ bs))).1 some) ∙ is))

-- where bytes are needed, nothing is left to show
read_shown : (c : Connection) (s : State) → need_of c s ≡ Read → s.out ≡ []
read_shown c s is =
    let goes = if s.closed then Close else need_under c s s.bound in
    let first = if_false s.given_up Close (if nat_lt 0 (length s.out) then Write else goes) Read is (λ e. cc) in
    none_shown s.out (if_false (nat_lt 0 (length s.out)) Write goes Read first.1 (λ e. cc)).0

-- an open connection with a request under way isn't to be closed
stays_open : (up : Bool) (out : List ℕ) (over asks : Bool) → up ≡ false → over ≡ false
    → (if up then Close else if nat_lt 0 (length out) then Write else if over then Close else if asks then Ask else Read) ≢ Close
stays_open true out over asks lasts goes_on = absurd (cc lasts)
stays_open false out true asks lasts goes_on = absurd (cc goes_on)
stays_open false out false asks lasts goes_on = by (nat_lt 0 (length out)) asks
  where
    by : (shows asks : Bool) → (if shows then Write else if asks then Ask else Read) ≢ Close
    by true asks is = cc is
    by false true is = cc is
    by false false is = cc is

-- where the connection is to be closed, no request is under way
close_counted : (c : Connection) (a : Account) → IsSound c a → need_of c a.state ≡ Close → counted a.state.bound a.told.receipts ≡ a.told.receipts
close_counted c a sound is = by a.state.bound refl
  where
    s : State
    s = a.state

    lasts : (up : Bool) → s.given_up ≡ up → s.closed ≡ false → s.given_up ≡ false
    lasts true up goes_on = absurd (cc (sym goes_on ∙ sound.settled.quits up))
    lasts false up goes_on = up

    by : (o : Option Numbered) → s.bound ≡ o → counted o a.told.receipts ≡ a.told.receipts
    by None free = refl
    by (Some bound) way =
        let goes_on = still c s bound sound.settled way in
        absurd (stays_open s.given_up s.out s.closed (asks_by c bound.1 (unit_under bound.1 s).found) (lasts s.given_up refl goes_on) goes_on
        (ap (λ o. if s.given_up then Close else if nat_lt 0 (length s.out) then Write else if s.closed then Close else need_under c s o) (sym way) ∙ is))

pub written_now : (laws : UnitLaws) (c : Connection) (confs : List Configuration) (a : Account) → IsSound c a → Agrees confs a.told.given
    → HasWritten c confs a.told.bytes a
written_now laws c confs a sound agrees = record {
  session = record { written = a.told.written ++ a.state.out; closed = a.state.closed || is_some a.state.bound };
  is = session_now laws c a.told a.state confs sound.follows sound.settled agrees;
  front = (a.state.out, refl);
  whole = λ none. ap (λ out. a.told.written ++ out) none ∙ append-nil a.told.written;
  reads = read_shown c a.state;
  closes = close_counted c a sound;
}

-- ---- all calls

call_sound : (laws : UnitLaws) (c : Connection) (a : Account) → IsSound c a → (call : Call) → MayCome c a call → IsSound c (account_after c a call)
call_sound laws c a sound (on_bytes current piece) may = bytes_sound laws c current a sound may.0 piece may.1 may.2
call_sound laws c a sound (on_end current) may = end_sound laws c current a sound may
call_sound laws c a sound (on_answer current bound receipt r reply used) may =
    answer_sound laws c current a sound may.0 bound receipt r reply used may.1 may.2 may.3
call_sound laws c a sound (on_gone current stream k) may = gone_sound laws c current a sound may.0 stream k may.1
call_sound laws c a sound (wrote n) may = wrote_sound laws c a n sound

-- what the server answers itself brings no bytes
settled_bytes : (c : Connection) (current : Numbered) (a : Account) → (settled c current request_limit a).told.bytes ≡ a.told.bytes
settled_bytes c current a =
    settled_keeps (λ b. b.told.bytes ≡ a.told.bytes) c current
    (record {
      reply = λ bound receipt asked reply used b is way same kind. is;
      close = λ bound receipt b is way same kind. is;
      head = λ b is. is;
    })
    request_limit a refl

call_bytes : (c : Connection) (a : Account) (call : Call) → (account_after c a call).told.bytes ≡ a.told.bytes ++ piece_of call
call_bytes c a (on_bytes current piece) =
    settled_bytes c current (record { told = record a.told { bytes = a.told.bytes ++ piece }; state = fed a.state piece })
call_bytes c a (on_end current) =
    settled_bytes c current (record { told = a.told; state = at_end a.state }) ∙ sym (append-nil a.told.bytes)
call_bytes c a (on_answer current bound receipt r reply used) =
    settled_bytes c current (replied_with c bound receipt (Some r) reply used a) ∙ sym (append-nil a.told.bytes)
call_bytes c a (on_gone current stream k) = by a.state.closed a.state.bound ∙ sym (append-nil a.told.bytes)
  where
    by : (over : Bool) (o : Option Numbered) → (if over then a else ended_at current.0 stream k a o).told.bytes ≡ a.told.bytes
    by true o = refl
    by false None = refl
    by false (Some bound) = refl
call_bytes c a (wrote n) = sym (append-nil a.told.bytes)

pub calls_sound : (laws : UnitLaws) (c : Connection) (a : Account) (calls : List Call) → IsSound c a → MayAllCome c a calls
    → IsSound c (account_behind c a calls) × ((account_behind c a calls).told.bytes ≡ a.told.bytes ++ bytes_of calls)
calls_sound laws c a [] sound may = (sound, sym (append-nil a.told.bytes))
calls_sound laws c a (call ∷ more) sound may =
    let rest = calls_sound laws c (account_after c a call) more (call_sound laws c a sound call may.0) may.1 in (
      rest.0,
      rest.1 ∙ ap (λ bytes. bytes ++ bytes_of more) (call_bytes c a call) ∙ append_assoc a.told.bytes (piece_of call) (bytes_of more),
    )

pub written_behind : (laws : UnitLaws) (c : Connection) (confs : List Configuration) (calls : List Call) → MayAllCome c opened calls
    → Agrees confs (account_behind c opened calls).told.given → HasWritten c confs (bytes_of calls) (account_behind c opened calls)
written_behind laws c confs calls may agrees =
    let is = calls_sound laws c opened calls (opened_sound c) may in
    subst (λ bytes. HasWritten c confs bytes (account_behind c opened calls)) is.1 (written_now laws c confs (account_behind c opened calls) is.0 agrees)
