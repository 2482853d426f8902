-- What a receipt makes of what is found stays however the input goes on.
use Rattle.std.proofs.Common.{ℕ, ◌≡◌, ◌≢◌, ◌≤◌, zero-le, refl, sym, ap, ◌∙◌, subst, List, [], ◌++◌, length, Bool, true, false, not, ◌&&◌, ◌==◌, nat_lt, nat_le, Option, Some, None}
use Rattle.std.specs.Option.{is_some}
use Rattle.unit_types.specs.declared.message.Reply.{Reply}
use Rattle.unit_types.specs.declared.message.Request.{Request}
use Rattle.conf_validate.specs.Configuration.{Configuration}
use Rattle.http_front.specs.Message.{Message, request_of}
use Rattle.http_front.specs.NextUnit.{Found, request, bad, cut, finished, wait, NextUnit, next_unit}
use Rattle.http_front.specs.Written.{error_reply}
use Rattle.conn_machine.specs.declared.receipt.Kind.{Kind}
use Rattle.conn_machine.specs.declared.receipt.Kind.TheVariants as kind
use Rattle.conn_machine.specs.declared.receipt.Receipt.{Receipt}
use Rattle.conn_machine.specs.Answers.{Connection, reply_to}
use Rattle.conn_machine.specs.Asking.{asked_of, is_app, timeout_in}
use Rattle.conn_machine.specs.Turns.{Turn, replies, ends, unfit, when, is_why, on_request, target_for, app_turn, own_turn, busy_turn, late_turn, cut_turn, kind_turn, turn_of}
use Rattle.conn_machine.proofs.UnitLaws.{UnitLaws, unit_goes}

-- where more bytes are needed only the kinds that go with anything have a turn
wait_ends : (c : Connection) (conf : Configuration) (stream : ℕ) (k : Kind) (found : Found) (turn : Turn)
    → kind_turn c conf stream k wait ≡ turn → turn ≢ unfit → kind_turn c conf stream k found ≡ turn
wait_ends c conf stream kind.App found turn is fit = absurd (fit (sym is))
wait_ends c conf stream kind.Own found turn is fit = absurd (fit (sym is))
wait_ends c conf stream (kind.Busy cause) found turn is fit = absurd (fit (sym is))
wait_ends c conf stream (kind.Late deadline now) found turn is fit = absurd (fit (sym is))
wait_ends c conf stream kind.Cut found turn is fit = absurd (fit (sym is))
wait_ends c conf stream kind.Gone found turn is fit = is
wait_ends c conf stream kind.Memory found turn is fit = is

pub turn_goes : (laws : UnitLaws) (c : Connection) (conf : Configuration) (r : Receipt) (bytes more : List ℕ) (was ended : Bool) (limit : ℕ) (turn : Turn)
    → (was ≡ true → more ≡ []) → (was ≡ true → ended ≡ true)
    → turn_of c conf r (next_unit bytes was limit).found ≡ turn → turn ≢ unfit
    → turn_of c conf r (next_unit (bytes ++ more) ended limit).found ≡ turn
unfolding turn_of
turn_goes laws c conf r bytes more was ended limit turn none over is fit = by_found (next_unit bytes was limit).found refl
  where
    told : (next_unit bytes was limit).found ≢ wait → turn_of c conf r (next_unit (bytes ++ more) ended limit).found ≡ turn
    told found = ap (λ (u : NextUnit). turn_of c conf r u.found) (unit_goes laws bytes more was ended limit none over found) ∙ is

    by_found : (f : Found) → (next_unit bytes was limit).found ≡ f → turn_of c conf r (next_unit (bytes ++ more) ended limit).found ≡ turn
    by_found (request m used) e = told (λ w. cc (sym e ∙ w))
    by_found (bad status) e = told (λ w. cc (sym e ∙ w))
    by_found cut e = told (λ w. cc (sym e ∙ w))
    by_found finished e = told (λ w. cc (sym e ∙ w))
    by_found wait e =
        wait_ends c conf r.stream r.kind (next_unit (bytes ++ more) ended limit).found turn (ap (turn_of c conf r) (sym e) ∙ is) fit

-- ---- a reply uses no more bytes than there are

module _ (asked : Option Request) (reply : Reply) (used n : ℕ) where
  when_replies : (b : Bool) (q : Option Request) (p : Reply) (u : ℕ) → when b (replies q p u) ≡ replies asked reply used → u ≤ n → used ≤ n
  when_replies true q p u is low = let same : u ≡ used = cc is in subst (λ x. x ≤ n) same low
  when_replies false q p u is low = absurd (cc is)

  when_ends : (b : Bool) → when b ends ≡ replies asked reply used → used ≤ n
  when_ends true is = absurd (cc is)
  when_ends false is = absurd (cc is)

  request_within : (c : Connection) (turn : Request → ℕ → Turn) (found : Found)
      → ((r : Request) (u : ℕ) → turn r u ≡ replies asked reply used → u ≤ n → used ≤ n)
      → ((m : Message) (u : ℕ) → found ≡ request m u → u ≤ n) → on_request c turn found ≡ replies asked reply used → used ≤ n
  request_within c turn (request m u) uses low is = uses (request_of c.from c.to m) u is (low m u refl)
  request_within c turn (bad status) uses low is = absurd (cc is)
  request_within c turn cut uses low is = absurd (cc is)
  request_within c turn finished uses low is = absurd (cc is)
  request_within c turn wait uses low is = absurd (cc is)

  own_within : (c : Connection) (conf : Configuration) (stream : ℕ) (found : Found)
      → ((m : Message) (u : ℕ) → found ≡ request m u → u ≤ n) → own_turn c conf stream found ≡ replies asked reply used → used ≤ n
  own_within c conf stream (request m u) low is =
      let r = request_of c.from c.to m in
      when_replies (not (is_app (target_for c conf r)) && stream == 0) (Some r) (reply_to c conf r) u is (low m u refl)
  own_within c conf stream (bad status) low is = when_replies (stream == 0) None (error_reply status) 0 is (zero-le)
  own_within c conf stream cut low is = absurd (cc is)
  own_within c conf stream finished low is = absurd (cc is)
  own_within c conf stream wait low is = absurd (cc is)

  cut_within : (stream : ℕ) (found : Found) → cut_turn stream found ≡ replies asked reply used → used ≤ n
  cut_within stream (request m u) is = absurd (cc is)
  cut_within stream (bad status) is = absurd (cc is)
  cut_within stream cut is = when_ends (stream == 0) is
  cut_within stream finished is = absurd (cc is)
  cut_within stream wait is = absurd (cc is)

  kind_within : (c : Connection) (conf : Configuration) (stream : ℕ) (k : Kind) (found : Found)
      → ((m : Message) (u : ℕ) → found ≡ request m u → u ≤ n) → kind_turn c conf stream k found ≡ replies asked reply used → used ≤ n
  kind_within c conf stream kind.App found low is =
      request_within c (app_turn c conf stream) found
      (λ r u e. when_replies (is_app (target_for c conf r) && nat_lt 0 stream) (Some r) (reply_to c conf r) u e) low is
  kind_within c conf stream kind.Own found low is = own_within c conf stream found low is
  kind_within c conf stream (kind.Busy cause) found low is =
      request_within c (busy_turn c conf stream cause) found
      (λ r u e. when_replies (is_app (target_for c conf r) && is_why (asked_of c conf stream r) cause) (Some r) (error_reply 503) u e) low is
  kind_within c conf stream (kind.Late deadline now) found low is =
      request_within c (late_turn c conf stream deadline now) found
      (λ r u e. when_replies (is_some (timeout_in (target_for c conf r)) && nat_lt 0 stream && nat_le deadline now) (Some r) (error_reply 503) u e) low is
  kind_within c conf stream kind.Cut found low is = cut_within stream found is
  kind_within c conf stream kind.Gone found low is = absurd (cc is)
  kind_within c conf stream kind.Memory found low is = absurd (cc is)

pub turn_within : (laws : UnitLaws) (c : Connection) (conf : Configuration) (r : Receipt) (bytes : List ℕ) (ended : Bool) (limit : ℕ)
    (asked : Option Request) (reply : Reply) (used : ℕ)
    → turn_of c conf r (next_unit bytes ended limit).found ≡ replies asked reply used → used ≤ length bytes
unfolding turn_of
turn_within laws c conf r bytes ended limit asked reply used is =
    kind_within asked reply used (length bytes) c conf r.stream r.kind (next_unit bytes ended limit).found
    (λ m u e. (laws.fits bytes ended limit m u e).1) is
