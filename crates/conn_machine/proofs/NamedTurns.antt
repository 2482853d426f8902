-- The turn of each kind of receipt, where what it needs is there.
use Rattle.std.proofs.Common.{ℕ, ◌≡◌, ◌≢◌, ◌<◌, ◌≤◌, ◌↔◌, refl, ap, ◌∙◌, Bool, true, false, not, ◌&&◌, ◌==◌, nat_lt, nat_le, Some, None}
use Rattle.std.specs.Option.{is_some}
use Rattle.std.proofs.lemmas.Bool.{le-leb}
use Rattle.std.proofs.lemmas.Bool.Decides.{Decides-eqb, Decides-ltb}
use Rattle.request_context.specs.declared.asked.Asked.{Asked}
use Rattle.conf_validate.specs.Configuration.{Configuration}
use Rattle.route_match.specs.Target.{target_of}
use Rattle.http_front.specs.Message.{Message, request_of}
use Rattle.http_front.specs.NextUnit.{Found, request, bad, cut}
use Rattle.http_front.specs.Written.{error_reply}
use Rattle.conn_machine.specs.declared.receipt.Kind.TheVariants as kind
use Rattle.conn_machine.specs.declared.receipt.Why.{Why}
use Rattle.conn_machine.specs.Answers.{Connection, reply_to}
use Rattle.conn_machine.specs.Asking.{asked_of, is_app, is_same_asked, timeout_in}
use Rattle.conn_machine.specs.Turns.{Turn, replies, ends, when, is_why, receipt_of, target_for, turn_of}
use Rattle.conn_machine.proofs.SameLemmas.{asked_decides}

when_both : (a b : Bool) (turn : Turn) → a ≡ true → b ≡ true → when (a && b) turn ≡ turn
when_both a b turn first second = ap (λ x. when (x && b) turn) first ∙ ap (λ x. when x turn) second

module _ (c : Connection) (conf : Configuration) (number stream : ℕ) (m : Message) (used : ℕ) where
  pub app_is : is_app (target_of conf c.listener (request_of c.from c.to m)) ≡ true → 0 < stream
      → turn_of c conf (receipt_of number stream kind.App) (request m used)
      ≡ replies (Some (request_of c.from c.to m)) (reply_to c conf (request_of c.from c.to m)) used
  unfolding turn_of
  app_is asks drawn =
      let q = request_of c.from c.to m in
      when_both (is_app (target_for c conf q)) (nat_lt 0 stream) (replies (Some q) (reply_to c conf q) used) asks ((Decides-ltb 0 stream).1 drawn)

  pub own_is : is_app (target_of conf c.listener (request_of c.from c.to m)) ≡ false
      → turn_of c conf (receipt_of number 0 kind.Own) (request m used)
      ≡ replies (Some (request_of c.from c.to m)) (reply_to c conf (request_of c.from c.to m)) used
  unfolding turn_of
  own_is asks =
      let q = request_of c.from c.to m in
      when_both (not (is_app (target_for c conf q))) (0 == 0) (replies (Some q) (reply_to c conf q) used) (ap not asks) ((Decides-eqb 0 0).1 refl)

  pub busy_is : (cause : Why) → is_app (target_of conf c.listener (request_of c.from c.to m)) ≡ true
      → is_why (asked_of c conf stream (request_of c.from c.to m)) cause ≡ true
      → turn_of c conf (receipt_of number stream (kind.Busy cause)) (request m used)
      ≡ replies (Some (request_of c.from c.to m)) (error_reply 503) used
  unfolding turn_of
  busy_is cause asks why_is =
      let q = request_of c.from c.to m in
      when_both (is_app (target_for c conf q)) (is_why (asked_of c conf stream q) cause) (replies (Some q) (error_reply 503) used) asks why_is

  pub late_is : (seconds deadline now : ℕ) → timeout_in (target_of conf c.listener (request_of c.from c.to m)) ≡ Some seconds
      → 0 < stream → deadline ≤ now
      → turn_of c conf (receipt_of number stream (kind.Late deadline now)) (request m used)
      ≡ replies (Some (request_of c.from c.to m)) (error_reply 503) used
  unfolding turn_of
  late_is seconds deadline now has drawn past =
      let q = request_of c.from c.to m in
      let reply = replies (Some q) (error_reply 503) used in
      ap (λ o. when (is_some o && nat_lt 0 stream && nat_le deadline now) reply) has
      ∙ when_both (nat_lt 0 stream) (nat_le deadline now) reply ((Decides-ltb 0 stream).1 drawn) (le-leb deadline now past)

pub refusal_is : (c : Connection) (conf : Configuration) (number status : ℕ)
    → turn_of c conf (receipt_of number 0 kind.Own) (bad status) ≡ replies None (error_reply status) 0
unfolding turn_of
refusal_is c conf number status = ap (λ b. when b (replies None (error_reply status) 0)) ((Decides-eqb 0 0).1 refl)

pub cut_is : (c : Connection) (conf : Configuration) (number : ℕ) → turn_of c conf (receipt_of number 0 kind.Cut) cut ≡ ends
unfolding turn_of
cut_is c conf number = ap (λ b. when b ends) ((Decides-eqb 0 0).1 refl)

pub gone_is : (c : Connection) (conf : Configuration) (number stream : ℕ) (found : Found) → turn_of c conf (receipt_of number stream kind.Gone) found ≡ ends
unfolding turn_of
gone_is c conf number stream found = refl

pub memory_is : (c : Connection) (conf : Configuration) (number stream : ℕ) (found : Found) → turn_of c conf (receipt_of number stream kind.Memory) found ≡ ends
unfolding turn_of
memory_is c conf number stream found = refl

-- ---- two asked values

pub same_is : (a b : Asked) → (is_same_asked a b ≡ true) ↔ (a ≡ b)
same_is a b = ((asked_decides a b).0, (asked_decides a b).1)

differ : (b : Bool) → (b ≡ true → ⊥) → not b ≡ true
differ true other = absurd (other refl)
differ false other = refl

pub stray_is : (asked other : Asked) → 0 < asked.stream → other.stream ≡ asked.stream → other ≢ asked
    → (nat_lt 0 asked.stream && other.stream == asked.stream && not (is_same_asked other asked)) ≡ true
stray_is asked other drawn same differs =
    ap (λ b. b && other.stream == asked.stream && not (is_same_asked other asked)) ((Decides-ltb 0 asked.stream).1 drawn)
    ∙ ap (λ b. b && not (is_same_asked other asked)) ((Decides-eqb other.stream asked.stream).1 same)
    ∙ differ (is_same_asked other asked) (λ is. differs ((asked_decides other asked).0 is))
