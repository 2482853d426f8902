-- Each call leaves a sound account.
use Rattle.std.proofs.Common.{ℕ, zero, suc, ◌≡◌, ◌≢◌, ◌-◌, ◌≤◌, arith, refl, sym, ap, ◌∙◌, subst, List, ◌++◌, take, drop, Bool, true, false, ◌||◌, ◌==◌, ◌⊎◌, inl, inr, if◌then◌else◌, Option, Some, None}
use Rattle.std.proofs.lemmas.Bool.Decides.{Decides-eqb}
use Rattle.std.proofs.lemmas.List.{take-append-drop}
use Rattle.unit_types.specs.declared.message.Reply.{Reply}
use Rattle.unit_types.specs.declared.message.Request.{Request}
use Rattle.conf_validate.specs.Configuration.{Configuration}
use Rattle.route_match.specs.Target.{target_of}
use Rattle.http_front.specs.Front.{head_begun}
use Rattle.http_front.specs.Message.{request_of, is_last_request}
use Rattle.http_front.specs.NextUnit.{Found, request, bad, cut, finished, wait}
use Rattle.http_front.specs.Session.{request_limit}
use Rattle.http_front.specs.Written.{error_reply}
use Rattle.conn_machine.specs.declared.receipt.Kind.{Kind}
use Rattle.conn_machine.specs.declared.receipt.Kind.TheVariants as kind
use Rattle.conn_machine.specs.declared.receipt.Kind.TheVariants.{Cut, Own}
use Rattle.conn_machine.specs.declared.receipt.Receipt.{Receipt}
use Rattle.conn_machine.specs.Answers.{Connection, closes, reply_to}
use Rattle.conn_machine.specs.Asking.{is_app}
use Rattle.conn_machine.specs.Calls.{Account, opened, replied_with, closed_with, taken_with, own_answer, found_at, front_answer, settled, on_bytes, on_end, on_answer, ended_at, given_up_with, on_gone, wrote, IsSound, Reaches}
use Rattle.conn_machine.specs.States.{Numbered, Follows, asks_by}
use Rattle.conn_machine.specs.Steps.{fed, at_end}
use Rattle.conn_machine.specs.Turns.{replies, ends, ends_between, receipt_of, turn_of}
use Rattle.conn_machine.proofs.FrontLaws.{nothing_begun}
use Rattle.conn_machine.proofs.NamedTurns.{own_is, refusal_is, cut_is, gone_is, memory_is}
use Rattle.conn_machine.proofs.StepLemmas.{follows_begin, follows_fed, follows_end, follows_head, follows_reply, follows_close, follows_between, follows_given_up, follows_shown}
use Rattle.conn_machine.proofs.UnitLaws.{UnitLaws}

-- what settling starts from, where at most so many requests may come
pub record IsReady (c : Connection) (current : Numbered) (n : ℕ) (a : Account) : Type 0 where
  pub follows : Follows c a.told a.state
  pub over : a.state.closed ≡ true → a.state.bound ≡ None
  pub quits : a.state.given_up ≡ true → a.state.closed ≡ true
  pub more : a.state.closed ≡ false → 1 ≤ a.state.left
  pub few : a.state.left ≤ n
  pub most : a.state.left ≤ request_limit
  pub reaches : Reaches current a

some_none : {A : Type 0} (o : Option A) (x : A) → o ≡ None → o ≢ Some x
some_none o x first second = absurd (cc (sym first ∙ second))

true_false : (b : Bool) → b ≡ true → b ≢ false
true_false b first second = absurd (cc (sym first ∙ second))

-- it is settled already
sound_closed : (c : Connection) (current : Numbered) (n : ℕ) (a : Account) → IsReady c current n a → a.state.closed ≡ true → IsSound c a
sound_closed c current n a ready closed = record {
  follows = ready.follows;
  settled = record {
    begun = λ goes_on. absurd (true_false a.state.closed closed goes_on);
    waits = λ bound way. absurd (some_none a.state.bound bound (ready.over closed) way);
    over = ready.over;
    quits = ready.quits;
  };
  more = ready.more;
  most = ready.most;
}

sound_waiting : (c : Connection) (current bound : Numbered) (n : ℕ) (a : Account) → IsReady c current n a → a.state.bound ≡ Some bound
    → ((asks_by c bound.1 (found_at bound a) ≡ true) ⊎ (found_at bound a ≡ wait)) → IsSound c a
sound_waiting c current bound n a ready way waits = record {
  follows = ready.follows;
  settled = record {
    begun = λ goes_on free. absurd (some_none a.state.bound bound free way);
    waits = λ other other_way.
        let same : bound ≡ other = cc (sym way ∙ other_way) in
        subst (λ (b : Numbered). (asks_by c b.1 (found_at b a) ≡ true) ⊎ (found_at b a ≡ wait)) same waits;
    over = ready.over;
    quits = ready.quits;
  };
  more = ready.more;
  most = ready.most;
}

sound_between : (c : Connection) (current : Numbered) (n : ℕ) (a : Account) → IsReady c current n a → a.state.bound ≡ None → head_begun a.state.unused ≡ false → IsSound c a
sound_between c current n a ready free unbegun = record {
  follows = ready.follows;
  settled = record {
    begun = λ goes_on none. unbegun;
    waits = λ bound way. absurd (some_none a.state.bound bound free way);
    over = ready.over;
    quits = ready.quits;
  };
  more = ready.more;
  most = ready.most;
}

-- ---- a reply

one_low : (n : ℕ) → (n == 0) ≡ false → 1 ≤ n
one_low zero is = absurd (cc (sym ((Decides-eqb 0 0).1 refl) ∙ is))
one_low (suc n) is = omega arith

pub more_low : (request : Option Request) (left : ℕ) → closes request left ≡ false → 1 ≤ left - 1
more_low None left is = absurd (cc is)
more_low (Some r) left is = by (is_last_request r) is
  where
    by : (last : Bool) → (last || (left - 1) == 0) ≡ false → 1 ≤ left - 1
    by true is = absurd (cc is)
    by false is = one_low (left - 1) is

module _ (laws : UnitLaws) (c : Connection) (current bound : Numbered) (n : ℕ) (a : Account)
    (ready : IsReady c current (suc n) a) (goes_on : a.state.closed ≡ false) (way : a.state.bound ≡ Some bound) where
  ready_reply : (receipt : Receipt) (asked : Option Request) (reply : Reply) (used : ℕ) → receipt.conf ≡ bound.0
      → turn_of c bound.1 receipt (found_at bound a) ≡ replies asked reply used
      → IsReady c current n (replied_with c bound receipt asked reply used a)
  ready_reply receipt asked reply used same turn = record {
    follows = follows_reply laws c a.told a.state bound receipt ready.follows goes_on way same asked reply used turn;
    over = λ closed. refl;
    quits = λ up. absurd (true_false a.state.closed (ready.quits up) goes_on);
    more = λ still. more_low asked a.state.left still;
    few = let few : a.state.left ≤ suc n = ready.few in omega (arith, few);
    most = let most : a.state.left ≤ request_limit = ready.most in omega (arith, most);
    reaches = record { last = ready.reaches.bound bound way; bound = λ other none. absurd (cc none) };
  }

  ready_close : (receipt : Receipt) → receipt.conf ≡ bound.0 → turn_of c bound.1 receipt (found_at bound a) ≡ ends
      → IsReady c current (suc n) (closed_with bound receipt a)
  ready_close receipt same turn = record {
    follows = follows_close laws c a.told a.state bound receipt ready.follows goes_on way same turn;
    over = λ closed. refl;
    quits = λ up. refl;
    more = λ still. absurd (cc still);
    few = ready.few;
    most = ready.most;
    reaches = record { last = ready.reaches.bound bound way; bound = λ other none. absurd (cc none) };
  }

  -- the server's own answer
  sound_own : (rest : Account → Account) → ((b : Account) → IsReady c current n b → IsSound c (rest b))
      → (found : Found) → found_at bound a ≡ found → IsSound c (own_answer c bound rest a found)
  sound_own rest next (request m used) is =
      by (is_app (target_of bound.1 c.listener (request_of c.from c.to m))) refl
    where
      by : (asks : Bool) → is_app (target_of bound.1 c.listener (request_of c.from c.to m)) ≡ asks
          → IsSound c (if asks then a else rest (replied_with c bound (receipt_of bound.0 0 Own) (Some (request_of c.from c.to m)) (reply_to c bound.1 (request_of c.from c.to m)) used a))
      by true asks = sound_waiting c current bound (suc n) a ready way (inl (ap (asks_by c bound.1) is ∙ asks))
      by false asks =
          let r = request_of c.from c.to m in
          next (replied_with c bound (receipt_of bound.0 0 Own) (Some r) (reply_to c bound.1 r) used a)
          (ready_reply (receipt_of bound.0 0 Own) (Some r) (reply_to c bound.1 r) used refl
          (ap (turn_of c bound.1 (receipt_of bound.0 0 Own)) is ∙ own_is c bound.1 bound.0 0 m used asks))
  sound_own rest next (bad status) is =
      let receipt = receipt_of bound.0 0 Own in
      sound_closed c current n (replied_with c bound receipt None (error_reply status) 0 a)
      (ready_reply receipt None (error_reply status) 0 refl (ap (turn_of c bound.1 receipt) is ∙ refusal_is c bound.1 bound.0 status)) refl
  sound_own rest next cut is =
      let receipt = receipt_of bound.0 0 Cut in
      sound_closed c current (suc n) (closed_with bound receipt a)
      (ready_close receipt refl (ap (turn_of c bound.1 receipt) is ∙ cut_is c bound.1 bound.0)) refl
  sound_own rest next finished is =
      absurd (laws.unfinished a.state.unused a.state.ended bound.1.max_body (ready.follows.begun bound way) is)
  sound_own rest next wait is = sound_waiting c current bound (suc n) a ready way (inr is)

-- ---- the head is complete

ready_head : (laws : UnitLaws) (c : Connection) (current : Numbered) (n : ℕ) (a : Account) → IsReady c current n a
    → a.state.closed ≡ false → a.state.bound ≡ None → head_begun a.state.unused ≡ true → IsReady c current n (taken_with current a)
ready_head laws c current n a ready goes_on free begun = record {
  follows = follows_head laws c a.told a.state current ready.follows goes_on free begun ready.reaches.last;
  over = λ closed. absurd (true_false a.state.closed closed goes_on);
  quits = ready.quits;
  more = ready.more;
  few = ready.few;
  most = ready.most;
  reaches = record {
    last = ready.reaches.last;
    bound = λ other way. let same : current ≡ other = cc way in let P : Numbered → Type 0 = λ b. b.0 ≤ current.0 in subst P same (omega arith);
  };
}

pub settled_sound : (laws : UnitLaws) (c : Connection) (current : Numbered) (n : ℕ) (a : Account) → IsReady c current n a → IsSound c (settled c current n a)
unfolding settled
settled_sound laws c current zero a ready = by a.state.closed refl
  where
    none_left : a.state.closed ≡ false → ⊥
    none_left goes_on =
        let low : 1 ≤ a.state.left = ready.more goes_on in let high : a.state.left ≤ 0 = ready.few in omega (arith, low, high)

    by : (closed : Bool) → a.state.closed ≡ closed → IsSound c a
    by true closed = sound_closed c current zero a ready closed
    by false closed = absurd (none_left closed)
settled_sound laws c current (suc n) a ready =
    by_closed (λ b is. settled_sound laws c current n b is) a.state.closed refl
  where
    at_front : ((b : Account) → IsReady c current n b → IsSound c (settled c current n b)) → a.state.closed ≡ false
        → (o : Option Numbered) → a.state.bound ≡ o → IsSound c (front_answer c current (settled c current n) a o)
    at_front next goes_on (Some bound) way =
        sound_own laws c current bound n a ready goes_on way (settled c current n) next (found_at bound a) refl
    at_front next goes_on None free = by_begun (head_begun a.state.unused) refl
      where
        by_begun : (begun : Bool) → head_begun a.state.unused ≡ begun
            → IsSound c (if begun then own_answer c current (settled c current n) (taken_with current a) (found_at current (taken_with current a)) else a)
        by_begun true begun =
            sound_own laws c current current n (taken_with current a) (ready_head laws c current (suc n) a ready goes_on free begun)
            goes_on refl (settled c current n) next (found_at current (taken_with current a)) refl
        by_begun false unbegun = sound_between c current (suc n) a ready free unbegun

    by_closed : ((b : Account) → IsReady c current n b → IsSound c (settled c current n b))
        → (closed : Bool) → a.state.closed ≡ closed
        → IsSound c (if closed then a else front_answer c current (settled c current n) a a.state.bound)
    by_closed next true closed = sound_closed c current (suc n) a ready closed
    by_closed next false goes_on = at_front next goes_on a.state.bound refl

-- a kind that may end a connection between two requests ends any of them
any_ends : (c : Connection) (conf : Configuration) (number stream : ℕ) (k : Kind) (found : Found) → ends_between k ≡ true
    → turn_of c conf (receipt_of number stream k) found ≡ ends
any_ends c conf number stream kind.App found may = absurd (cc may)
any_ends c conf number stream kind.Own found may = absurd (cc may)
any_ends c conf number stream (kind.Busy cause) found may = absurd (cc may)
any_ends c conf number stream (kind.Late deadline now) found may = absurd (cc may)
any_ends c conf number stream kind.Gone found may = gone_is c conf number stream found
any_ends c conf number stream kind.Cut found may = absurd (cc may)
any_ends c conf number stream kind.Memory found may = memory_is c conf number stream found

-- ---- the calls

pub opened_sound : (c : Connection) → IsSound c opened
opened_sound c = record {
  follows = follows_begin c;
  settled = record {
    begun = λ goes_on free. nothing_begun;
    waits = λ bound way. absurd (cc way);
    over = λ closed. refl;
    quits = λ up. absurd (cc up);
  };
  more = λ goes_on. omega arith;
  most = omega arith;
}

module _ (laws : UnitLaws) (c : Connection) (current : Numbered) (a : Account) (sound : IsSound c a) (reaches : Reaches current a) where
  pub bytes_sound : (piece : List ℕ) → a.state.ended ≡ false → a.state.given_up ≡ false → IsSound c (on_bytes c current piece a)
  bytes_sound piece unended stays_up =
      settled_sound laws c current request_limit (record { told = record a.told { bytes = a.told.bytes ++ piece }; state = fed a.state piece })
      (record {
        follows = follows_fed laws c a.told a.state sound.follows piece unended stays_up;
        over = sound.settled.over;
        quits = sound.settled.quits;
        more = sound.more;
        few = sound.most;
        most = sound.most;
        reaches = record { last = reaches.last; bound = reaches.bound };
      })

  pub end_sound : IsSound c (on_end c current a)
  end_sound =
      settled_sound laws c current request_limit (record { told = a.told; state = at_end a.state })
      (record {
        follows = follows_end laws c a.told a.state sound.follows;
        over = sound.settled.over;
        quits = sound.settled.quits;
        more = sound.more;
        few = sound.most;
        most = sound.most;
        reaches = record { last = reaches.last; bound = reaches.bound };
      })

  goes_on_at : (bound : Numbered) → a.state.bound ≡ Some bound → a.state.closed ≡ false
  goes_on_at bound way = by a.state.closed refl
    where
      by : (closed : Bool) → a.state.closed ≡ closed → a.state.closed ≡ false
      by true closed = absurd (some_none a.state.bound bound (sound.settled.over closed) way)
      by false closed = closed

  pub answer_sound : (bound : Numbered) (receipt : Receipt) (r : Request) (reply : Reply) (used : ℕ) → a.state.bound ≡ Some bound → receipt.conf ≡ bound.0
      → turn_of c bound.1 receipt (found_at bound a) ≡ replies (Some r) reply used
      → IsSound c (on_answer c current bound receipt r reply used a)
  answer_sound bound receipt r reply used way same turn =
      let goes_on = goes_on_at bound way in
      settled_sound laws c current request_limit (replied_with c bound receipt (Some r) reply used a)
      (ready_reply laws c current bound request_limit a (record {
        follows = sound.follows;
        over = sound.settled.over;
        quits = sound.settled.quits;
        more = sound.more;
        few = let most : a.state.left ≤ request_limit = sound.most in omega (arith, most);
        most = sound.most;
        reaches = reaches;
      }) goes_on way receipt (Some r) reply used same turn)

  pub gone_sound : (stream : ℕ) (k : Kind) → ends_between k ≡ true → IsSound c (on_gone current.0 stream k a)
  gone_sound stream k may = by_closed a.state.closed refl
    where
      up : (b : Account) → Follows c b.told b.state → b.state.closed ≡ true → b.state.bound ≡ None → b.state.left ≤ request_limit → IsSound c (given_up_with b)
      up b follows closed free most = record {
        follows = follows_given_up laws c b.told b.state follows;
        settled = record {
          begun = λ goes_on. absurd (true_false b.state.closed closed goes_on);
          waits = λ bound way. absurd (some_none b.state.bound bound free way);
          over = λ closed. free;
          quits = λ up. closed;
        };
        more = λ goes_on. absurd (true_false b.state.closed closed goes_on);
        most = most;
      }

      by_bound : a.state.closed ≡ false → (o : Option Numbered) → a.state.bound ≡ o → IsSound c (given_up_with (ended_at current.0 stream k a o))
      by_bound goes_on (Some bound) way =
          let receipt = receipt_of bound.0 stream k in
          up (closed_with bound receipt a)
          (follows_close laws c a.told a.state bound receipt sound.follows goes_on way refl (any_ends c bound.1 bound.0 stream k (found_at bound a) may))
          refl refl sound.most
      by_bound goes_on None free =
          let receipt = receipt_of current.0 stream k in
          up (ended_at current.0 stream k a None)
          (follows_between c a.told a.state receipt sound.follows goes_on free (sound.settled.begun goes_on free) may reaches.last)
          refl refl sound.most

      by_closed : (closed : Bool) → a.state.closed ≡ closed
          → IsSound c (given_up_with (if closed then a else ended_at current.0 stream k a a.state.bound))
      by_closed true closed = up a sound.follows closed (sound.settled.over closed) sound.most
      by_closed false goes_on = by_bound goes_on a.state.bound refl

pub wrote_sound : (laws : UnitLaws) (c : Connection) (a : Account) (n : ℕ) → IsSound c a → IsSound c (wrote n a)
wrote_sound laws c a n sound = record {
  follows = follows_shown laws c a.told a.state sound.follows (take n a.state.out) (drop n a.state.out) (sym (take-append-drop n a.state.out));
  settled = record {
    begun = sound.settled.begun;
    waits = sound.settled.waits;
    over = sound.settled.over;
    quits = sound.settled.quits;
  };
  more = sound.more;
  most = sound.most;
}
