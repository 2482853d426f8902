-- Requests that go through a fabric, one after another: their steps stand one behind the other.
use Rattle.std.proofs.Common.{ℕ, suc, ◌+◌, ◌*◌, ◌≡◌, ◌≤◌, refl, sym, ap, ap₂, subst, ◌∙◌, arith, false, List, [], ◌∷◌, ◌++◌, length, append_assoc, append-nil}
use Rattle.std.proofs.lemmas.List.{length-append}
use Rattle.unit_types.specs.declared.message.Reply.{Reply}
use Rattle.unit_types.specs.declared.message.Request.{Request}
use Rattle.unit_types.specs.Handlers.{IsReply}
use Rattle.request_context.specs.Record.{asked_with}
use Rattle.plain_fabric.proofs.Carried.{can_pass}
use Rattle.plain_fabric.proofs.Keeping.{some_request}
use Rattle.plain_fabric.specs.Laws.{AllCanPass, parts_of_all}
use Rattle.plain_fabric.specs.Plains.{PlainValue, asking_steps, gone_steps, next_record, sizes_of}
use Rattle.plain_fabric.specs.Schedule.{Passed, parts_in, steps_of, trace_from}
use Rattle.unit_model.specs.Limits.{chunk_bytes, segment_chunks}
use Rattle.unit_model.specs.declared.machine.Step.{Step}
use Rattle.unit_model.specs.declared.shape.Shape.{Shape}
use Rattle.unit_top.specs.Posting.{Asked, Asking, HasPosted, IsBehind, Post, Withdrawn, kept, passed_from, passed_in, passed_under, steps_in}
use Rattle.unit_top.specs.declared.fabric.Output.{Output}
use Rattle.unit_top.specs.declared.fabric.Output.TheVariants.{Replies, Steps}

-- ---- lists of requests

trace_joined : (shape : Shape) (drawn sent : ℕ) (xs ys : List Passed)
    → trace_from shape drawn sent (xs ++ ys) ≡ trace_from shape drawn sent xs ++ trace_from shape (drawn + length xs) (sent + parts_of_all xs) ys
trace_joined shape drawn sent [] ys =
    let same : drawn ≡ drawn + 0 = omega arith in
    let same_sent : sent ≡ sent + 0 = omega arith in
    ap₂ (λ (d s : ℕ). trace_from shape d s ys) same same_sent
trace_joined shape drawn sent (x ∷ xs) ys =
    let on : drawn + 1 + length xs ≡ drawn + length (x ∷ xs) = omega arith in
    let on_sent : sent + parts_in x + parts_of_all xs ≡ sent + parts_of_all (x ∷ xs) = omega arith in
    let first = steps_of shape drawn sent x in
    let others = trace_from shape (drawn + 1) (sent + parts_in x) xs in
    ap (λ (steps : List Step). first ++ steps) (trace_joined shape (drawn + 1) (sent + parts_in x) xs ys)
    ∙ sym (append_assoc first others (trace_from shape (drawn + 1 + length xs) (sent + parts_in x + parts_of_all xs) ys))
    ∙ ap₂ (λ (d s : ℕ). (first ++ others) ++ trace_from shape d s ys) on on_sent

parts_joined : (xs ys : List Passed) → parts_of_all (xs ++ ys) ≡ parts_of_all xs + parts_of_all ys
parts_joined [] ys = omega arith
parts_joined (x ∷ xs) ys = omega (arith, parts_joined xs ys)

both_pass : (xs ys : List Passed) → AllCanPass xs → AllCanPass ys → AllCanPass (xs ++ ys)
both_pass [] ys one other = other
both_pass (x ∷ xs) ys one other = (one.0, both_pass xs ys one.1 other)

module _ (reply_of : List ℕ → Request → Reply) where
  passed_joined : (stream : ℕ) (ps qs : List Post) → passed_from reply_of stream (ps ++ qs) ≡ passed_from reply_of stream ps ++ passed_from reply_of (stream + length ps) qs
  passed_joined stream [] qs =
      let same : stream ≡ stream + 0 = omega arith in ap (λ (n : ℕ). passed_from reply_of n qs) same
  passed_joined stream (p ∷ ps) qs =
      let on : stream + 1 + length ps ≡ stream + length (p ∷ ps) = omega arith in
      ap (λ (more : List Passed). passed_under reply_of stream p ∷ more)
      (passed_joined (stream + 1) ps qs ∙ ap (λ (n : ℕ). passed_from reply_of (stream + 1) ps ++ passed_from reply_of n qs) on)

  pub passed_count : (stream : ℕ) (ps : List Post) → length (passed_from reply_of stream ps) ≡ length ps
  passed_count stream [] = refl
  passed_count stream (p ∷ ps) = ap suc (passed_count (stream + 1) ps)

  -- ---- through a fabric

  module _ (ps qs : List Post) (a b : PlainValue) (first : IsBehind reply_of ps a b) where
    passed_on : passed_in reply_of a (ps ++ qs) ≡ passed_in reply_of a ps ++ passed_in reply_of b qs
    passed_on =
        let next : a.drawn + 1 + length ps ≡ b.drawn + 1 = omega (arith, first.drawn) in
        passed_joined (a.drawn + 1) ps qs ∙ ap (λ (n : ℕ). passed_in reply_of a ps ++ passed_from reply_of n qs) next

    -- the steps of more requests stand behind
    pub steps_on : steps_in reply_of a (ps ++ qs) ≡ steps_in reply_of a ps ++ steps_in reply_of b qs
    steps_on =
        let drawn : a.drawn + length (passed_in reply_of a ps) ≡ b.drawn = omega (arith, first.drawn, passed_count (a.drawn + 1) ps) in
        ap (trace_from a.shape a.drawn a.sent) passed_on
        ∙ trace_joined a.shape a.drawn a.sent (passed_in reply_of a ps) (passed_in reply_of b qs)
        ∙ (λ i. steps_in reply_of a ps ++ trace_from (sym first.shape i) (drawn i) (sym first.sent i) (passed_in reply_of b qs))

    behind_on : (c : PlainValue) → IsBehind reply_of qs b c → IsBehind reply_of (ps ++ qs) a c
    behind_on c second = record {
      shape = second.shape ∙ first.shape;
      drawn = omega (arith, first.drawn, second.drawn, length-append ps qs);
      sent =
          let parts : parts_of_all (passed_in reply_of a (ps ++ qs)) ≡ parts_of_all (passed_in reply_of a ps) + parts_of_all (passed_in reply_of b qs) =
          ap parts_of_all passed_on ∙ parts_joined (passed_in reply_of a ps) (passed_in reply_of b qs) in
          omega (arith, first.sent, second.sent, parts);
    }

    passes_on : AllCanPass (passed_in reply_of a ps) → AllCanPass (passed_in reply_of b qs) → AllCanPass (passed_in reply_of a (ps ++ qs))
    passes_on one other = subst AllCanPass (sym passed_on) (both_pass (passed_in reply_of a ps) (passed_in reply_of b qs) one other)

  -- more were posted
  pub more_behind : (ps qs : List Post) (a b c : PlainValue) → IsBehind reply_of ps a b → IsBehind reply_of qs b c → IsBehind reply_of (ps ++ qs) a c
  more_behind ps qs a b c first second = behind_on ps qs a b first c second

  pub more_pass : (ps qs : List Post) (a b : PlainValue) → IsBehind reply_of ps a b → AllCanPass (passed_in reply_of a ps) → AllCanPass (passed_in reply_of b qs)
      → AllCanPass (passed_in reply_of a (ps ++ qs))
  more_pass ps qs a b first one other = passes_on ps qs a b first one other

  kept_on : (output : Output) (ps qs : List Post) (a b c : PlainValue) → HasPosted output reply_of ps a b → HasPosted output reply_of qs b c
      → c.trace ≡ kept output (a.trace ++ steps_in reply_of a (ps ++ qs))
  kept_on Replies ps qs a b c first second = second.trace
  kept_on Steps ps qs a b c first second =
      second.trace ∙ ap (λ (steps : List Step). steps ++ steps_in reply_of b qs) first.trace
      ∙ append_assoc a.trace (steps_in reply_of a ps) (steps_in reply_of b qs)
      ∙ ap (λ (steps : List Step). a.trace ++ steps) (sym (steps_on ps qs a b first.behind))

  pub posted_on : (output : Output) (ps qs : List Post) (a b c : PlainValue) → HasPosted output reply_of ps a b → HasPosted output reply_of qs b c → HasPosted output reply_of (ps ++ qs) a c
  posted_on output ps qs a b c first second = record {
    behind = behind_on ps qs a b first.behind c second.behind;
    passes = passes_on ps qs a b first.behind first.passes second.passes;
    trace = kept_on output ps qs a b c first second;
    whole = second.whole;
  }

  pub none_behind : (plain : PlainValue) → IsBehind reply_of [] plain plain
  none_behind plain = record { shape = refl; drawn = omega arith; sent = omega arith }

  none_kept_on : (output : Output) (trace : List Step) → trace ≡ kept output trace → trace ≡ kept output (trace ++ [])
  none_kept_on Replies trace bare = bare
  none_kept_on Steps trace bare = sym (append-nil trace)

  pub none_posted : (output : Output) (plain : PlainValue) → plain.failed ≡ false → plain.trace ≡ kept output plain.trace → HasPosted output reply_of [] plain plain
  none_posted output plain whole bare = record { behind = none_behind plain; passes = tt; trace = none_kept_on output plain.trace bare; whole = whole }

  -- one was posted
  pub one_asked : (asked : Asking) (old new : PlainValue) → IsReply (reply_of asked.0 asked.1) → length (next_record old asked.0 asked.1) ≤ 10485760
      → new.shape ≡ old.shape → new.failed ≡ false → new.drawn ≡ old.drawn + 1
      → new.sent ≡ old.sent + length (sizes_of (reply_of asked.0 asked.1)) → new.trace ≡ old.trace ++ asking_steps old asked.0 asked.1 (reply_of asked.0 asked.1)
      → HasPosted Steps reply_of (Asked asked ∷ []) old new
  one_asked asked old new reply fits shape whole drawn sent trace = record {
    behind = record { shape = shape; drawn = drawn; sent = omega (arith, sent) };
    passes = (can_pass (length (next_record old asked.0 asked.1)) (reply_of asked.0 asked.1) reply (some_request (asked_with (old.drawn + 1) asked.0 asked.1)) fits, tt);
    trace = trace ∙ ap (λ (steps : List Step). old.trace ++ steps) (sym (append-nil (asking_steps old asked.0 asked.1 (reply_of asked.0 asked.1))));
    whole = whole;
  }

  pub one_withdrawn : (asked : Asking) (old new : PlainValue) → length (next_record old asked.0 asked.1) ≤ 10485760
      → new.shape ≡ old.shape → new.failed ≡ false → new.drawn ≡ old.drawn + 1
      → new.sent ≡ old.sent → new.trace ≡ old.trace ++ gone_steps old asked.0 asked.1 → HasPosted Steps reply_of (Withdrawn asked ∷ []) old new
  one_withdrawn asked old new fits shape whole drawn sent trace = record {
    behind = record { shape = shape; drawn = drawn; sent = omega (arith, sent) };
    passes = ((some_request (asked_with (old.drawn + 1) asked.0 asked.1), low (length (next_record old asked.0 asked.1)) fits), tt);
    trace = trace ∙ ap (λ (steps : List Step). old.trace ++ steps) (sym (append-nil (gone_steps old asked.0 asked.1)));
    whole = whole;
  }
    where
      low : (n : ℕ) → n ≤ 10485760 → n ≤ chunk_bytes * segment_chunks
      low n short = omega (arith, short)

  -- a fabric behind these
  abbrev pub behind : PlainValue → List Post → PlainValue
  behind plain posts = record plain {
    drawn = plain.drawn + length posts;
    sent = plain.sent + parts_of_all (passed_in reply_of plain posts);
  }

  pub stands_behind : (plain : PlainValue) (posts : List Post) → IsBehind reply_of posts plain (behind plain posts)
  stands_behind plain posts = record { shape = refl; drawn = refl; sent = refl }
