-- Scripts: the newest configuration of a book, and what frames add to an output.
use Rattle.std.proofs.Common.{ℕ, zero, suc, ◌≡◌, ◌≢◌, ◌<◌, ◌≤◌, ◌+◌, ◌-◌, ◌⊎◌, inl, inr, arith, refl, sym, ap, ◌∙◌, subst, List, [], ◌∷◌, ◌++◌, length, map, true, false, nat_lt, if◌then◌else◌, Option, Some, None, Result, Ok, Err, OnOk, IfErr, slice_get, append_assoc, append-nil}
use Rattle.std.proofs.lemmas.List.{length-map}
use Rattle.serde_json.specs.Data.{Data}
use Rattle.unit_types.specs.declared.message.Reply.{Reply}
use Rattle.unit_types.specs.declared.message.Request.{Request}
use Rattle.unit_io.specs.declared.stop.Stop.{Stop}
use Rattle.unit_io.specs.declared.stop.Stop.TheVariants as stop
use Rattle.unit_io.specs.Status.{IsReadStop, input_limit, place_in, status_in, status_of}
use Rattle.unit_io.specs.Told.{Adds, AddsFront}
use Rattle.conf_tree.specs.View.{data_of}
use Rattle.conf_validate.specs.Configuration.{Configuration, configuration_of}
use Rattle.conf_book.specs.Books.{IsBook, Publications, documents_of, first_document, last_document, newest_document, numbered_from}
use Rattle.plain_fabric.specs.Plains.{PlainValue}
use Rattle.plain_fabric.specs.Schedule.{trace_from}
use Rattle.script_frames.specs.Frames.{Frame, and_more, broken_at, first_frame, frames_of, frames_within}
use Rattle.trace_check.specs.Traces as lines
use Rattle.unit_model.specs.Lines.{line_of}
use Rattle.unit_model.specs.declared.machine.Step.{Step}
use Rattle.unit_top.specs.Ends.{EndsAs}
use Rattle.unit_top.specs.Exchange.{frame_outcome}
use Rattle.unit_top.specs.Outcome.{Outcome, Refused, Written, frames_outcome, script_outcome}
use Rattle.unit_top.specs.Posting.{IsBehind, IsFresh, Post, kept, passed_from, steps_in}
use Rattle.unit_top.specs.Scripts.{frame_text, frames_text, script_text, told_text}
use Rattle.unit_top.specs.Trace.{frame_posts, posts_from, script_posts}
use Rattle.unit_top.specs.declared.fabric.Output.{Output}
use Rattle.unit_top.specs.declared.fabric.Output.TheVariants.{Replies, Steps}
use Rattle.unit_top.proofs.EndLemmas.{ends_refused, ends_with_0}
use Rattle.unit_top.proofs.PostingLemmas.{steps_on}

-- ---- the newest configuration is what the newest document says

newest_from : (n : ℕ) (d : Data) (ds : List Data) (current : ℕ × Configuration) → 0 < length ds
    → slice_get (numbered_from n (map configuration_of ds)) (length (numbered_from n (map configuration_of ds)) - 1) ≡ Some current
    → current.1 ≡ configuration_of (last_document d ds)
newest_from n d [] current some is = absurd (omega (arith, some))
newest_from n d (e ∷ []) current some is =
    let same : (n, configuration_of e) ≡ current = cc is in ap (λ (c : ℕ × Configuration). c.1) (sym same)
newest_from n d (e ∷ f ∷ fs) current some is =
    let rest = numbered_from (n + 1) (map configuration_of (f ∷ fs)) in
    let at : length ((n, configuration_of e) ∷ rest) - 1 ≡ suc (length rest - 1) = omega arith in
    newest_from (n + 1) e (f ∷ fs) current (omega arith) (ap (slice_get ((n, configuration_of e) ∷ rest)) (sym at) ∙ is)

pub newest_is : (book : Publications) (current : ℕ × Configuration) → IsBook book
    → slice_get book.configurations (length book.configurations - 1) ≡ Some current
    → current.1 ≡ configuration_of (newest_document (documents_of book))
newest_is book current is last =
    newest_from 0 first_document (documents_of book) current (let begun : 0 < length book.documents = is.begun in omega (arith, begun, length-map book.documents data_of))
    (ap (λ (cs : List (ℕ × Configuration)). slice_get cs (length cs - 1)) (sym is.said) ∙ last)

-- ---- frame by frame

lines_joined : (xs ys : List Step) → lines.trace_of (xs ++ ys) ≡ lines.trace_of xs ++ lines.trace_of ys
lines_joined [] ys = refl
lines_joined (x ∷ xs) ys =
    ap (λ (text : List ℕ). line_of x ++ text) (lines_joined xs ys) ∙ sym (append_assoc (line_of x) (lines.trace_of xs) (lines.trace_of ys))

-- a line behind others
pub line_more : (steps : List Step) (step : Step) → lines.trace_of (steps ++ step ∷ []) ≡ lines.trace_of steps ++ line_of step
line_more steps step = lines_joined steps (step ∷ []) ∙ ap (λ (text : List ℕ). lines.trace_of steps ++ text) (append-nil (line_of step))

-- what is told of a frame whose steps are kept, or forgotten
pub told_kept : (output : Output) (reply : List ℕ) (trace steps : List Step) → trace ≡ kept output ([] ++ steps) → told_text output reply trace ≡ told_text output reply steps
told_kept Replies reply trace steps is = refl
told_kept Steps reply trace steps is = ap lines.trace_of is

pub none_kept : (output : Output) → [] ≡ kept output []
none_kept Replies = refl
none_kept Steps = refl

module _ (output : Output) (reply_of : List ℕ → Request → Reply) (names : List (List ℕ)) where
  text_first : (documents : List Data) (plain after : PlainValue) (frame : Frame) (rest : List Frame) → IsBehind reply_of (frame_posts reply_of documents frame) plain after
      → frames_text output reply_of names documents plain (frame ∷ rest)
      ≡ frame_text output reply_of names documents plain frame ++ frames_text output reply_of names (frame_outcome reply_of names documents frame).documents after rest
  text_first documents plain after frame rest counted = by output
    where
      posts : List Post
      posts = frame_posts reply_of documents frame

      more : List Post
      more = posts_from reply_of names (frame_outcome reply_of names documents frame).documents rest

      by : (o : Output) → frames_text o reply_of names documents plain (frame ∷ rest)
          ≡ frame_text o reply_of names documents plain frame ++ frames_text o reply_of names (frame_outcome reply_of names documents frame).documents after rest
      by Replies = refl
      by Steps = ap lines.trace_of (steps_on reply_of posts more plain after counted) ∙ lines_joined (steps_in reply_of plain posts) (steps_in reply_of after more)

  -- what is told of one frame stands behind what was told of those before it
  pub frame_more : (its_names : List (List ℕ)) (documents next : List Data) (plain after : PlainValue) (frames rest : List Frame) (frame : Frame) (whole done : List ℕ)
      → whole ≡ done ++ frames_text output reply_of names documents plain frames → frames ≡ frame ∷ rest → its_names ≡ names
      → next ≡ (frame_outcome reply_of its_names documents frame).documents → IsBehind reply_of (frame_posts reply_of documents frame) plain after
      → whole ≡ (done ++ frame_text output reply_of its_names documents plain frame) ++ frames_text output reply_of names next after rest
  frame_more its_names documents next plain after frames rest frame whole done is first same docs counted =
      is ∙ ap (λ (fs : List Frame). done ++ frames_text output reply_of names documents plain fs) first
      ∙ ap (λ (text : List ℕ). done ++ text) (text_first documents plain after frame rest counted)
      ∙ sym (append_assoc done (frame_text output reply_of names documents plain frame) (frames_text output reply_of names (frame_outcome reply_of names documents frame).documents after rest))
      ∙ (λ i. (done ++ frame_text output reply_of (sym same i) documents plain frame)
      ++ frames_text output reply_of names ((ap (λ (n : List (List ℕ)). (frame_outcome reply_of n documents frame).documents) (sym same) ∙ sym docs) i) after rest)

  -- behind the last one nothing is told
  pub none_more : (documents : List Data) (plain : PlainValue) → frames_text output reply_of names documents plain [] ≡ []
  none_more documents plain = by output
    where
      by : (o : Output) → frames_text o reply_of names documents plain [] ≡ []
      by Replies = refl
      by Steps = refl

  -- through a fresh fabric it is the text of the script
  pub fresh_text : (plain : PlainValue) (input : List ℕ) → IsFresh plain → frames_text output reply_of names (first_document ∷ []) plain (frames_of input) ≡ script_text output reply_of names input
  fresh_text plain input fresh = by output
    where
      posts : List Post
      posts = script_posts reply_of names input

      by : (o : Output) → frames_text o reply_of names (first_document ∷ []) plain (frames_of input) ≡ script_text o reply_of names input
      by Replies = refl
      by Steps = λ i. lines.trace_of (trace_from (fresh.shape i) (fresh.drawn i) (fresh.sent i) (passed_from reply_of (fresh.drawn i + 1) posts))

  -- what one frame posts stands behind what those before it posted
  pub posts_more : (its_names : List (List ℕ)) (documents next : List Data) (frames rest : List Frame) (frame : Frame) (whole done : List Post)
      → whole ≡ done ++ posts_from reply_of names documents frames → frames ≡ frame ∷ rest → its_names ≡ names
      → next ≡ (frame_outcome reply_of its_names documents frame).documents
      → whole ≡ (done ++ frame_posts reply_of documents frame) ++ posts_from reply_of names next rest
  posts_more its_names documents next frames rest frame whole done is first same docs =
      is ∙ ap (λ (fs : List Frame). done ++ posts_from reply_of names documents fs) first
      ∙ sym (append_assoc done (frame_posts reply_of documents frame) (posts_from reply_of names (frame_outcome reply_of names documents frame).documents rest))
      ∙ ap (λ (ds : List Data). (done ++ frame_posts reply_of documents frame) ++ posts_from reply_of names ds rest)
      (ap (λ (n : List (List ℕ)). (frame_outcome reply_of n documents frame).documents) (sym same) ∙ sym docs)

-- an input has at most one frame a byte
few_within : (most : ℕ) (bytes : List ℕ) → length (frames_within most bytes).frames ≤ most
few_within zero bytes = omega arith
few_within (suc most) bytes = by (first_frame bytes) (λ rest. few_within most rest)
  where
    by : (o : Option (Frame × List ℕ)) → ((rest : List ℕ) → length (frames_within most rest).frames ≤ most) → length (and_more bytes o (frames_within most)).frames ≤ suc most
    by None few = omega arith
    by (Some first) few = omega (arith, few first.1)

pub few_frames : (input : List ℕ) → length (frames_of input) ≤ length input
few_frames input = few_within (length input) input

-- all of it is a front of it
pub adds_whole : (before after : Option (List ℕ)) (all : List ℕ) → Adds before after all → AddsFront before after all
adds_whole before after all adds contents is = (all, [], sym (append-nil all), adds contents is)

pub adds_nothing : (told : Option (List ℕ)) → Adds told told []
adds_nothing told contents is = is ∙ ap Some (sym (append-nil contents))

-- ---- how a script ends

-- an input that isn't too long
pub fits_outcome : (text input : List ℕ) → length input ≤ input_limit → script_outcome text input ≡ frames_outcome text (broken_at input)
fits_outcome text input short =
    let e : nat_lt input_limit (length input) ≡ false = grind (arith, short) in
    ap (λ b. if b then Refused input_limit else frames_outcome text (broken_at input)) e

pub long_outcome : (text input : List ℕ) → input_limit < length input → script_outcome text input ≡ Refused input_limit
long_outcome text input long =
    let e : nat_lt input_limit (length input) ≡ true = grind (arith, long) in
    ap (λ b. if b then Refused input_limit else frames_outcome text (broken_at input)) e

-- the place of the broken frame
pub broken_ends : (text input : List ℕ) (place : ℕ) (written : Option (List ℕ)) → broken_at input ≡ Some place → EndsAs (frames_outcome text (broken_at input)) 6 written written
broken_ends text input place written is =
    subst (λ (o : Option ℕ). EndsAs (frames_outcome text o) 6 written written) (sym is) (ends_refused place 6 written written refl)

-- what was written of whole frames
pub whole_ends : {T : Type 0} (text input output : List ℕ) (r : Result T Stop) (before after : Option (List ℕ)) → broken_at input ≡ None → output ≡ text
    → OnOk r (Adds before after output) → AddsFront before after output → IfErr r (λ s. (s ≡ stop.Memory) ⊎ (s ≡ stop.Write))
    → EndsAs (frames_outcome text (broken_at input)) (status_in r) before after
whole_ends text input output r before after is same adds front stops =
    subst (λ (o : Option ℕ). EndsAs (frames_outcome text o) (status_in r) before after) (sym is)
    (subst (λ (all : List ℕ). EndsAs (Written all 0) (status_in r) before after) same (ends_with_0 r output before after adds front stops))

-- with status 0 all was done
pub when_done : {T P : Type 0} (r : Result T Stop) → IfErr r (λ s. (s ≡ stop.Memory) ⊎ (s ≡ stop.Write)) → status_in r ≡ 0 → OnOk r P → P
when_done (Ok x) stops none done = done
when_done (Err s) (inl is) none done = let five : status_of s ≡ 5 = ap status_of is in absurd (omega (arith, five, none))
when_done (Err s) (inr is) none done = let four : status_of s ≡ 4 = ap status_of is in absurd (omega (arith, four, none))

-- want of memory and a fault of the sink
pub stops_used : {T : Type 0} (r : Result T Stop) → IfErr r (λ s. (s ≡ stop.Memory) ⊎ (s ≡ stop.Write))
    → (status_in r ≢ 2) × (status_in r ≢ 3) × (status_in r ≢ 8) × (status_in r ≢ 6)
stops_used (Ok x) stops = ((λ e. omega arith), (λ e. omega arith), (λ e. omega arith), (λ e. omega arith))
stops_used (Err s) (inl is) =
    let five : status_of s ≡ 5 = ap status_of is in
    ((λ e. omega (arith, five, e)), (λ e. omega (arith, five, e)), (λ e. omega (arith, five, e)), (λ e. omega (arith, five, e)))
stops_used (Err s) (inr is) =
    let four : status_of s ≡ 4 = ap status_of is in
    ((λ e. omega (arith, four, e)), (λ e. omega (arith, four, e)), (λ e. omega (arith, four, e)), (λ e. omega (arith, four, e)))

-- an input that was read whole
module _ (text : List ℕ → List ℕ) (input given : List ℕ) (same : input ≡ given) (short : length given ≤ input_limit) where
  read_outcome : script_outcome (text input) input ≡ frames_outcome (text given) (broken_at given)
  read_outcome = ap (λ (bytes : List ℕ). script_outcome (text bytes) bytes) same ∙ fits_outcome (text given) given short

  pub script_ends : (status : ℕ) (before after : Option (List ℕ)) → EndsAs (frames_outcome (text given) (broken_at given)) status before after
      → EndsAs (script_outcome (text input) input) status before after
  script_ends status before after ends = subst (λ (o : Outcome). EndsAs o status before after) (sym read_outcome) ends

  pub script_place : (place : ℕ) → frames_outcome (text given) (broken_at given) ≡ Refused place → script_outcome (text input) input ≡ Refused place
  script_place place is = read_outcome ∙ is

-- the place of an input that is too long
pub read_place : (s : Stop) → IsReadStop s → status_of s ≡ 6 → input_limit ≡ place_in {T = Unit {0}} (Err s)
read_place s (inl is) six = let three : status_of s ≡ 3 = ap status_of is in absurd (omega (arith, three, six))
read_place s (inr (inl is)) six = let five : status_of s ≡ 5 = ap status_of is in absurd (omega (arith, five, six))
read_place s (inr (inr is)) six = sym (ap (λ (t : Stop). place_in {T = Unit {0}} (Err t)) is)
