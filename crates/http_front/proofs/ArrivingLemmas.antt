-- The content of a request, decoded as it comes.
use Rattle.std.proofs.Common.{ℕ, ◌≡◌, ◌+◌, ◌-◌, ◌≤◌, ◌<◌, refl, sym, ap, ◌∙◌, subst, List, [], ◌++◌, length, take, drop, Bool, true, false, nat_le, arith, append_assoc, append-nil, drop-drop, length-append, length-drop, length-take-le, take-append-drop}
use Rattle.std.proofs.lemmas.List.{take-append-le, drop-append-le}
use Rattle.std.proofs.lemmas.Bool.{leb-true, leb-false, le-leb}
use Rattle.std.proofs.lemmas.Bool.Decides.{nat_tests}
use Rattle.std.proofs.Math.Seq.{take-append-add}
use Rattle.http_front.specs.declared.arriving.Arriving.{Arriving}
use Rattle.http_front.specs.declared.arriving.End.{End}
use Rattle.http_front.specs.declared.arriving.End.TheVariants as End
use Rattle.http_front.specs.declared.chunk.Chunk.{Chunk}
use Rattle.http_front.specs.declared.chunk.Chunk.TheVariants.{Data}
use Rattle.http_front.specs.declared.content.Content.{Content}
use Rattle.http_front.specs.declared.content.Content.TheVariants as Content
use Rattle.http_front.specs.declared.framing.Framing.{Framing}
use Rattle.http_front.specs.declared.framing.Framing.TheVariants.{Length, Chunks}
use Rattle.unit_types.specs.declared.field.Field.{Field}
use Rattle.unit_types.specs.declared.message.Request.{Request}
use Rattle.http_front.specs.declared.next_unit.Next.TheVariants as Answer
use Rattle.http_front.specs.Framing.{framing_of}
use Rattle.http_front.specs.Progress.{ahead_of, TellsContent}
use Rattle.http_front.specs.Reading.{told_request}
use Rattle.http_front.specs.Arriving.{content_at, content_come, end_len, Decodes}
use Rattle.http_front.specs.Chunks.{first_chunk, content_behind, chunk_len, chunk_content, chunks_in, chunked_content}
use Rattle.http_front.specs.Content.{sized_content, content_by, content_of, is_continue_due}
use Rattle.http_front.proofs.ChunkLemmas.{behind_nothing, behind_both, steps_enough, chunks_step, chunk_fits_as}
use Rattle.http_front.proofs.ProgressLemmas.{content_framed}
use Rattle.http_front.proofs.ContentStays.{IsErrorStatus, FitsContent, chunk_stays, framed_fits}

-- ---- steps of decoding

-- nothing was decoded
pub decodes_nothing : (old new : Arriving) (bytes : List ℕ) (at : ℕ) → at ≤ length bytes → new.request ≡ old.request → new.framing ≡ old.framing
    → new.content.items ≡ old.content.items → Decodes old new bytes at at
decodes_nothing old new bytes at within request framing content = record {
  passed = 0;
  came = [];
  place = omega arith;
  within = within;
  request = request;
  content = content ∙ sym (append-nil old.content.items);
  goes_on = λ more.
      ap (λ f. content_by f (drop at bytes ++ more)) (sym framing) ∙ behind_nothing (content_by new.framing (drop at bytes ++ more));
}

pub decodes_further : (old mid new : Arriving) (bytes : List ℕ) (before at after : ℕ) → Decodes old mid bytes before at → Decodes mid new bytes at after
    → Decodes old new bytes before after
decodes_further old mid new bytes before at after first second = record {
  passed = first.passed + second.passed;
  came = first.came ++ second.came;
  place = omega (arith, first.place, second.place);
  within = second.within;
  request = second.request ∙ first.request;
  content = second.content ∙ ap (λ items. items ++ second.came) first.content ∙ append_assoc old.content.items first.came second.came;
  goes_on = λ more.
      first.goes_on more ∙ ap (content_behind first.came first.passed) (second.goes_on more)
      ∙ behind_both first.came second.came first.passed second.passed (content_by new.framing (drop after bytes ++ more));
}

-- the content behind some of it, and what is left of its bytes
decodes_by : (old new : Arriving) (bytes : List ℕ) (at passed : ℕ) (came : List ℕ) → at + passed ≤ length bytes → new.request ≡ old.request
    → new.content.items ≡ old.content.items ++ came
    → ((more : List ℕ) → content_by old.framing (drop at bytes ++ more) ≡ content_behind came passed (content_by new.framing (drop passed (drop at bytes) ++ more)))
    → Decodes old new bytes at (at + passed)
decodes_by old new bytes at passed came within request content goes_on = record {
  passed = passed;
  came = came;
  place = refl;
  within = within;
  request = request;
  content = content;
  goes_on = λ more. goes_on more ∙ ap (λ rest. content_behind came passed (content_by new.framing (rest ++ more))) (drop-drop passed at bytes);
}

-- ---- a content with a length

sized_front : (n : ℕ) (front rest : List ℕ) → length front ≤ n
    → sized_content n (front ++ rest) ≡ content_behind front (length front) (sized_content (n - length front) rest)
sized_front n front rest low = by_test (nat_le n (length (front ++ rest))) refl
  where
    by_test : (t : Bool) → nat_le n (length (front ++ rest)) ≡ t
        → sized_content n (front ++ rest) ≡ content_behind front (length front) (sized_content (n - length front) rest)
    by_test true is =
        let long = leb-true n (length (front ++ rest)) is in
        let left : nat_le (n - length front) (length rest) ≡ true = le-leb (n - length front) (length rest) (omega (arith, long, length-append front rest)) in
        let used : n ≡ length front + (n - length front) = omega (arith, low) in
        let text : take n (front ++ rest) ≡ front ++ take (n - length front) rest =
        ap (λ k. take k (front ++ rest)) used ∙ take-append-add front rest (n - length front) in
        rw (is, left) (λ i. Content.Whole (text i) (used i))
    by_test false is =
        let short : length rest < n - length front = omega (arith, leb-false n (length (front ++ rest)) is, length-append front rest) in
        let left : nat_le (n - length front) (length rest) ≡ false = grind (arith, nat_tests) in
        rw (is, left) refl

pub decodes_length : (old new : Arriving) (bytes : List ℕ) (at passed n : ℕ) → at + passed ≤ length bytes → passed ≤ n
    → old.framing ≡ Length n → new.framing ≡ Length (n - passed) → new.request ≡ old.request
    → new.content.items ≡ old.content.items ++ take passed (drop at bytes) → Decodes old new bytes at (at + passed)
decodes_length old new bytes at passed n within low framed left request content =
    let rest = drop at bytes in
    let long : length (take passed rest) ≡ passed = length-take-le passed rest (omega (arith, within, length-drop at bytes)) in
    decodes_by old new bytes at passed (take passed rest) within request content
    (λ more.
    let seam : rest ++ more ≡ take passed rest ++ (drop passed rest ++ more) =
    ap (λ ys. ys ++ more) (sym (take-append-drop passed rest)) ∙ append_assoc (take passed rest) (drop passed rest) more in
    (λ i. content_by (framed i) (seam i))
    ∙ sized_front n (take passed rest) (drop passed rest ++ more) (omega (arith, long, low))
    ∙ (λ i. content_behind (take passed rest) (long i) (sized_content (n - long i) (drop passed rest ++ more)))
    ∙ ap (λ f. content_behind (take passed rest) passed (content_by f (drop passed rest ++ more))) (sym left))

pub length_open : (n : ℕ) (bytes : List ℕ) → length bytes < n → sized_content n bytes ≡ Content.Open
length_open n bytes short =
    let test : nat_le n (length bytes) ≡ false = grind (arith, nat_tests) in
    rw test refl

-- ---- a content in chunks

-- the content behind a whole chunk
chunk_taken : (room line size : ℕ) (bytes more : List ℕ) → first_chunk room bytes ≡ Data line size
    → chunked_content room (bytes ++ more)
    ≡ content_behind (take size (drop line bytes)) (chunk_len line size) (chunked_content (room - size) (drop (chunk_len line size) bytes ++ more))
chunk_taken room line size bytes more is =
    let all = bytes ++ more in
    let n = chunk_len line size in
    let fits = chunk_fits_as room bytes (Data line size) is in
    let same : first_chunk room all ≡ Data line size = chunk_stays room bytes more (λ e. cc) ∙ is in
    let front : drop line all ≡ drop line bytes ++ more = drop-append-le line bytes more (omega (arith, fits.0)) in
    let text : take size (drop line all) ≡ take size (drop line bytes) =
    ap (take size) front ∙ take-append-le size (drop line bytes) more (omega (arith, fits.0, length-drop line bytes)) in
    let rest : drop n all ≡ drop n bytes ++ more = drop-append-le n bytes more fits.0 in
    let few : length (drop n all) ≤ length all - 1 = omega (arith, fits.0, length-drop n all, length-append bytes more) in
    chunks_step (length all) room all (Data line size) refl same
    ∙ ap (content_behind (take size (drop line all)) n) (steps_enough (length all - 1) (length (drop n all)) (room - size) (drop n all) few (omega arith))
    ∙ (λ i. content_behind (text i) n (chunked_content (room - size) (rest i)))

pub decodes_chunk : (old new : Arriving) (bytes : List ℕ) (at room line size : ℕ) → at ≤ length bytes → old.framing ≡ Chunks room
    → first_chunk room (drop at bytes) ≡ Data line size → new.framing ≡ Chunks (room - size) → new.request ≡ old.request
    → new.content.items ≡ old.content.items ++ take size (drop line (drop at bytes)) → Decodes old new bytes at (at + chunk_len line size)
decodes_chunk old new bytes at room line size within framed is left request content =
    let rest = drop at bytes in
    let fits = chunk_fits_as room rest (Data line size) is in
    let came = take size (drop line rest) in
    let n = chunk_len line size in
    decodes_by old new bytes at n came (omega (arith, within, fits.0, length-drop at bytes)) request content
    (λ more.
    ap (λ f. content_by f (rest ++ more)) framed ∙ chunk_taken room line size rest more is
    ∙ ap (λ f. content_behind came n (content_by f (drop n rest ++ more))) (sym left))

-- where no chunk with content stands at the front, the rest is what it says
pub chunk_ends : (room : ℕ) (bytes : List ℕ) (c : Chunk) → first_chunk room bytes ≡ c
    → chunked_content room bytes ≡ chunk_content bytes (λ size rest. chunks_in (length bytes - 1) (room - size) rest) c
chunk_ends room bytes c is = chunks_step (length bytes) room bytes c refl is

-- ---- the content behind a head

pub content_opens : (limit : ℕ) (fields : List Field) (old new : Arriving) (rest : List ℕ) (after : ℕ) → Decodes old new rest 0 after
    → old.framing ≡ framing_of limit fields → old.content.items ≡ []
    → (more : List ℕ) → content_of limit fields (rest ++ more) ≡ content_behind new.content.items after (content_by new.framing (drop after rest ++ more))
content_opens limit fields old new rest after d framed none more =
    let came : d.came ≡ new.content.items = sym (d.content ∙ ap (λ items. items ++ d.came) none) in
    let passed : d.passed ≡ after = omega (arith, d.place) in
    content_framed limit fields (rest ++ more)
    ∙ ap (λ f. content_by f (rest ++ more)) (sym framed)
    ∙ d.goes_on more
    ∙ (λ i. content_behind (came i) (passed i) (content_by new.framing (drop after rest ++ more)))

content_whole : (limit : ℕ) (fields : List Field) (old new : Arriving) (rest : List ℕ) (after : ℕ) (end : End) → Decodes old new rest 0 after
    → old.framing ≡ framing_of limit fields → old.content.items ≡ [] → content_by new.framing (drop after rest) ≡ content_at end
    → content_behind new.content.items after (content_at end) ≡ content_of limit fields rest
content_whole limit fields old new rest after end d framed none is =
    sym (ap (content_of limit fields) (sym (append-nil rest)) ∙ content_opens limit fields old new rest after d framed none []
    ∙ ap (content_behind new.content.items after) (ap (content_by new.framing) (append-nil (drop after rest)) ∙ is))

told_come : (r : Request) (used passed : ℕ) (ended : Bool) (items : List ℕ) (end : End)
    → told_request r (used + passed) ended (content_come items end) ≡ told_request r used ended (content_behind items passed (content_at end))
told_come r used passed ended items (End.Whole len) =
    let text : items ≡ items ++ [] = sym (append-nil items) in
    let place : used + passed + len ≡ used + (passed + len) = omega arith in
    λ i. record {
      answer = Answer.Request (record r { body = text i });
      used = place i;
      is_due = is_continue_due r.minor r.fields;
      is_begun = true;
    }
told_come r used passed ended items (End.Refused status) = refl
told_come r used passed ended items End.Open = refl

pub told_opens : (limit : ℕ) (r : Request) (old new : Arriving) (used : ℕ) (rest : List ℕ) (after : ℕ) (ended : Bool) (end : End) → Decodes old new rest 0 after
    → old.request ≡ r → old.framing ≡ framing_of limit r.fields → old.content.items ≡ [] → content_by new.framing (drop after rest) ≡ content_at end
    → told_request new.request (used + after) ended (content_come new.content.items end) ≡ told_request r used ended (content_of limit r.fields rest)
told_opens limit r old new used rest after ended end d same framed none is =
    ap (λ (q : Request). told_request q (used + after) ended (content_come new.content.items end)) (d.request ∙ same)
    ∙ told_come r used after ended new.content.items end
    ∙ ap (told_request r used ended) (content_whole limit r.fields old new rest after end d framed none is)

pub tells_opens : (limit : ℕ) (r : Request) (old new : Arriving) (used : ℕ) (rest : List ℕ) (after : ℕ) (end : End) → Decodes old new rest 0 after
    → old.request ≡ r → old.framing ≡ framing_of limit r.fields → old.content.items ≡ [] → TellsContent (ahead_of end (used + after) new) used rest limit r
tells_opens limit r old new used rest after (End.Whole len) d same framed none = refl
tells_opens limit r old new used rest after (End.Refused status) d same framed none = refl
tells_opens limit r old new used rest after End.Open d same framed none = record {
  passed = after;
  place = refl;
  within = d.within;
  request = d.request ∙ same;
  goes_on = content_opens limit r.fields old new rest after d framed none;
}

-- ---- what stands behind the content that came

end_fits : (have : ℕ) (end : End) → FitsContent have (content_at end) → end_len end ≤ have
end_fits have (End.Whole len) fits = fits
end_fits have (End.Refused status) fits = omega arith
end_fits have End.Open fits = omega arith

-- it lies in the bytes
pub end_within : (framing : Framing) (bytes : List ℕ) (end : End) → content_by framing bytes ≡ content_at end → end_len end ≤ length bytes
end_within framing bytes end is = end_fits (length bytes) end (subst (λ (c : Content). FitsContent (length bytes) c) is (framed_fits framing bytes))

-- and refuses with the status of an error
pub end_refuses : (framing : Framing) (bytes : List ℕ) (status : ℕ) → content_by framing bytes ≡ content_at (End.Refused status) → IsErrorStatus status
end_refuses framing bytes status is = subst (λ (c : Content). FitsContent (length bytes) c) is (framed_fits framing bytes)
