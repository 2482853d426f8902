-- The chunks one by one.
use Rattle.std.proofs.Common.{ℕ, ◌≡◌, ◌+◌, ◌-◌, ◌≤◌, zero, suc, refl, sym, ap, ◌∙◌, List, [], ◌∷◌, ◌++◌, length, take, drop, arith, subst, append_assoc, length-drop}
use Rattle.http_front.specs.declared.content.Content.{Content}
use Rattle.http_front.specs.declared.chunk.Chunk.{Chunk}
use Rattle.http_front.specs.declared.chunk.Chunk.TheVariants.{Data, Last, Refused, Open}
use Rattle.http_front.specs.Chunks.{line_front, first_chunk, content_behind, chunk_len, chunk_content, chunks_in}
use Rattle.http_front.proofs.ContentStays.{FitsChunk, chunk_fits}

pub behind_nothing : (c : Content) → c ≡ content_behind [] 0 c
behind_nothing (Content.Whole content len) = ap (Content.Whole content) (omega arith)
behind_nothing (Content.Refused status) = refl
behind_nothing Content.Open = refl

pub behind_both : (a b : List ℕ) (m n : ℕ) (c : Content) → content_behind a m (content_behind b n c) ≡ content_behind (a ++ b) (m + n) c
behind_both a b m n (Content.Whole content len) =
    let text : a ++ (b ++ content) ≡ (a ++ b) ++ content = sym (append_assoc a b content) in
    let used : m + (n + len) ≡ m + n + len = omega arith in
    λ i. Content.Whole (text i) (used i)
behind_both a b m n (Content.Refused status) = refl
behind_both a b m n Content.Open = refl

-- without bytes there is no chunk
no_chunk : (room : ℕ) → first_chunk room [] ≡ Open
unfolding first_chunk line_front
no_chunk room = refl

-- more steps than bytes change nothing
pub steps_enough : (f g room : ℕ) (bytes : List ℕ) → length bytes ≤ f → length bytes ≤ g → chunks_in f room bytes ≡ chunks_in g room bytes
unfolding chunks_in
steps_enough zero zero room bytes few more = refl
steps_enough zero (suc g) room [] few more = rw (no_chunk room) refl
steps_enough zero (suc g) room (x ∷ bytes) few more = absurd (omega arith)
steps_enough (suc f) zero room [] few more = rw (no_chunk room) refl
steps_enough (suc f) zero room (x ∷ bytes) few more = absurd (omega arith)
steps_enough (suc f) (suc g) room bytes few more =
    by_chunk (λ line size. steps_enough f g (room - size) (drop (chunk_len line size) bytes)
    (omega (arith, length-drop (chunk_len line size) bytes)) (omega (arith, length-drop (chunk_len line size) bytes))) (first_chunk room bytes)
  where
    by_chunk : ((line size : ℕ) → chunks_in f (room - size) (drop (chunk_len line size) bytes) ≡ chunks_in g (room - size) (drop (chunk_len line size) bytes))
        → (c : Chunk)
        → chunk_content bytes (λ size rest. chunks_in f (room - size) rest) c ≡ chunk_content bytes (λ size rest. chunks_in g (room - size) rest) c
    by_chunk later (Data line size) = ap (content_behind (take size (drop line bytes)) (chunk_len line size)) (later line size)
    by_chunk later (Last n) = refl
    by_chunk later (Refused status) = refl
    by_chunk later Open = refl

-- the chunks by the first of them
pub chunks_step : (steps room : ℕ) (bytes : List ℕ) (c : Chunk) → length bytes ≡ steps → first_chunk room bytes ≡ c
    → chunks_in steps room bytes ≡ chunk_content bytes (λ size rest. chunks_in (steps - 1) (room - size) rest) c
unfolding chunks_in
chunks_step zero room [] c few is = let none = sym is ∙ no_chunk room in rw none refl
chunks_step zero room (x ∷ bytes) c few is = absurd (omega arith)
chunks_step (suc steps) room bytes c few is = let less : suc steps - 1 ≡ steps = omega arith in rw (is, less) refl

pub chunk_fits_as : (room : ℕ) (bytes : List ℕ) (c : Chunk) → first_chunk room bytes ≡ c → FitsChunk room (length bytes) c
chunk_fits_as room bytes c is = subst (λ (k : Chunk). FitsChunk room (length bytes) k) is (chunk_fits room bytes)
