-- Frames, one after another.
use Rattle.std.proofs.Common.{ℕ, zero, suc, ◌<◌, ◌≤◌, ◌≡◌, ◌∙◌, sym, ap, arith, refl, cond, nat_le, List, [], ◌∷◌, Bool, true, false, length, take, drop, Option, Some, None, option_and_then}
use Rattle.std.proofs.lemmas.List.{length-drop}
use Rattle.unit_types.specs.Text.{cut}
use Rattle.unit_types.proofs.CutLemmas.{is_cut}
use Rattle.script_frames.specs.Frames.{Frame, Framed, Kind, and_more, behind_line, first_frame, frame_of, framed, frames_of, frames_within, head_of, with_bytes}

-- what stands behind a frame's bytes
with_bytes_left : (bytes : List ℕ) (head : Kind × ℕ) (first : Frame × List ℕ) → with_bytes bytes head ≡ Some first → first.1 ≡ drop head.1 bytes
with_bytes_left bytes head first is = by_test (nat_le head.1 (length bytes)) is
  where
    by_test : (fits : Bool) → cond fits (Some (frame_of head.0 (take head.1 bytes), drop head.1 bytes)) None ≡ Some first → first.1 ≡ drop head.1 bytes
    by_test true is = cc
    by_test false is = absurd (cc is)

behind_line_left : (parts : List ℕ × List ℕ) (first : Frame × List ℕ) → behind_line parts ≡ Some first → length first.1 ≤ length parts.1
behind_line_left parts first is = by_head (head_of parts.0) refl
  where
    by_head : (head : Option (Kind × ℕ)) → head_of parts.0 ≡ head → length first.1 ≤ length parts.1
    by_head None none = absurd (cc (ap (option_and_then (with_bytes parts.1)) (sym none) ∙ is))
    by_head (Some head) some =
        let left = with_bytes_left parts.1 head first (ap (option_and_then (with_bytes parts.1)) (sym some) ∙ is) in
        omega (arith, ap length left, length-drop head.1 parts.1)

-- a frame has a byte at least
pub shorter : (bytes : List ℕ) (first : Frame × List ℕ) → first_frame bytes ≡ Some first → length first.1 < length bytes
shorter bytes first is = by_cut (cut 10 bytes) refl
  where
    by_cut : (parts : Option (List ℕ × List ℕ)) → cut 10 bytes ≡ parts → length first.1 < length bytes
    by_cut None none = absurd (cc (ap (option_and_then behind_line) (sym none) ∙ is))
    by_cut (Some parts) some =
        let left = behind_line_left parts first (ap (option_and_then behind_line) (sym some) ∙ is) in
        let short = (is_cut 10 bytes parts.0 parts.1 some).shorter in
        omega (arith, left, short)

and_more_same : (bytes : List ℕ) (first : Option (Frame × List ℕ)) (one other : List ℕ → Framed)
    → ((found : Frame × List ℕ) → first ≡ Some found → one found.1 ≡ other found.1) → and_more bytes first one ≡ and_more bytes first other
and_more_same bytes None one other same = refl
and_more_same bytes (Some found) one other same = ap (λ (more : Framed). record { frames = found.0 ∷ more.frames; rest = more.rest }) (same found refl)

-- as many frames as there are bytes are enough
enough : (m n : ℕ) (bytes : List ℕ) → length bytes ≤ m → length bytes ≤ n → frames_within m bytes ≡ frames_within n bytes
enough zero zero bytes h k = refl
enough zero (suc n) [] h k = refl
enough zero (suc n) (b ∷ bytes) h k = absurd (omega arith)
enough (suc m) zero [] h k = refl
enough (suc m) zero (b ∷ bytes) h k = absurd (omega arith)
enough (suc m) (suc n) bytes h k =
    and_more_same bytes (first_frame bytes) (frames_within m) (frames_within n)
    (λ first some. let short = shorter bytes first some in enough m n first.1 (omega (arith, short)) (omega (arith, short)))

-- a frame is the first one, and then come those behind it
pub frames_behind : (bytes : List ℕ) (first : Frame × List ℕ) → first_frame bytes ≡ Some first
    → framed bytes ≡ record { frames = first.0 ∷ frames_of first.1; rest = (framed first.1).rest }
frames_behind [] first is = absurd (cc is)
frames_behind (b ∷ bytes) first is =
    let short = shorter (b ∷ bytes) first is in
    ap (λ o. and_more (b ∷ bytes) o (frames_within (length bytes))) is
    ∙ ap (λ (more : Framed). record { frames = first.0 ∷ more.frames; rest = more.rest }) (enough (length bytes) (length first.1) first.1 (omega arith) (omega arith))

-- where no whole frame stands at the front, there is none
pub no_frame : (bytes : List ℕ) → first_frame bytes ≡ None → framed bytes ≡ record { frames = []; rest = bytes }
no_frame [] none = refl
no_frame (b ∷ bytes) none = ap (λ o. and_more (b ∷ bytes) o (frames_within (length bytes))) none
