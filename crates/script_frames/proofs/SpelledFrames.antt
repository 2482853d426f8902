-- Frames and their texts.
use Rattle.std.proofs.Common.{ℕ, zero, suc, ◌<◌, ◌≤◌, ◌≡◌, ◌∙◌, Bool, true, false, cond, List, [], ◌∷◌, ◌++◌, length, take, drop, nat_le, refl, sym, ap, subst, arith, Option, Some, None, option_map, option_and_then, append_assoc, length-append, bytes_eq, codes}
use Rattle.std.specs.Prelude.{decimal, ⊤}
use Rattle.std.proofs.Math.Seq.{take-append_seam, drop-append_seam}
use Rattle.std.proofs.lemmas.Bool.{and_parts, le-leb, leb-true}
use Rattle.std.proofs.lemmas.List.{append-nil, take-append-drop, length-take}
use Rattle.std.proofs.lemmas.Option.{option_and_then_some}
use Rattle.std.proofs.lemmas.Slice.Eq.{bytes_eq-Decides}
use Rattle.unit_types.specs.Text.{cut}
use Rattle.script_frames.specs.Frames.{Frame, Control, Connection, HungUp, Framed, Kind, control, connection, hung_up, behind_line, first_frame, frame_of, framed, frames_of, head_by_word, head_of, is_listener, length_of, listener_head, most_bytes, with_bytes}
use Rattle.script_frames.specs.Spelling.{AreFrames, IsFrame, IsListener, counted, frame_text, frames_text, has_byte}
use Rattle.script_frames.proofs.FrameLemmas.{frames_behind, no_frame, shorter}
use Rattle.unit_types.proofs.SpelledLemmas.{cut_at, cut_clean, cut_joined, no_byte_both, no_byte_in}
use Rattle.script_frames.proofs.SpellingLemmas.{decimal_no_byte, length_back, length_spelled}

-- ---- what is spelled is read

with_bytes_back : (kind : Kind) (bytes rest : List ℕ) → with_bytes (bytes ++ rest) (kind, length bytes) ≡ Some (frame_of kind bytes, rest)
with_bytes_back kind bytes rest =
    let fits : length bytes ≤ length (bytes ++ rest) = omega (arith, length-append bytes rest) in
    rw (le-leb (length bytes) (length (bytes ++ rest)) fits, take-append_seam bytes rest, drop-append_seam bytes rest) refl

frame_back : (line : List ℕ) (kind : Kind) (bytes rest : List ℕ) → has_byte 10 line ≡ false → head_of line ≡ Some (kind, length bytes)
    → first_frame (line ++ 10 ∷ (bytes ++ rest)) ≡ Some (frame_of kind bytes, rest)
frame_back line kind bytes rest none is =
    ap (option_and_then behind_line) (cut_at 10 line (bytes ++ rest) none)
    ∙ ap (option_and_then (with_bytes (bytes ++ rest))) is
    ∙ with_bytes_back kind bytes rest

control_head : (n : ℕ) → n ≤ most_bytes → head_of (codes "C" ++ 32 ∷ decimal n) ≡ Some (control, n)
control_head n le =
    ap head_by_word (cut_at 32 (codes "C") (decimal n) refl)
    ∙ ap (option_map (λ (size : ℕ). (control, size))) (length_back n le)

listener_back : (kind : List ℕ → Kind) (listener : List ℕ) (n : ℕ) → IsListener listener → n ≤ most_bytes
    → listener_head kind (cut 32 (listener ++ 32 ∷ decimal n)) ≡ Some (kind listener, n)
listener_back kind listener n is le =
    ap (listener_head kind) (cut_at 32 listener (decimal n) is.no_space)
    ∙ rw (le-leb 1 (length listener) is.some, le-leb (length listener) 255 is.short, length_back n le) refl

connection_head : (listener : List ℕ) (n : ℕ) → IsListener listener → n ≤ most_bytes
    → head_of (codes "H" ++ 32 ∷ (listener ++ 32 ∷ decimal n)) ≡ Some (connection listener, n)
connection_head listener n is le =
    ap head_by_word (cut_at 32 (codes "H") (listener ++ 32 ∷ decimal n) refl) ∙ listener_back connection listener n is le

hung_up_head : (listener : List ℕ) (n : ℕ) → IsListener listener → n ≤ most_bytes
    → head_of (codes "G" ++ 32 ∷ (listener ++ 32 ∷ decimal n)) ≡ Some (hung_up listener, n)
hung_up_head listener n is le =
    ap head_by_word (cut_at 32 (codes "G") (listener ++ 32 ∷ decimal n) refl) ∙ listener_back hung_up listener n is le

listener_no_end : (listener : List ℕ) (n : ℕ) → IsListener listener → n ≤ most_bytes → has_byte 10 (listener ++ 32 ∷ decimal n) ≡ false
listener_no_end listener n is le = no_byte_both 10 listener (32 ∷ decimal n) is.no_end (decimal_no_byte 10 n (omega arith) le)

listener_text : (listener bytes rest : List ℕ)
    → (listener ++ 32 ∷ counted bytes) ++ rest ≡ (listener ++ 32 ∷ decimal (length bytes)) ++ 10 ∷ (bytes ++ rest)
listener_text listener bytes rest =
    append_assoc listener (32 ∷ counted bytes) rest
    ∙ ap (λ (x : List ℕ). listener ++ 32 ∷ x) (append_assoc (decimal (length bytes)) (10 ∷ bytes) rest)
    ∙ sym (append_assoc listener (32 ∷ decimal (length bytes)) (10 ∷ (bytes ++ rest)))

pub frame_read : (frame : Frame) (rest : List ℕ) → IsFrame frame → first_frame (frame_text frame ++ rest) ≡ Some (frame, rest)
frame_read (Control bytes) rest le =
    ap (λ (x : List ℕ). first_frame (codes "C" ++ 32 ∷ x)) (append_assoc (decimal (length bytes)) (10 ∷ bytes) rest)
    ∙ frame_back (codes "C" ++ 32 ∷ decimal (length bytes)) control bytes rest (decimal_no_byte 10 (length bytes) (omega arith) le) (control_head (length bytes) le)
frame_read (Connection listener bytes) rest is =
    ap (λ (x : List ℕ). first_frame (codes "H" ++ 32 ∷ x)) (listener_text listener bytes rest)
    ∙ frame_back (codes "H" ++ 32 ∷ (listener ++ 32 ∷ decimal (length bytes))) (connection listener) bytes rest
    (listener_no_end listener (length bytes) is.0 is.1) (connection_head listener (length bytes) is.0 is.1)
frame_read (HungUp listener bytes) rest is =
    ap (λ (x : List ℕ). first_frame (codes "G" ++ 32 ∷ x)) (listener_text listener bytes rest)
    ∙ frame_back (codes "G" ++ 32 ∷ (listener ++ 32 ∷ decimal (length bytes))) (hung_up listener) bytes rest
    (listener_no_end listener (length bytes) is.0 is.1) (hung_up_head listener (length bytes) is.0 is.1)

pub frames_read : (frames : List Frame) → AreFrames frames → framed (frames_text frames) ≡ record { frames = frames; rest = [] }
frames_read [] are = refl
frames_read (frame ∷ frames) are =
    frames_behind (frame_text frame ++ frames_text frames) (frame, frames_text frames) (frame_read frame (frames_text frames) are.0)
    ∙ ap (λ (f : Framed). record { frames = frame ∷ f.frames; rest = f.rest }) (frames_read frames are.1)

-- ---- what is read was spelled

-- a line's text, without the number
abbrev kind_text : Kind → List ℕ
kind_text control = codes "C" ++ 32 ∷ []
kind_text (connection listener) = codes "H" ++ 32 ∷ (listener ++ 32 ∷ [])
kind_text (hung_up listener) = codes "G" ++ 32 ∷ (listener ++ 32 ∷ [])

abbrev IsKind : Kind → Type 0
IsKind control = ⊤
IsKind (connection listener) = IsListener listener
IsKind (hung_up listener) = IsListener listener

record IsHead (line : List ℕ) (head : Kind × ℕ) : Type 0 where
  kind : IsKind head.0
  short : head.1 ≤ most_bytes
  text : line ≡ kind_text head.0 ++ decimal head.1

-- a number behind what a kind says
map_pair : (kind : Kind) (size : Option ℕ) (head : Kind × ℕ) → option_map (λ (n : ℕ). (kind, n)) size ≡ Some head → (head.0 ≡ kind) × (size ≡ Some head.1)
map_pair kind None head e = absurd (cc e)
map_pair kind (Some n) head e =
    let same : (kind, n) ≡ head = cc e in
    (sym (ap (λ (p : Kind × ℕ). p.0) same), ap (λ (p : Kind × ℕ). Some p.1) same)

pub record IsListened (kind : List ℕ → Kind) (text : List ℕ) (head : Kind × ℕ) : Type 0 where
  listener : List ℕ
  is : IsListener listener
  kind_is : head.0 ≡ kind listener
  short : head.1 ≤ most_bytes
  text_is : text ≡ listener ++ 32 ∷ decimal head.1

listened : (kind : List ℕ → Kind) (text : List ℕ) (head : Kind × ℕ) → has_byte 10 text ≡ false → listener_head kind (cut 32 text) ≡ Some head → IsListened kind text head
listened kind text head clean e = by_cut (cut 32 text) refl e
  where
    by_cut : (parts : Option (List ℕ × List ℕ)) → cut 32 text ≡ parts → listener_head kind parts ≡ Some head → IsListened kind text head
    by_cut None is e = absurd (cc e)
    by_cut (Some parts) is e = by_name (is_listener parts.0) refl e
      where
        by_name : (b : Bool) → is_listener parts.0 ≡ b → cond b (option_map (λ (size : ℕ). (kind parts.0, size)) (length_of parts.1)) None ≡ Some head → IsListened kind text head
        by_name false refused e = absurd (cc e)
        by_name true fits e =
            let named = map_pair (kind parts.0) (length_of parts.1) head e in
            let sized = length_spelled parts.1 head.1 named.1 in
            let bounds = and_parts (nat_le 1 (length parts.0)) (nat_le (length parts.0) 255) fits in
            let joined = cut_joined 32 text parts is in
            let no_end = no_byte_in 10 parts.0 (32 ∷ parts.1) (ap (has_byte 10) (sym joined) ∙ clean) in
            record {
              listener = parts.0;
              is = record {
                some = leb-true 1 (length parts.0) bounds.0;
                short = leb-true (length parts.0) 255 bounds.1;
                no_space = cut_clean 32 text parts is;
                no_end = no_end.0;
              };
              kind_is = named.0;
              short = sized.0;
              text_is = joined ∙ ap (λ (x : List ℕ). parts.0 ++ 32 ∷ x) sized.1;
            }

head_spelled : (line : List ℕ) (head : Kind × ℕ) → has_byte 10 line ≡ false → head_of line ≡ Some head → IsHead line head
head_spelled line head clean e = by_cut (cut 32 line) refl e
  where
    by_cut : (parts : Option (List ℕ × List ℕ)) → cut 32 line ≡ parts → head_by_word parts ≡ Some head → IsHead line head
    by_cut None is e = absurd (cc e)
    by_cut (Some parts) is e = by_word (bytes_eq parts.0 (codes "C")) (bytes_eq parts.0 (codes "H")) (bytes_eq parts.0 (codes "G")) refl refl refl e
      where
        joined : (word : List ℕ) → bytes_eq parts.0 word ≡ true → line ≡ word ++ 32 ∷ parts.1
        joined word same = cut_joined 32 line parts is ∙ ap (λ (x : List ℕ). x ++ 32 ∷ parts.1) ((bytes_eq-Decides parts.0 word).0 same)

        rest_clean : has_byte 10 parts.1 ≡ false
        rest_clean = (no_byte_in 10 parts.0 (32 ∷ parts.1) (ap (has_byte 10) (sym (cut_joined 32 line parts is)) ∙ clean)).1

        of_listener : (kind : List ℕ → Kind) (word : List ℕ) → ((l : List ℕ) → IsListener l → IsKind (kind l))
            → ((l : List ℕ) → kind_text (kind l) ≡ word ++ 32 ∷ (l ++ 32 ∷ [])) → bytes_eq parts.0 word ≡ true
            → listener_head kind (cut 32 parts.1) ≡ Some head → IsHead line head
        of_listener kind word kinds texts same e =
            let l = listened kind parts.1 head rest_clean e in
            let text : kind_text head.0 ++ decimal head.1 ≡ word ++ 32 ∷ (l.listener ++ 32 ∷ decimal head.1) =
            ap (λ (k : Kind). kind_text k ++ decimal head.1) l.kind_is
            ∙ ap (λ (x : List ℕ). x ++ decimal head.1) (texts l.listener)
            ∙ append_assoc word (32 ∷ (l.listener ++ 32 ∷ [])) (decimal head.1)
            ∙ ap (λ (x : List ℕ). word ++ 32 ∷ x) (append_assoc l.listener (32 ∷ []) (decimal head.1)) in
            record {
              kind = subst IsKind (sym l.kind_is) (kinds l.listener l.is);
              short = l.short;
              text = joined word same ∙ ap (λ (x : List ℕ). word ++ 32 ∷ x) l.text_is ∙ sym text;
            }

        by_word : (c h g : Bool) → bytes_eq parts.0 (codes "C") ≡ c → bytes_eq parts.0 (codes "H") ≡ h → bytes_eq parts.0 (codes "G") ≡ g
            → cond c (option_map (λ (size : ℕ). (control, size)) (length_of parts.1)) (cond h (listener_head connection (cut 32 parts.1)) (cond g (listener_head hung_up (cut 32 parts.1)) None)) ≡ Some head
            → IsHead line head
        by_word true h g same other other' e =
            let named = map_pair control (length_of parts.1) head e in
            let sized = length_spelled parts.1 head.1 named.1 in
            record {
              kind = subst IsKind (sym named.0) tt;
              short = sized.0;
              text = joined (codes "C") same ∙ ap (λ (x : List ℕ). codes "C" ++ 32 ∷ x) sized.1 ∙ ap (λ (k : Kind). kind_text k ++ decimal head.1) (sym named.0);
            }
        by_word false true g other same other' e = of_listener connection (codes "H") (λ l is. is) (λ l. refl) same e
        by_word false false true other other' same e = of_listener hung_up (codes "G") (λ l is. is) (λ l. refl) same e
        by_word false false false other other' other'' e = absurd (cc e)

-- the text of a frame is its line, LF and its bytes
frame_is : (kind : Kind) (bytes : List ℕ) → IsKind kind → length bytes ≤ most_bytes
    → IsFrame (frame_of kind bytes) × (frame_text (frame_of kind bytes) ≡ (kind_text kind ++ decimal (length bytes)) ++ 10 ∷ bytes)
frame_is control bytes is short = (short, refl)
frame_is (connection listener) bytes is short =
    ((is, short), ap (λ (x : List ℕ). codes "H" ++ 32 ∷ x) (sym (append_assoc listener (32 ∷ decimal (length bytes)) (10 ∷ bytes)) ∙ ap (λ (x : List ℕ). x ++ 10 ∷ bytes) (sym (append_assoc listener (32 ∷ []) (decimal (length bytes))))))
frame_is (hung_up listener) bytes is short =
    ((is, short), ap (λ (x : List ℕ). codes "G" ++ 32 ∷ x) (sym (append_assoc listener (32 ∷ decimal (length bytes)) (10 ∷ bytes)) ∙ ap (λ (x : List ℕ). x ++ 10 ∷ bytes) (sym (append_assoc listener (32 ∷ []) (decimal (length bytes))))))

frame_spelled : (bytes : List ℕ) (first : Frame × List ℕ) → first_frame bytes ≡ Some first → IsFrame first.0 × (bytes ≡ frame_text first.0 ++ first.1)
frame_spelled bytes first e =
    option_and_then_some _ (cut 10 bytes) first e (λ parts is rest.
    option_and_then_some _ (head_of parts.0) first rest (λ head said last.
    by_fit parts is head said (nat_le head.1 (length parts.1)) refl last))
  where
    by_fit : (parts : List ℕ × List ℕ) → cut 10 bytes ≡ Some parts → (head : Kind × ℕ) → head_of parts.0 ≡ Some head
        → (b : Bool) → nat_le head.1 (length parts.1) ≡ b → cond b (Some (frame_of head.0 (take head.1 parts.1), drop head.1 parts.1)) None ≡ Some first
        → IsFrame first.0 × (bytes ≡ frame_text first.0 ++ first.1)
    by_fit parts is head said false short e = absurd (cc e)
    by_fit parts is head said true long e =
        let line = head_spelled parts.0 head (cut_clean 10 bytes parts is) said in
        let content = take head.1 parts.1 in
        let fits = leb-true head.1 (length parts.1) long in
        let size : length content ≡ head.1 = omega (arith, fits, length-take head.1 parts.1) in
        let frame = frame_is head.0 content line.kind (omega (arith, size, line.short)) in
        let same : (frame_of head.0 content, drop head.1 parts.1) ≡ first = cc e in
        let text : bytes ≡ frame_text (frame_of head.0 content) ++ drop head.1 parts.1 =
        cut_joined 10 bytes parts is
        ∙ ap (λ (x : List ℕ). x ++ 10 ∷ parts.1) (line.text ∙ ap (λ (n : ℕ). kind_text head.0 ++ decimal n) (sym size))
        ∙ ap (λ (x : List ℕ). (kind_text head.0 ++ decimal (length content)) ++ 10 ∷ x) (sym (take-append-drop head.1 parts.1))
        ∙ sym (append_assoc (kind_text head.0 ++ decimal (length content)) (10 ∷ content) (drop head.1 parts.1))
        ∙ ap (λ (x : List ℕ). x ++ drop head.1 parts.1) (sym frame.1) in
        subst (λ (f : Frame × List ℕ). IsFrame f.0 × (bytes ≡ frame_text f.0 ++ f.1)) same (frame.0, text)

-- what a list of frames and a rest are to the bytes
abbrev IsSpelledBy : List ℕ → Framed → Type 0
IsSpelledBy bytes f = AreFrames f.frames × (bytes ≡ frames_text f.frames ++ f.rest)

spelled_by : (bytes : List ℕ) (found : Option (Frame × List ℕ)) → first_frame bytes ≡ found
    → ((first : Frame × List ℕ) → first_frame bytes ≡ Some first → IsSpelledBy first.1 (framed first.1)) → IsSpelledBy bytes (framed bytes)
spelled_by bytes None none behind = subst (IsSpelledBy bytes) (sym (no_frame bytes none)) (tt, refl)
spelled_by bytes (Some first) some behind =
    let spelled = frame_spelled bytes first some in
    let more = behind first some in
    let text : bytes ≡ (frame_text first.0 ++ frames_text (frames_of first.1)) ++ (framed first.1).rest =
    spelled.1 ∙ ap (λ (x : List ℕ). frame_text first.0 ++ x) more.1 ∙ sym (append_assoc (frame_text first.0) (frames_text (frames_of first.1)) (framed first.1).rest) in
    subst (IsSpelledBy bytes) (sym (frames_behind bytes first some)) ((spelled.0, more.0), text)

-- the frames of an input, and what stands behind them, are the input
pub frames_spelled : (most : ℕ) (bytes : List ℕ) → length bytes ≤ most → AreFrames (frames_of bytes) × (bytes ≡ frames_text (frames_of bytes) ++ (framed bytes).rest)
frames_spelled zero [] low = (tt, refl)
frames_spelled zero (b ∷ bytes) low = absurd (omega arith)
frames_spelled (suc most) bytes low = spelled_by bytes (first_frame bytes) refl (λ first some. let short = shorter bytes first some in frames_spelled most first.1 (omega (arith, low, short)))
