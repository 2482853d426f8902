-- How frames are spelled.
use Rattle.std.specs.Prelude.{ℕ, ◌≡◌, ◌≤◌, ◌==◌, Bool, false, List, [], ◌∷◌, ◌++◌, length, codes, decimal, ⊤}
use Rattle.std.specs.List.{list_any}
use Rattle.script_frames.specs.Frames.{Frame, Control, Connection, HungUp, most_bytes}

abbrev pub has_byte : ℕ → List ℕ → Bool
has_byte byte text = list_any (λ b. b == byte) text

-- a listener's name: 1 to 255 bytes, none of which is a space or LF
pub record IsListener (name : List ℕ) : Type 0 where
  pub some : 1 ≤ length name
  pub short : length name ≤ 255
  pub no_space : has_byte 32 name ≡ false
  pub no_end : has_byte 10 name ≡ false

-- a frame that can be spelled
abbrev pub IsFrame : Frame → Type 0
IsFrame (Control bytes) = length bytes ≤ most_bytes
IsFrame (Connection listener bytes) = IsListener listener × (length bytes ≤ most_bytes)
IsFrame (HungUp listener bytes) = IsListener listener × (length bytes ≤ most_bytes)

-- how many bytes there are, LF, and the bytes
abbrev pub counted : List ℕ → List ℕ
counted bytes = decimal (length bytes) ++ 10 ∷ bytes

abbrev pub frame_text : Frame → List ℕ
frame_text (Control bytes) = codes "C" ++ 32 ∷ counted bytes
frame_text (Connection listener bytes) = codes "H" ++ 32 ∷ (listener ++ 32 ∷ counted bytes)
frame_text (HungUp listener bytes) = codes "G" ++ 32 ∷ (listener ++ 32 ∷ counted bytes)

-- frames, one after another
abbrev pub frames_text : List Frame → List ℕ
frames_text [] = []
frames_text (frame ∷ frames) = frame_text frame ++ frames_text frames

abbrev pub AreFrames : List Frame → Type 0
AreFrames [] = ⊤
AreFrames (frame ∷ frames) = IsFrame frame × AreFrames frames
