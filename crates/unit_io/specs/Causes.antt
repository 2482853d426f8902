-- What counts of faults say.
use Rattle.std.specs.Prelude.{ℕ, ◌+◌, ◌-◌, ◌^◌, ◌≤◌, ◌≡◌, min, Result, OnErr, OnOk}

-- a count of faults one higher; at the highest u64 it stands still
abbrev pub one_more : ℕ → ℕ
one_more count = min (count + 1) (2 ^ 64 - 1)

-- the count rose, or stands at the highest u64; it didn't fall
abbrev pub Rose : ℕ → ℕ → Type 0
Rose before now = (before ≤ now) × (one_more before ≤ now)

-- a call fails only where the count of faults rose in it, and every other answer leaves that count as it was
pub record HasCause {T E : Type 0} (before now : ℕ) (result : Result T E) : Type 0 where
  pub failed : OnErr result (Rose before now)
  pub kept : OnOk result (now ≡ before)
