-- Counts of faults: a call of a device fails only where the count of its faults rises, or stands at its last value.
use Rattle.std.specs.Prelude.{◌≡◌, ℕ, ◌+◌, ◌-◌, ◌^◌, ◌≤◌, ◌<◌, min, Result, OnOk, OnErr}

-- the number after this one; the last number of 64 bits stays
abbrev pub next_count : ℕ → ℕ
next_count n = min (n + 1) (2 ^ 64 - 1)

-- the count rose, or stands at its last value
abbrev pub Rose : ℕ → ℕ → Type 0
Rose before now = next_count before ≤ now

-- the count of faults over one call: it never falls, is a number of 64 bits, and rose where the call failed
pub record HasCause {T E : Type 0} (before now : ℕ) (result : Result T E) : Type 0 where
  pub later : before ≤ now
  pub in_range : now < 2 ^ 64
  pub failed : OnErr result (Rose before now)

-- exactly the calls that failed are counted
pub record CountsFaults {T E : Type 0} (before now : ℕ) (result : Result T E) : Type 0 where
  pub passed : OnOk result (now ≡ before)
  pub failed : OnErr result (now ≡ next_count before)
