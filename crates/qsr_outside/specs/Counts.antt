-- Counters of an object outside, which never fall and stand still at the last value of their type.
use Rattle.std.specs.Prelude.{ℕ, ◌+◌, ◌-◌, ◌^◌, ◌≤◌, min}

-- the last value of a counter of 64 bits
abbrev pub last_count : ℕ
last_count = 2 ^ 64 - 1

-- the counter rose, or stands at its last value
abbrev pub Rose : ℕ → ℕ → Type 0
Rose old new = min (old + 1) last_count ≤ new

-- the counter rose by more than n, or stands at its last value
abbrev pub RoseAbove : ℕ → ℕ → ℕ → Type 0
RoseAbove old new n = min (old + n + 1) last_count ≤ new

-- the counter rose by n, or stands at its last value
pub record RoseBy (old new n : ℕ) : Type 0 where
  pub never_fell : old ≤ new
  pub at_most : new ≤ old + n
  pub at_least : min (old + n) last_count ≤ new

-- the counter after n more, at its last value from there on
abbrev pub count_after : ℕ → ℕ → ℕ
count_after old n = min (old + n) last_count
