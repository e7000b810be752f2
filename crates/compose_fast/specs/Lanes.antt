-- What a vector holds at each lane.
use Rattle.std.specs.Prelude.{◌≡◌, ℕ, ◌<◌, ◌/◌, ◌%◌, List, length, slice_index, bit_or}

-- v has n lanes, and lane k holds f k
pub record HasLanes (n : ℕ) (v : List ℕ) (f : ℕ → ℕ) : Type 0 where
  pub long : length v ≡ n
  pub each : (k : ℕ) → k < n → slice_index v k ≡ f k

-- the byte y looked up by its nibbles, the lower in the first list and the upper in the second
abbrev pub by_nibbles : List ℕ → List ℕ → ℕ → ℕ
by_nibbles low high y = bit_or (slice_index low (y % 16)) (slice_index high (y / 16))
