-- Where the rows of edges begin, each of the edges from one node to greater ones.
use Rattle.std.specs.Prelude.{◌≡◌, ℕ, ◌+◌, ◌-◌, ◌*◌, ◌/◌, ◌<◌, ◌≤◌, List, length, slice_index}
use Rattle.network_words.specs.declared.TheConstants.{MAX_NODES}

-- what the number of an edge from i to j has more than j, and MAX_NODES + 1 besides
abbrev pub row_shift : ℕ → ℕ → ℕ
row_shift n i = i * (2 * n - i - 1) / 2 + (MAX_NODES - i)

-- the list has it for each of the nodes
pub record AreShifts (n : ℕ) (shifts : List ℕ) : Type 0 where
  pub few : n ≤ MAX_NODES
  pub length_is : length shifts ≡ n
  pub each : (i : ℕ) → i < n → slice_index shifts i ≡ row_shift n i
