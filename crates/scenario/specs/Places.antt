-- What the loops over nodes find: the first place, from a number up, without a property.
use Rattle.std.specs.Prelude.{ℕ, ◌<◌, ◌≤◌}

-- a fact of each node from `from` up, and of each pair i < j of them
abbrev pub EachFrom : ℕ → ℕ → (ℕ → Type 0) → Type 0
EachFrom from n P = (k : ℕ) → from ≤ k → k < n → P k

abbrev pub EachPairFrom : ℕ → ℕ → (ℕ → ℕ → Type 0) → Type 0
EachPairFrom from n P = (i j : ℕ) → from ≤ i → i < j → j < n → P i j

-- k is the first node from `from` up without the property
pub record IsFirstFrom (from n : ℕ) (P : ℕ → Type 0) (k : ℕ) : Type 0 where
  pub above : from ≤ k
  pub below : k < n
  pub here : ¬ P k
  pub before : (q : ℕ) → from ≤ q → q < k → P q

-- (i, j) is the first pair i < j from `from` up, in lexicographic order, without the property
pub record IsFirstPairFrom (from n : ℕ) (P : ℕ → ℕ → Type 0) (i j : ℕ) : Type 0 where
  pub above : from ≤ i
  pub order : i < j
  pub below : j < n
  pub here : ¬ P i j
  pub before : (q : ℕ) → i < q → q < j → P i q
  pub first_before : (p q : ℕ) → from ≤ p → p < i → p < q → q < n → P p q
