-- The two laws of triples as one choice, and what the search for their first fault goes through.
use Rattle.std.specs.Prelude.{ℕ, ◌<◌}
use Rattle.calculus_table.specs.Algebra.{Algebra}
use Rattle.calculus_table.specs.Calculus.{ConverseAt, CycleAt}
use Rattle.calculus_table.specs.declared.table.TripleLaw.{TripleLaw}
use Rattle.calculus_table.specs.declared.table.TripleLaw.TheVariants.{Converse, Cycle}

-- the triple obeys the law
abbrev pub ObeysAt : TripleLaw → Algebra → ℕ → ℕ → ℕ → Type 0
ObeysAt Converse m = ConverseAt m
ObeysAt Cycle m = CycleAt m

-- each triple of which the first base relation is before r obeys the law
abbrev pub ObeyBefore : TripleLaw → Algebra → ℕ → Type 0
ObeyBefore law m r = (o s t : ℕ) → o < r → s < m.size → t < m.size → ObeysAt law m o s t

-- a fact of each pair of base relations
abbrev pub EachPair : Algebra → (ℕ → ℕ → Type 0) → Type 0
EachPair m P = (s t : ℕ) → s < m.size → t < m.size → P s t

-- (s, t) is the first pair, in lexicographic order, without the property
pub record IsFirstPair (m : Algebra) (P : ℕ → ℕ → Type 0) (s t : ℕ) : Type 0 where
  pub first_below : s < m.size
  pub below : t < m.size
  pub here : ¬ P s t
  pub before : (q : ℕ) → q < t → P s q
  pub first_before : (p q : ℕ) → p < s → q < m.size → P p q
