-- What a calculus means, without the names of its base relations.
use Rattle.std.specs.Prelude.{ℕ, ◌+◌, ◌*◌, List, slice_index}

-- the number of base relations, the identity, the converse of each, and the composition r;s at r * size + s
pub record Algebra : Type 0 where
  pub size : ℕ
  pub identity : ℕ
  pub converses : List ℕ
  pub table : List ℕ

-- the converse of the base relation r
abbrev pub converse_at : Algebra → ℕ → ℕ
converse_at m r = slice_index m.converses r

-- the composition r;s of two base relations, a set
abbrev pub entry_at : Algebra → ℕ → ℕ → ℕ
entry_at m r s = slice_index m.table (r * m.size + s)
