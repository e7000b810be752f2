-- Composition and converse of sets of base relations (Allen 1983; Randell, Cui and Cohn 1992).
use Rattle.std.specs.Prelude.{◌≡◌, ℕ, ◌-◌, ◌^◌, ◌<◌, ◌==◌, if◌then◌else◌, zero, suc, bit_or}
use Rattle.std.specs.Int.{bit_at}
use Rattle.calculus_table.specs.Rel.{Has}
use Rattle.calculus_table.specs.Algebra.{Algebra, converse_at, entry_at}

-- the set of all base relations
abbrev pub full_of : Algebra → ℕ
full_of m = 2 ^ m.size - 1

-- the union of the sets f 0, .., f (n - 1)
unfoldable pub union_below : ℕ → (ℕ → ℕ) → ℕ
union_below zero f = 0
union_below (suc n) f = bit_or (union_below n f) (f n)

-- the set x where r is a member of a, else the empty set
abbrev pub if_has : ℕ → ℕ → ℕ → ℕ
if_has a r x = if bit_at a r == 1 then x else 0

-- r;B: the union of r;s over the members s of B
abbrev pub row_composition : Algebra → ℕ → ℕ → ℕ
row_composition m r b = union_below m.size (λ s. if_has b s (entry_at m r s))

-- A;B: the union of r;s over the members r of A and s of B
abbrev pub composition : Algebra → ℕ → ℕ → ℕ
composition m a b = union_below m.size (λ r. if_has a r (row_composition m r b))

-- the converses of the members of A
abbrev pub converse : Algebra → ℕ → ℕ
converse m a = union_below m.size (λ r. if_has a r (2 ^ converse_at m r))

-- t is in r;s
pub record Composes (m : Algebra) (r s t : ℕ) : Type 0 where
  pub first_below : r < m.size
  pub second_below : s < m.size
  pub below : t < m.size
  pub member : Has (entry_at m r s) t

-- some r in A and s in B have t in r;s
pub record InComposition (m : Algebra) (a b t : ℕ) : Type 0 where
  pub first : ℕ
  pub second : ℕ
  pub first_in : Has a first
  pub second_in : Has b second
  pub composes : Composes m first second t

-- t is the converse of some r in A
pub record InConverse (m : Algebra) (a t : ℕ) : Type 0 where
  pub base : ℕ
  pub below : base < m.size
  pub base_in : Has a base
  pub is_converse : converse_at m base ≡ t
