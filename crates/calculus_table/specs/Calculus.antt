-- A calculus: base relations with an identity, converses and compositions that obey four laws.
use Rattle.std.specs.Prelude.{◌≡◌, ◌≢◌, ℕ, ◌*◌, ◌^◌, ◌<◌, ◌≤◌, ◌↔◌, List, length, slice_get}
use Rattle.calculus_table.specs.Rel.{Has, IsWithin}
use Rattle.calculus_table.specs.Algebra.{Algebra, converse_at, entry_at}
use Rattle.calculus_table.specs.Composition.{full_of}
use Rattle.calculus_table.specs.declared.TheConstants.{MAX_BASES}

-- what contracts see of a calculus: the names of its base relations, and what it means
pub record NamedAlgebra : Type 0 where
  pub names : List (List ℕ)
  pub algebra : Algebra

-- a table of the right shape: every list has its length and every member its bound
pub record IsTable (m : Algebra) : Type 0 where
  pub some : 0 < m.size
  pub bounded : m.size ≤ MAX_BASES
  pub identity_below : m.identity < m.size
  pub converses_length : length m.converses ≡ m.size
  pub table_length : length m.table ≡ m.size * m.size
  pub converse_below : (r : ℕ) → r < m.size → converse_at m r < m.size
  pub entry_within : (r s : ℕ) → r < m.size → s < m.size → IsWithin (entry_at m r s) (full_of m)

-- the converse of the converse of r is r, and the identity is its own converse
pub record InvolutionAt (m : Algebra) (r : ℕ) : Type 0 where
  pub twice : converse_at m (converse_at m r) ≡ r
  pub identity : r ≡ m.identity → converse_at m r ≡ r

-- the identity composed with r, on either side, is r alone
pub record IdentityAt (m : Algebra) (r : ℕ) : Type 0 where
  pub left : entry_at m m.identity r ≡ 2 ^ r
  pub right : entry_at m r m.identity ≡ 2 ^ r

-- t is in r;s exactly where its converse is in the composition of the converses in the other order
abbrev pub ConverseAt : Algebra → ℕ → ℕ → ℕ → Type 0
ConverseAt m r s t = Has (entry_at m r s) t ↔ Has (entry_at m (converse_at m s) (converse_at m r)) (converse_at m t)

-- t is in r;s exactly where r is in t;(the converse of s)
abbrev pub CycleAt : Algebra → ℕ → ℕ → ℕ → Type 0
CycleAt m r s t = Has (entry_at m r s) t ↔ Has (entry_at m t (converse_at m s)) r

-- a fact of each base relation, and of each triple of them
abbrev pub EachBase : Algebra → (ℕ → Type 0) → Type 0
EachBase m P = (r : ℕ) → r < m.size → P r

abbrev pub EachTriple : Algebra → (ℕ → ℕ → ℕ → Type 0) → Type 0
EachTriple m P = (r s t : ℕ) → r < m.size → s < m.size → t < m.size → P r s t

-- a table with the four laws
pub record IsCalculus (m : Algebra) : Type 0 where
  pub table : IsTable m
  pub involution : EachBase m (InvolutionAt m)
  pub identity : EachBase m (IdentityAt m)
  pub converse : EachTriple m (ConverseAt m)
  pub cycle : EachTriple m (CycleAt m)

-- no name stands twice
abbrev pub AreDistinct : List (List ℕ) → Type 0
AreDistinct names = (j k : ℕ) → j < k → k < length names → slice_get names j ≢ slice_get names k

-- the name at k stands twice: it is the name at an earlier place too
pub record RepeatsAt (names : List (List ℕ)) (k : ℕ) : Type 0 where
  pub below : k < length names
  pub earlier : ℕ
  pub is_earlier : earlier < k
  pub same : slice_get names earlier ≡ slice_get names k

-- k is the first place at which a name stands twice
pub record IsFirstRepeat (names : List (List ℕ)) (k : ℕ) : Type 0 where
  pub here : RepeatsAt names k
  pub before : (i j : ℕ) → i < j → j < k → slice_get names i ≢ slice_get names j

-- r is the first base relation without the property
pub record IsFirstBase (m : Algebra) (P : ℕ → Type 0) (r : ℕ) : Type 0 where
  pub below : r < m.size
  pub here : ¬ P r
  pub before : (q : ℕ) → q < r → P q

-- (r, s, t) is the first triple, in lexicographic order, without the property
pub record IsFirstTriple (m : Algebra) (P : ℕ → ℕ → ℕ → Type 0) (r s t : ℕ) : Type 0 where
  pub first_below : r < m.size
  pub second_below : s < m.size
  pub below : t < m.size
  pub here : ¬ P r s t
  pub before : (q : ℕ) → q < t → P r s q
  pub second_before : (p q : ℕ) → p < s → q < m.size → P r p q
  pub first_before : (o p q : ℕ) → o < r → p < m.size → q < m.size → P o p q

-- a calculus with one name for each base relation, no name twice
pub record IsNamedCalculus (c : NamedAlgebra) : Type 0 where
  pub lawful : IsCalculus c.algebra
  pub distinct : AreDistinct c.names
  pub one_each : length c.names ≡ c.algebra.size
