-- Classes of relations (Renz and Nebel 1999; Nebel and Bürckert 1995): sets of sets of base relations, as the list of their
-- members in ascending order.
use Rattle.std.specs.Prelude.{ℕ, ◌-◌, ◌^◌, ◌≤◌, List, length, Contains, bit_and}
use Rattle.std.specs.List.Sorted.{IsStrictlyIncreasing}
use Rattle.calculus_table.specs.Rel.{Has, IsWithin}
use Rattle.calculus_table.specs.Algebra.{Algebra}
use Rattle.calculus_table.specs.Composition.{full_of, composition, converse}
use Rattle.calculus_table.specs.Calculus.{EachBase}
use Rattle.tract_classes.specs.declared.TheConstants.{MAX_MEMBERS}

-- the members are in ascending order, each once, the empty relation is one of them, and they aren't too many
pub record IsClass (class : List ℕ) : Type 0 where
  pub ascending : IsStrictlyIncreasing class
  pub empty : Contains class 0
  pub few : length class ≤ MAX_MEMBERS

-- a fact of each member, and of each two of them
abbrev pub EachMember : List ℕ → (ℕ → Type 0) → Type 0
EachMember class P = (a : ℕ) → Contains class a → P a

abbrev pub EachPair : List ℕ → (ℕ → ℕ → Type 0) → Type 0
EachPair class P = (a b : ℕ) → Contains class a → Contains class b → P a b

-- the base relation r is a member by itself
abbrev pub HasBase : List ℕ → ℕ → Type 0
HasBase class r = Contains class (2 ^ r)

-- so is each base relation of the set
abbrev pub HasBasesOf : List ℕ → ℕ → Type 0
HasBasesOf class a = (r : ℕ) → Has a r → HasBase class r

-- the converse of a is a member; so are the intersection and the composition of a and b
abbrev pub HasConverse : Algebra → List ℕ → ℕ → Type 0
HasConverse m class a = Contains class (converse m a)

abbrev pub HasMeet : List ℕ → ℕ → ℕ → Type 0
HasMeet class a b = Contains class (bit_and a b)

abbrev pub HasComposition : Algebra → List ℕ → ℕ → ℕ → Type 0
HasComposition m class a b = Contains class (composition m a b)

-- a set of the first n base relations
abbrev pub IsSetBelow : ℕ → ℕ → Type 0
IsSetBelow n a = IsWithin a (2 ^ n - 1)

-- a class of sets of the first n base relations
pub record IsClassBelow (n : ℕ) (class : List ℕ) : Type 0 where
  pub is_class : IsClass class
  pub below : EachMember class (IsSetBelow n)

-- the members are sets of base relations of the calculus
abbrev pub AreSetsOf : Algebra → List ℕ → Type 0
AreSetsOf m class = EachMember class (λ a. IsWithin a (full_of m))

-- a class of sets of base relations of the calculus, that has each base relation and is closed under converse, intersection and
-- composition
pub record IsClosedClass (m : Algebra) (class : List ℕ) : Type 0 where
  pub sets : AreSetsOf m class
  pub bases : EachBase m (HasBase class)
  pub converse : EachMember class (HasConverse m class)
  pub meet : EachPair class (HasMeet class)
  pub composition : EachPair class (HasComposition m class)
