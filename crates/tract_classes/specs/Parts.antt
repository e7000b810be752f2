-- The parts of a set in a class: members that make it up, each the largest within what the ones before it leave.
use Rattle.std.specs.Prelude.{◌≡◌, ◌≢◌, ℕ, ◌<◌, ◌⊎◌, List, [], ◌∷◌, Contains, bit_and, bit_or, bit_xor, count_ones, All, AllPairs}
use Rattle.calculus_table.specs.Rel.{IsWithin}
use Rattle.tract_classes.specs.Class.{IsClass, HasBasesOf}

-- b comes after a: it has fewer base relations, or as many and is the greater word
abbrev pub ComesAfter : ℕ → ℕ → Type 0
ComesAfter a b = (count_ones b < count_ones a) ⊎ ((count_ones b ≡ count_ones a) × (a < b))

-- the member within the set that has the most base relations, among several the one with the least word
pub record IsLargestWithin (class : List ℕ) (set a : ℕ) : Type 0 where
  pub member : Contains class a
  pub within : IsWithin a set
  pub largest : (b : ℕ) → Contains class b → IsWithin b set → b ≢ a → ComesAfter a b

-- the parts of a set: none of the empty one; else the largest member within it, and then the parts of what that leaves
abbrev pub AreParts : List ℕ → ℕ → List ℕ → Type 0
AreParts class set [] = set ≡ 0
AreParts class set (a ∷ parts) = (set ≢ 0) × IsLargestWithin class set a × AreParts class (bit_xor set a) parts

-- two sets have no base relation in common
abbrev pub AreDisjoint : ℕ → ℕ → Type 0
AreDisjoint a b = bit_and a b ≡ 0

-- the union of some sets
abbrev pub union_of : List ℕ → ℕ
union_of [] = 0
union_of (a ∷ sets) = bit_or a (union_of sets)

-- members of the class that aren't empty, no two with a base relation in common, of which the set is the union
pub record IsPartition (class : List ℕ) (set : ℕ) (parts : List ℕ) : Type 0 where
  pub members : All (Contains class) parts
  pub some : All (λ a. a ≢ 0) parts
  pub disjoint : AllPairs AreDisjoint parts
  pub union : union_of parts ≡ set

-- a set has parts
abbrev pub PartsExist : Type 0
PartsExist = (class : List ℕ) (set : ℕ) → IsClass class → HasBasesOf class set → (parts : List ℕ) × AreParts class set parts

-- and has them in one way
abbrev pub PartsAreOne : Type 0
PartsAreOne = (class : List ℕ) (set : ℕ) (parts others : List ℕ) → AreParts class set parts → AreParts class set others → parts ≡ others

-- they are a partition of the set into members
abbrev pub PartsArePartition : Type 0
PartsArePartition = (class : List ℕ) (set : ℕ) (parts : List ℕ) → IsClass class → HasBasesOf class set → AreParts class set parts →
    IsPartition class set parts

-- a member that isn't empty has itself as its one part
abbrev pub MemberIsItsPart : Type 0
MemberIsItsPart = (class : List ℕ) (a : ℕ) → Contains class a → a ≢ 0 → AreParts class a (a ∷ [])
