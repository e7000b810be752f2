-- Generators of a class under intersection.
use Rattle.std.specs.Prelude.{◌≡◌, ℕ, ◌-◌, ◌^◌, ◌==◌, if◌then◌else◌, List, Contains, All, fold, bit_and}
use Rattle.tract_classes.specs.Class.{EachMember, HasMeet}

-- the intersection of x with g, where the set a is within g, else x
abbrev pub meet_around : ℕ → ℕ → ℕ → ℕ
meet_around a x g = if bit_and a g == a then bit_and x g else x

-- the intersection of those sets that a is within; of none, all that a word has room for
abbrev pub meet_of_around : List ℕ → ℕ → ℕ
meet_of_around sets a = fold (meet_around a) (2 ^ 64 - 1) sets

-- the sets are members, and each member is the intersection of those that it is within
pub record Generate (class sets : List ℕ) : Type 0 where
  pub members : All (Contains class) sets
  pub each : EachMember class (λ a. meet_of_around sets a ≡ a)

-- the intersection of a with each of the sets is a member
abbrev pub HasMeets : List ℕ → List ℕ → ℕ → Type 0
HasMeets class sets a = All (HasMeet class a) sets
