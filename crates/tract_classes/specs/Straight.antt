-- Straight classes: in a closed network of their members the least base relations of the sets agree, so that a scenario
-- can be read off. Renz (1999) finds scenarios of networks over H8, C8 and Q8 by refining their sets in such a way.
use Rattle.std.specs.Prelude.{ℕ, ◌≤◌, List, Contains}
use Rattle.calculus_table.specs.Rel.{Has, IsWithin}
use Rattle.calculus_table.specs.Algebra.{Algebra, entry_at}
use Rattle.calculus_table.specs.Composition.{composition, converse}

-- r is the least base relation of the set
pub record IsLeast (a r : ℕ) : Type 0 where
  pub here : Has a r
  pub least : (t : ℕ) → Has a t → r ≤ t

-- a, b and d are the sets of (i, j), (j, k) and (i, k) of three nodes, each within the composition of the other two
pub record IsClosedTriple (m : Algebra) (a b d : ℕ) : Type 0 where
  pub across : IsWithin d (composition m a b)
  pub first : IsWithin a (composition m d (converse m b))
  pub second : IsWithin b (composition m (converse m a) d)

-- in each closed triple of members the least base relations agree
pub record IsStraight (m : Algebra) (class : List ℕ) : Type 0 where
  pub each : (a b d r s t : ℕ) → Contains class a → Contains class b → Contains class d → IsClosedTriple m a b d →
      IsLeast a r → IsLeast b s → IsLeast d t → Has (entry_at m r s) t

-- they agree in this triple, if it is closed
abbrev pub Agree : Algebra → ℕ → ℕ → ℕ → Type 0
Agree m a b d =
    (r s t : ℕ) → IsClosedTriple m a b d → IsLeast a r → IsLeast b s → IsLeast d t → Has (entry_at m r s) t

-- the set has the least base relation of a, if there is one
abbrev pub HasLeastOf : ℕ → ℕ → Type 0
HasLeastOf set a = (r : ℕ) → IsLeast a r → Has set r
