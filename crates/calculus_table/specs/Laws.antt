-- What follows from the four laws for sets of base relations, once and for every calculus, and that a table has one fault at most,
-- and one where it is no calculus.
use Rattle.std.specs.Prelude.{◌≡◌, ◌≢◌, ◌⊎◌, ℕ, ◌^◌, List, bit_or}
use Rattle.calculus_table.specs.Rel.{IsWithin}
use Rattle.calculus_table.specs.Algebra.{Algebra}
use Rattle.calculus_table.specs.Composition.{full_of, composition, converse}
use Rattle.calculus_table.specs.Calculus.{IsTable, IsCalculus, AreDistinct}
use Rattle.calculus_table.specs.TableFault.{IsLawFaultOf, IsFaultOf}
use Rattle.calculus_table.specs.declared.calculus.TableFault.{TableFault}
use Rattle.calculus_table.specs.declared.calculus.TableFault.TheVariants.{Memory}

-- composition and converse are monotone
abbrev pub CompositionIsMonotone : Type 0
CompositionIsMonotone =
    (m : Algebra) (a b c d : ℕ) → IsTable m → IsWithin a c → IsWithin b d → IsWithin (composition m a b) (composition m c d)

abbrev pub ConverseIsMonotone : Type 0
ConverseIsMonotone = (m : Algebra) (a b : ℕ) → IsWithin a b → IsWithin (converse m a) (converse m b)

-- composition, on either side, and converse distribute over unions
abbrev pub CompositionDistributesLeft : Type 0
CompositionDistributesLeft =
    (m : Algebra) (a b c : ℕ) → IsTable m → composition m (bit_or a b) c ≡ bit_or (composition m a c) (composition m b c)

abbrev pub CompositionDistributesRight : Type 0
CompositionDistributesRight =
    (m : Algebra) (a b c : ℕ) → IsTable m → composition m a (bit_or b c) ≡ bit_or (composition m a b) (composition m a c)

abbrev pub ConverseDistributes : Type 0
ConverseDistributes = (m : Algebra) (a b : ℕ) → converse m (bit_or a b) ≡ bit_or (converse m a) (converse m b)

-- the converse of A;B is the converse of B composed with the converse of A
abbrev pub ConverseTurnsComposition : Type 0
ConverseTurnsComposition =
    (m : Algebra) (a b : ℕ) → IsCalculus m → converse m (composition m a b) ≡ composition m (converse m b) (converse m a)

-- the converse of the converse of A is A
abbrev pub ConverseIsInvolution : Type 0
ConverseIsInvolution = (m : Algebra) (a : ℕ) → IsCalculus m → IsWithin a (full_of m) → converse m (converse m a) ≡ a

-- the identity composed with A, on either side, is A
abbrev pub IdentityIsNeutral : Type 0
IdentityIsNeutral = (m : Algebra) (a : ℕ) → IsCalculus m → IsWithin a (full_of m) →
    (composition m (2 ^ m.identity) a ≡ a) × (composition m a (2 ^ m.identity) ≡ a)

-- ---- tables and their faults

-- a table has one fault at most, out of memory aside
abbrev pub TableFaultIsOne : Type 0
TableFaultIsOne =
    (names : List (List ℕ)) (m : Algebra) (f g : TableFault) → IsFaultOf names m f → IsFaultOf names m g →
    f ≢ Memory → g ≢ Memory → f ≡ g

-- and a calculus with distinct names has none
abbrev pub CalculusHasNoFault : Type 0
CalculusHasNoFault =
    (names : List (List ℕ)) (m : Algebra) (f : TableFault) → IsCalculus m → AreDistinct names → IsFaultOf names m f → f ≡ Memory

-- a law that a table breaks, at the first place
pub record BreaksLaw (m : Algebra) : Type 0 where
  pub fault : TableFault
  pub broken : IsLawFaultOf m fault

-- a table of the right shape is a calculus, or it breaks a law
abbrev pub TableIsCalculusOrBreaksLaw : Type 0
TableIsCalculusOrBreaksLaw = (m : Algebra) → IsTable m → IsCalculus m ⊎ BreaksLaw m
