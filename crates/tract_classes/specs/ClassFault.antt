-- Why a text is no class of a calculus: the first faulty line, or else the first of the tests of the class that fails, at its
-- first place.
use Rattle.std.specs.Prelude.{◌≡◌, ℕ, ◌<◌, ◌⊎◌, List, Contains, Result, Ok, Err}
use Rattle.line_files.specs.Steps.{FailsExcept}
use Rattle.calculus_table.specs.Algebra.{Algebra}
use Rattle.calculus_table.specs.Calculus.{EachBase, IsFirstBase}
use Rattle.tract_classes.specs.Class.{EachMember, EachPair, HasBase, HasConverse, HasMeet, HasComposition}
use Rattle.tract_classes.specs.declared.fault.TheConstants.{CONVERSE, MEET, COMPOSITION}
use Rattle.tract_classes.specs.declared.fault.ClassFault.{ClassFault}
use Rattle.tract_classes.specs.declared.fault.ClassFault.TheVariants.{LacksBase, NotClosed, Memory}

-- a is the first member, in ascending order, without the property
pub record IsFirstMember (class : List ℕ) (P : ℕ → Type 0) (a : ℕ) : Type 0 where
  pub member : Contains class a
  pub here : ¬ P a
  pub before : (b : ℕ) → b < a → Contains class b → P b

-- (a, b) are the first two members, in lexicographic order, without the property
pub record IsFirstPair (class : List ℕ) (P : ℕ → ℕ → Type 0) (a b : ℕ) : Type 0 where
  pub first : Contains class a
  pub second : IsFirstMember class (P a) b
  pub before : (c d : ℕ) → c < a → Contains class c → Contains class d → P c d

-- the first member whose converse is none; there is no second one, and 0 stands for it
pub record LacksConverse (m : Algebra) (class : List ℕ) (a b op : ℕ) : Type 0 where
  pub operation : op ≡ CONVERSE
  pub first : IsFirstMember class (HasConverse m class) a
  pub second : b ≡ 0

-- the first two members whose intersection is none, where each converse is
pub record LacksMeet (m : Algebra) (class : List ℕ) (a b op : ℕ) : Type 0 where
  pub operation : op ≡ MEET
  pub converse : EachMember class (HasConverse m class)
  pub first : IsFirstPair class (HasMeet class) a b

-- the first two members whose composition is none, where each converse and each intersection is
pub record LacksComposition (m : Algebra) (class : List ℕ) (a b op : ℕ) : Type 0 where
  pub operation : op ≡ COMPOSITION
  pub converse : EachMember class (HasConverse m class)
  pub meet : EachPair class (HasMeet class)
  pub first : IsFirstPair class (HasComposition m class) a b

-- the class isn't closed under the operation with this number, first at a and b
abbrev pub IsNotClosedAt : Algebra → List ℕ → ℕ → ℕ → ℕ → Type 0
IsNotClosedAt m class a b op = LacksConverse m class a b op ⊎ LacksMeet m class a b op ⊎ LacksComposition m class a b op

-- the fault of a class of sets of base relations
abbrev pub IsFaultOf : Algebra → List ℕ → ClassFault → Type 0
IsFaultOf m class (LacksBase r) = IsFirstBase m (HasBase class) r
IsFaultOf m class (NotClosed a b op) = EachBase m (HasBase class) × IsNotClosedAt m class a b op
IsFaultOf m class fault = ⊥

-- a fault other than out of memory is this step's
abbrev pub FailsWith : Result (List ℕ) ClassFault → ClassFault → Type 0
FailsWith step fault = FailsExcept Memory step fault

-- the fault of a text: that of its lines, or else of its class; out of memory says nothing of the text
abbrev pub IsClassFaultOf : Algebra → Result (List ℕ) ClassFault → ClassFault → Type 0
IsClassFaultOf m class Memory = Unit {0}
IsClassFaultOf m (Err fault) other = other ≡ fault
IsClassFaultOf m (Ok class) fault = IsFaultOf m class fault
