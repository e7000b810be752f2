-- Laws of class files.
use Rattle.std.specs.Prelude.{◌≡◌, ◌≢◌, ◌⊎◌, ℕ, List, Ok}
use Rattle.calculus_table.specs.Calculus.{NamedAlgebra, IsNamedCalculus}
use Rattle.tract_classes.specs.Class.{IsClosedClass}
use Rattle.tract_classes.specs.ClassFile.{class_of}
use Rattle.tract_classes.specs.ClassFault.{IsClassFaultOf}
use Rattle.tract_classes.specs.declared.fault.ClassFault.{ClassFault}
use Rattle.tract_classes.specs.declared.fault.ClassFault.TheVariants.{Memory}

-- a text has one fault at most, out of memory aside
abbrev pub ClassFaultIsOne : Type 0
ClassFaultIsOne = (c : NamedAlgebra) (bytes : List ℕ) (fault other : ClassFault) → fault ≢ Memory → other ≢ Memory →
    IsClassFaultOf c.algebra (class_of c.names bytes) fault → IsClassFaultOf c.algebra (class_of c.names bytes) other → fault ≡ other

-- a text of a closed class has none
abbrev pub ClosedClassHasNoFault : Type 0
ClosedClassHasNoFault = (c : NamedAlgebra) (bytes class : List ℕ) (fault : ClassFault) → class_of c.names bytes ≡ Ok class →
    IsClosedClass c.algebra class → IsClassFaultOf c.algebra (class_of c.names bytes) fault → fault ≡ Memory

-- a text is that of a closed class
pub record IsTextOfClass (c : NamedAlgebra) (bytes : List ℕ) : Type 0 where
  pub class : List ℕ
  pub is_of_text : class_of c.names bytes ≡ Ok class
  pub closed : IsClosedClass c.algebra class

-- a text has a fault
pub record TextHasFault (c : NamedAlgebra) (bytes : List ℕ) : Type 0 where
  pub fault : ClassFault
  pub of_text : fault ≢ Memory
  pub is : IsClassFaultOf c.algebra (class_of c.names bytes) fault

-- each text is that of a closed class or has a fault
abbrev pub ClassFileHasAnswer : Type 0
ClassFileHasAnswer = (c : NamedAlgebra) (bytes : List ℕ) → IsNamedCalculus c → IsTextOfClass c bytes ⊎ TextHasFault c bytes
