-- Classes of sets of the first base relations.
use Rattle.std.proofs.Common.{ℕ, ◌≤◌, List, length, Ok, subst, inl, inr}
use Rattle.calculus_table.specs.Algebra.{Algebra}
use Rattle.tract_classes.specs.Class.{IsClassBelow, IsSetBelow}
use Rattle.tract_classes.specs.ClassFile.{with_member}
use Rattle.tract_classes.specs.ClassFault.{IsFaultOf, IsClassFaultOf}
use Rattle.tract_classes.specs.declared.fault.ClassFault.{ClassFault}
use Rattle.tract_classes.specs.declared.fault.ClassFault.TheVariants.{Syntax, LacksBase, NotClosed, TooMany, Memory}
use Rattle.tract_classes.specs.declared.TheConstants.{MAX_MEMBERS}
use Rattle.tract_classes.proofs.Ascending.{with_member-increasing, with_member-cases, with_member-keeps}

-- a set more
pub IsClassBelow-with : (n a : ℕ) (class : List ℕ) → IsClassBelow n class → IsSetBelow n a → length (with_member a class) ≤ MAX_MEMBERS →
    IsClassBelow n (with_member a class)
IsClassBelow-with n a class h set few = record {
  is_class = record {
    ascending = with_member-increasing a class h.is_class.ascending;
    empty = with_member-keeps a class 0 h.is_class.empty;
    few = few;
  };
  below = λ x c. elim (with_member-cases a class x c) [ inl e ↦ subst (IsSetBelow n) e set | inr d ↦ h.below x d ];
}

-- the fault of the class is that of the text
pub fault-of_class : (m : Algebra) (class : List ℕ) (fault : ClassFault) → IsFaultOf m class fault → IsClassFaultOf m (Ok class) fault
fault-of_class m class Memory is = tt
fault-of_class m class (Syntax line) is = is
fault-of_class m class (LacksBase r) is = is
fault-of_class m class (NotClosed a b op) is = is
fault-of_class m class (TooMany line) is = is
