-- Laws of table files.
use Rattle.std.specs.Prelude.{◌≡◌, ◌≢◌, ◌⊎◌, ℕ, List, true, Ok}
use Rattle.std.specs.List.{list_all}
use Rattle.qsr_lex.specs.Names.{is_name}
use Rattle.calculus_table.specs.Calculus.{NamedAlgebra, IsNamedCalculus}
use Rattle.calculus_load.specs.TableFile.{table_of, IsLoadFaultOf}
use Rattle.calculus_load.specs.TableText.{table_text}
use Rattle.calculus_load.specs.declared.fault.LoadFault.{LoadFault}
use Rattle.calculus_load.specs.declared.fault.LoadFault.TheVariants.{Memory, Table}
use Rattle.calculus_table.specs.declared.calculus.TableFault.TheVariants as faults

-- the canonical table file of a calculus whose names may stand in a file is read as that calculus
abbrev pub PrintedIsRead : Type 0
PrintedIsRead = (c : NamedAlgebra) → IsNamedCalculus c → list_all is_name c.names ≡ true → table_of (table_text c) ≡ Ok c

-- a calculus has no fault but out of memory
abbrev pub CalculusHasNoFault : Type 0
CalculusHasNoFault = (c : NamedAlgebra) (fault : LoadFault) → IsNamedCalculus c → IsLoadFaultOf (Ok c) fault → fault ≡ Memory

-- a text has one fault at most, out of memory aside
abbrev pub LoadIsOne : Type 0
LoadIsOne = (bytes : List ℕ) (fault other : LoadFault) → fault ≢ Memory → other ≢ Memory →
    IsLoadFaultOf (table_of bytes) fault → IsLoadFaultOf (table_of bytes) other → fault ≡ other

-- a text of a calculus has no fault but out of memory
abbrev pub LoadedHasNoFault : Type 0
LoadedHasNoFault = (bytes : List ℕ) (c : NamedAlgebra) (fault : LoadFault) → table_of bytes ≡ Ok c → IsNamedCalculus c →
    IsLoadFaultOf (table_of bytes) fault → fault ≡ Memory

-- the fault says something of the text: it isn't out of memory
abbrev pub IsOfText : LoadFault → Type 0
IsOfText Memory = ⊥
IsOfText (Table faults.Memory) = ⊥
IsOfText fault = Unit {0}

-- a text is that of a calculus
pub record IsTextOfCalculus (bytes : List ℕ) : Type 0 where
  pub calculus : NamedAlgebra
  pub table : table_of bytes ≡ Ok calculus
  pub lawful : IsNamedCalculus calculus

-- a text has a fault
pub record TextHasFault (bytes : List ℕ) : Type 0 where
  pub fault : LoadFault
  pub of_text : IsOfText fault
  pub is : IsLoadFaultOf (table_of bytes) fault

-- each text is that of a calculus or has a fault
abbrev pub LoadHasAnswer : Type 0
LoadHasAnswer = (bytes : List ℕ) → IsTextOfCalculus bytes ⊎ TextHasFault bytes
