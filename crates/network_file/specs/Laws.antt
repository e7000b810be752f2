-- Laws of network files.
use Rattle.std.specs.Prelude.{◌≡◌, ◌≢◌, ◌⊎◌, ℕ, true, List, Err}
use Rattle.std.specs.List.{list_all}
use Rattle.calculus_table.specs.Calculus.{NamedAlgebra, IsNamedCalculus}
use Rattle.calculus_table.specs.Composition.{full_of}
use Rattle.network_words.specs.Network.{Network, IsNetwork, IsShaped}
use Rattle.qsr_lex.specs.Names.{is_name}
use Rattle.network_file.specs.NetworkText.{network_text}
use Rattle.network_file.specs.NetworkFile.{IsFileOf, FailsWith, read_network}
use Rattle.network_file.specs.declared.fault.FileFault.{FileFault}
use Rattle.network_file.specs.declared.fault.FileFault.TheVariants.{Memory}

-- a network over a calculus, whose names may stand in a file
pub record IsPrintable (c : NamedAlgebra) (net : Network) : Type 0 where
  pub calculus : IsNamedCalculus c
  pub bases : list_all is_name c.names ≡ true
  pub shape : IsShaped net
  pub full : net.full ≡ full_of c.algebra
  pub words : IsNetwork c.algebra net.nodes net.words
  pub names : list_all is_name net.names ≡ true

-- what is printed is a network file, of that network
abbrev pub PrintedIsRead : Type 0
PrintedIsRead = (c : NamedAlgebra) (net : Network) → IsPrintable c net → IsFileOf c (network_text c net) net

-- a text is the file of one network at most
abbrev pub FileIsOfOne : Type 0
FileIsOfOne = (c : NamedAlgebra) (bytes : List ℕ) (net other : Network) → IsFileOf c bytes net → IsFileOf c bytes other → net ≡ other

-- a text has one fault at most, out of memory aside
abbrev pub FileHasOneFault : Type 0
FileHasOneFault = (c : NamedAlgebra) (bytes : List ℕ) (fault other : FileFault) → fault ≢ Memory → other ≢ Memory →
    FailsWith (read_network c bytes) fault → FailsWith (read_network c bytes) other → fault ≡ other

-- a network file has no fault but out of memory
abbrev pub FileHasNoFault : Type 0
FileHasNoFault = (c : NamedAlgebra) (bytes : List ℕ) (net : Network) (fault : FileFault) → IsFileOf c bytes net →
    FailsWith (read_network c bytes) fault → fault ≢ Memory → ⊥

-- the fault says something of the text: it isn't out of memory
abbrev pub IsOfText : FileFault → Type 0
IsOfText Memory = ⊥
IsOfText fault = Unit {0}

-- a text is the file of a network
pub record IsTextOfNetwork (c : NamedAlgebra) (bytes : List ℕ) : Type 0 where
  pub network : Network
  pub file : IsFileOf c bytes network

-- a text has a fault
pub record TextHasFault (c : NamedAlgebra) (bytes : List ℕ) : Type 0 where
  pub fault : FileFault
  pub of_text : IsOfText fault
  pub is : read_network c bytes ≡ Err fault

-- each text is the file of a network or has a fault
abbrev pub FileHasAnswer : Type 0
FileHasAnswer = (c : NamedAlgebra) (bytes : List ℕ) → IsTextOfNetwork c bytes ⊎ TextHasFault c bytes
