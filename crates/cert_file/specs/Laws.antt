-- What holds of certificate files.
use Rattle.std.specs.Prelude.{◌≡◌, ◌≢◌, ◌⊎◌, ℕ, ◌==◌, ◌++◌, Bool, true, not, List, codes}
use Rattle.std.specs.List.{list_all}
use Rattle.cert_file.specs.Certificate.{Certificate}
use Rattle.cert_file.specs.Files.{IsFileOf, IsFaultOf}
use Rattle.split_trees.specs.Tree.{TreeNode, HasBareLeaves}
use Rattle.cert_file.specs.Written.{HasForms, IsWritable, certificate_text}
use Rattle.cert_file.specs.declared.fault.CertFault.{CertFault}
use Rattle.cert_file.specs.declared.fault.CertFault.TheVariants.{Memory}

-- no byte ends a line
abbrev pub is_no_line_end : ℕ → Bool
is_no_line_end b = not (b == 10)

abbrev pub HasNoLineEnd : List ℕ → Type 0
HasNoLineEnd bytes = list_all is_no_line_end bytes ≡ true

-- a text with a line end as its last byte, and no other
pub record IsLine (text : List ℕ) : Type 0 where
  pub line : List ℕ
  pub is : text ≡ line ++ codes "\n"
  pub one : HasNoLineEnd line

-- what is written is a line
abbrev pub WrittenIsLine : Type 0
WrittenIsLine = (c : Certificate) → IsWritable c → IsLine (certificate_text c)

-- what is written is a file of the certificate
abbrev pub WrittenIsRead : Type 0
WrittenIsRead = (c : Certificate) → IsWritable c → IsFileOf (certificate_text c) c

-- and what is read can be written
abbrev pub ReadIsWritable : Type 0
ReadIsWritable = (bytes : List ℕ) (c : Certificate) → IsFileOf bytes c → IsWritable c

-- also with another tree whose leaves are bare
abbrev pub ReadHasFormsWithTree : Type 0
ReadHasFormsWithTree = (bytes : List ℕ) (c : Certificate) (tree : List TreeNode) → IsFileOf bytes c → HasBareLeaves tree →
    HasForms (record c { tree = tree })

-- a file is of one certificate at most
abbrev pub FileIsOfOne : Type 0
FileIsOfOne = (bytes : List ℕ) (c other : Certificate) → IsFileOf bytes c → IsFileOf bytes other → c ≡ other

-- bytes have one fault at most, out of memory aside
abbrev pub FileHasOneFault : Type 0
FileHasOneFault = (bytes : List ℕ) (fault other : CertFault) → fault ≢ Memory → other ≢ Memory → IsFaultOf bytes fault →
    IsFaultOf bytes other → fault ≡ other

-- and a file of a certificate has none
abbrev pub FileHasNoFault : Type 0
FileHasNoFault = (bytes : List ℕ) (c : Certificate) (fault : CertFault) → fault ≢ Memory → IsFileOf bytes c → ¬ IsFaultOf bytes fault

-- the fault says something of the bytes: it isn't out of memory
abbrev pub IsOfBytes : CertFault → Type 0
IsOfBytes Memory = ⊥
IsOfBytes fault = Unit {0}

-- bytes are a file of a certificate
pub record IsCertificate (bytes : List ℕ) : Type 0 where
  pub certificate : Certificate
  pub file : IsFileOf bytes certificate

-- bytes have a fault
pub record HasFault (bytes : List ℕ) : Type 0 where
  pub fault : CertFault
  pub of_bytes : IsOfBytes fault
  pub is : IsFaultOf bytes fault

-- bytes are a file or have a fault
abbrev pub FileHasAnswer : Type 0
FileHasAnswer = (bytes : List ℕ) → IsCertificate bytes ⊎ HasFault bytes
