-- Certificate files: a JSON text (RFC 8259) in UTF-8, without nesting past what the reader of JSON allows, of an object that stands for
-- a certificate.
use Rattle.std.specs.Prelude.{◌≡◌, ℕ, List, Some, Result, Ok, Err, IsUtf8}
use Rattle.serde_json.specs.Data.{Data}
use Rattle.serde_json.specs.Read.{read}
use Rattle.cert_file.specs.Certificate.{Certificate}
use Rattle.cert_file.specs.Fields.{certificate_of}
use Rattle.cert_file.specs.declared.fault.CertFault.{CertFault}
use Rattle.cert_file.specs.declared.fault.CertFault.TheVariants.{NotJson, Field, Memory}

-- the bytes are a JSON text of the value
pub record IsJsonOf (bytes : List ℕ) (value : Data) : Type 0 where
  pub utf8 : IsUtf8 bytes
  pub is_read : read bytes ≡ Some value

-- they are none
abbrev pub IsNotJson : List ℕ → Type 0
IsNotJson bytes = (value : Data) → ¬ IsJsonOf bytes value

-- they are a JSON text of a value of which this is made
pub record IsMadeOf (bytes : List ℕ) (made : Result Certificate CertFault) : Type 0 where
  pub value : Data
  pub json : IsJsonOf bytes value
  pub is_made : certificate_of value ≡ made

-- the bytes are a file of the certificate
abbrev pub IsFileOf : List ℕ → Certificate → Type 0
IsFileOf bytes c = IsMadeOf bytes (Ok c)

-- the fault is that of the bytes, or out of memory
abbrev pub IsFaultOf : List ℕ → CertFault → Type 0
IsFaultOf bytes NotJson = IsNotJson bytes
IsFaultOf bytes (Field key index) = IsMadeOf bytes (Err (Field key index))
IsFaultOf bytes Memory = Unit {0}
