-- What the calls that read promise of the shelf and of the source, as records over the meanings of both.
use Rattle.std.specs.Prelude.{◌≡◌, ◌⊎◌, ◌+◌, ◌<◌, ◌≤◌, ℕ, List, [], ◌∷◌, Option, Result, Ok, Err, IfSome, IfOk, IfErr, OnOk}
use Rattle.std.specs.Io.KnownBytes.{IsAtEnd}
use Rattle.qsr_lex.specs.declared.TheConstants.{MAX_TEXT}
use Rattle.qsr_outside.specs.Counts.{Rose, RoseAbove}
use Rattle.qsr_outside.specs.Documents.{Documents}
use Rattle.qsr_inputs.specs.Stops.{Cause, HasCause, IsTooLongStop}
use Rattle.qsr_inputs.specs.Told.{AreThere}
use Rattle.qsr_inputs.specs.declared.stops.Stop.{Stop}
use Rattle.qsr_inputs.specs.declared.stops.Stop.TheVariants as stop

-- ---- documents

-- a fact of the documents of names: of any documents where none is named, else of those that are told
abbrev pub OfNamed : List (List ℕ) → Option Documents → (Documents → Type 0) → Type 0
OfNamed [] told Fact = (documents : Documents) → Fact documents
OfNamed (name ∷ names) told Fact = IfSome told Fact

-- a part is read from the documents of these names, and the shelf is else as it was
pub record Fetches {F A : Type 0} (documents : F → Option Documents) (faults given absent_openings : F → ℕ) (names : List (List ℕ))
    (Part : Documents → Result A Cause → Type 0) (old new : F) (result : Result A Stop) : Type 0 where
  pub value : IfOk result (λ v. OfNamed names (documents old) (λ d. Part d (Ok v)))
  pub cause : IfErr result (λ s. OfNamed names (documents old) (λ d. HasCause (Part d) s))
  pub read_fault : result ≡ Err stop.ReadFault → Rose (faults old) (faults new)
  pub too_long : result ≡ Err stop.TooLong → RoseAbove (given old) (given new) MAX_TEXT
  pub faults_are_told : (result ≡ Err stop.ReadFault) ⊎ (faults new ≡ faults old)
  pub faults_never_fall : faults old ≤ faults new
  pub given_never_falls : given old ≤ given new
  pub documents_stay : documents new ≡ documents old
  pub absent_openings_stay : AreThere names (documents old) → absent_openings new ≡ absent_openings old
  pub none_stays : names ≡ [] → new ≡ old

-- ---- the source

-- a part is read from the source, to its end
pub record Reads {S A : Type 0} (left : S → Option (List ℕ)) (faults given : S → ℕ) (Part : List ℕ → Result A Cause → Type 0)
    (old new : S) (result : Result A Stop) : Type 0 where
  pub value : IfOk result (λ v. IfSome (left old) (λ bytes. Part bytes (Ok v)))
  pub cause : IfErr result (λ s. IfSome (left old) (λ bytes. HasCause (Part bytes) s))
  pub ends : OnOk result (IsAtEnd (left new))
  pub read_fault : result ≡ Err stop.ReadFault → Rose (faults old) (faults new)
  pub too_long : result ≡ Err stop.TooLong → RoseAbove (given old) (given new) MAX_TEXT
  pub above : given old + MAX_TEXT < given new → IsTooLongStop result
  pub faults_are_told : (result ≡ Err stop.ReadFault) ⊎ (faults new ≡ faults old)
  pub faults_never_fall : faults old ≤ faults new
