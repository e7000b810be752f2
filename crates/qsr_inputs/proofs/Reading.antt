-- Parts that are read from the source one after another.
use Rattle.std.proofs.Common.{ℕ, List, Option, Result, Ok, Err, inr}
use Rattle.std.specs.Prelude.{IfSome, IfOk, IfErr, OnOk}
use Rattle.std.specs.Io.KnownBytes.{IsAtEnd}
use Rattle.qsr_inputs.specs.Stops.{Cause, HasCause, IsRefusalOrMemory}
use Rattle.qsr_inputs.specs.Parts.{Then}
use Rattle.qsr_inputs.specs.Readings.{Reads}
use Rattle.qsr_inputs.specs.declared.stops.Stop.{Stop}
use Rattle.qsr_inputs.proofs.Naming.{IfSome-weaker}
use Rattle.qsr_inputs.proofs.Fetching.{HasCause-weaker, not_failed, no_fault, not_long}

module _ {S : Type 0} (left : S → Option (List ℕ)) (faults given : S → ℕ) where
  abbrev ReadsFrom : {A : Type 0} → (List ℕ → Result A Cause → Type 0) → S → S → Result A Stop → Type 0
  ReadsFrom Part old new result = Reads left faults given Part old new result

  -- a value of which a second part is made, or a cause
  module _ {A B : Type 0} (P : List ℕ → Result A Cause → Type 0) (Q : A → Result B Cause → Type 0) (old new : S) (a : A) (h : ReadsFrom P old new (Ok a)) where
    made_value : (r : Result B Stop) → IfOk r (λ v. Q a (Ok v)) → IfOk r (λ v. IfSome (left old) (λ b. Then (P b) Q (Ok v)))
    made_value (Err s) k = tt
    made_value (Ok v) k = IfSome-weaker (left old) (λ b. P b (Ok a)) (λ b. Then (P b) Q (Ok v)) (λ b p. record { value = a; first = p; second = k }) h.value

    made_cause : (r : Result B Stop) → IfErr r (HasCause (Q a)) → IfErr r (λ s. IfSome (left old) (λ b. HasCause (Then (P b) Q) s))
    made_cause (Ok v) k = tt
    made_cause (Err s) k = IfSome-weaker (left old) (λ b. P b (Ok a)) _ (λ b p.
        HasCause-weaker (Q a) (Then (P b) Q) s (λ c i. inr (record { value = a; first = p; second = i })) k) h.value

    ends : (r : Result B Stop) → OnOk r (IsAtEnd (left new))
    ends (Ok v) = h.ends
    ends (Err s) = tt

    pub reads_parsed : (r : Result B Stop) → IfOk r (λ v. Q a (Ok v)) → IfErr r (HasCause (Q a)) → IfErr r IsRefusalOrMemory → ReadsFrom (λ b. Then (P b) Q) old new r
    reads_parsed r v k s = record {
      value = made_value r v;
      cause = made_cause r k;
      ends = ends r;
      read_fault = λ e. absurd (no_fault r e s);
      too_long = λ e. absurd (not_long r e s);
      above = λ more. absurd (h.above more);
      faults_are_told = inr (not_failed a _ h.faults_are_told);
      faults_never_fall = h.faults_never_fall;
    }
