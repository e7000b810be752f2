-- Parts of the input: each has one value, or stops for one cause. A part is the relation to its value or its cause.
use Rattle.std.specs.Prelude.{◌≡◌, ◌⊎◌, Result, Ok, Err}
use Rattle.qsr_inputs.specs.Stops.{Cause}

-- a part that hands its value to a second one
pub record Passes {A B : Type 0} (P : Result A Cause → Type 0) (Q : A → Result B Cause → Type 0) (result : Result B Cause) : Type 0 where
  pub value : A
  pub first : P (Ok value)
  pub second : Q value result

-- a part and then a second one, which depends on the first one's value: the first cause decides
abbrev pub Then : {A B : Type 0} → (Result A Cause → Type 0) → (A → Result B Cause → Type 0) → Result B Cause → Type 0
Then P Q (Ok value) = Passes P Q (Ok value)
Then P Q (Err cause) = P (Err cause) ⊎ Passes P Q (Err cause)

-- a part has one value or one cause at most
abbrev pub IsOne : {A : Type 0} → (Result A Cause → Type 0) → Type 0
IsOne {A = A} P = (x y : Result A Cause) → P x → P y → x ≡ y
