-- Steps of a reader, of which the first fault decides.
use Rattle.std.specs.Prelude.{◌≡◌, ◌≢◌, Result, Ok, Err}

-- a first step, whose fault decides, and then a second
infixl 10 ◌>>=◌
abbrev pub ◌>>=◌ : {E A B : Type 0} → Result A E → (A → Result B E) → Result B E
Ok a >>= f = f a
Err e >>= f = Err e

-- the fault is this step's, unless it is the one that comes from no step
abbrev pub FailsExcept : {E A : Type 0} → E → Result A E → E → Type 0
FailsExcept memory step fault = fault ≢ memory → step ≡ Err fault
