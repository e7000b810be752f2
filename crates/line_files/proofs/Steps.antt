-- What holds of each value that a reader's steps end with, and of each fault.
use Rattle.std.proofs.Common.{◌≡◌, refl, Result, Ok, Err, Option, Some, None, Bool, true, false, cond}
use Rattle.std.specs.Prelude.{IfSome, MatchResult}
use Rattle.std.specs.Option.{ok_or}
use Rattle.line_files.specs.Steps.{◌>>=◌}

-- Q holds of each fault
module _ {E : Type 0} (Q : E → Type 0) where
  -- one step after another
  pub MatchResult-then : {A B : Type 0} (P : A → Type 0) (R : B → Type 0) (r : Result A E) (f : A → Result B E) →
      MatchResult r P Q → ((a : A) → P a → MatchResult (f a) R Q) → MatchResult (r >>= f) R Q
  MatchResult-then P R (Ok a) f h k = k a h
  MatchResult-then P R (Err e) f h k = h

  -- a value that may be missing
  pub MatchResult-ok_or : {A : Type 0} (P : A → Type 0) (o : Option A) (e : E) → IfSome o P → Q e → MatchResult (ok_or o e) P Q
  MatchResult-ok_or P (Some a) e h q = h
  MatchResult-ok_or P None e h q = q

  -- either of two
  pub MatchResult-cond : {A : Type 0} (P : A → Type 0) (b : Bool) (r s : Result A E) →
      (b ≡ true → MatchResult r P Q) → (b ≡ false → MatchResult s P Q) → MatchResult (cond b r s) P Q
  MatchResult-cond P true r s h k = h refl
  MatchResult-cond P false r s h k = k refl
