-- What holds of what is found at the front of a line's tokens.
use Rattle.std.proofs.Common.{List, [], ◌∷◌, Option, Some, None}
use Rattle.std.specs.Prelude.{IfSome, option_and_then}
use Rattle.qsr_lex.specs.Lexemes.{Lexeme}
use Rattle.qsr_lex.specs.LineTokens.{at_end}

-- nothing is asked
abbrev pub Any : {A : Type 0} → A → Type 0
Any a = Unit {0}

pub IfSome-any : {A : Type 0} (o : Option A) → IfSome o Any
IfSome-any (Some a) = tt
IfSome-any None = tt

-- what is found first goes on into the second
pub IfSome-and_then : {A B : Type 0} (P : A → Type 0) (R : B → Type 0) (f : A → Option B) (o : Option A) →
    IfSome o P → ((a : A) → P a → IfSome (f a) R) → IfSome (option_and_then f o) R
IfSome-and_then P R f (Some a) h k = k a h
IfSome-and_then P R f None h k = tt

pub IfSome-at_end : {A : Type 0} (P : A → Type 0) (a : A) (tokens : List Lexeme) → P a → IfSome (at_end a tokens) P
IfSome-at_end P a [] h = h
IfSome-at_end P a (x ∷ xs) h = tt
