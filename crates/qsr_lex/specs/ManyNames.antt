-- Names of which there are more than may be.
use Rattle.std.specs.Prelude.{◌≡◌, ℕ, ◌<◌, List, length, Some}
use Rattle.qsr_lex.specs.Lexemes.{Lexeme}
use Rattle.qsr_lex.specs.LineTokens.{names_until_close, names_at}

-- names in front of a closing bracket, and what stands after it
pub record AreClosedNames (tokens after : List Lexeme) : Type 0 where
  pub names : List (List ℕ)
  pub read : names_until_close tokens ≡ Some (names, after)

-- more than so many names in brackets at the front, and what stands after them
pub record AreMoreNames (most : ℕ) (tokens after : List Lexeme) : Type 0 where
  pub names : List (List ℕ)
  pub read : names_at tokens ≡ Some (names, after)
  pub more : most < length names
