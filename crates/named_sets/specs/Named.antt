-- Sets of base relations by the names of their members.
use Rattle.std.specs.Prelude.{◌≡◌, ℕ, suc, zero, ◌^◌, ◌<◌, ◌≤◌, ◌==◌, Bool, true, List, [], ◌∷◌, ◌++◌, length, Option, Some, option_map, option_and_then, slice_get, unwrap_or, bit_or, if◌then◌else◌}
use Rattle.std.specs.Int.{bit_at}
use Rattle.std.specs.List.{list_all}
use Rattle.calculus_table.specs.Names.{place_of}
use Rattle.calculus_table.specs.Calculus.{AreDistinct}
use Rattle.calculus_table.specs.declared.TheConstants.{MAX_BASES}
use Rattle.named_sets.specs.Keys.{AreKeys}
use Rattle.qsr_lex.specs.Names.{is_name}
use Rattle.qsr_lex.specs.Lexemes.{Lexeme}
use Rattle.qsr_lex.specs.LineTokens.{names_at}

-- the set of the base relations with these names and the members of `set`; none where a name is that of no base relation
abbrev pub set_from : List (List ℕ) → ℕ → List (List ℕ) → Option ℕ
set_from bases set [] = Some set
set_from bases set (name ∷ names) = option_and_then (λ r. set_from bases (bit_or set (2 ^ r)) names) (place_of name bases)

-- the set of the base relations with these names
abbrev pub set_of : List (List ℕ) → List (List ℕ) → Option ℕ
set_of bases names = set_from bases 0 names

-- names in brackets at the front: the set of the base relations with these names, and what stands after them
abbrev pub set_at : List (List ℕ) → List Lexeme → Option (Option ℕ × List Lexeme)
set_at bases tokens = option_map (λ found. (set_of bases found.0, found.1)) (names_at tokens)

-- the names of base relations: not too many, no two the same, with their keys, and where it is said so, names that may
-- stand in a file
pub record AreBaseNames (bases : List (List ℕ)) (keys : List ℕ) (are_names : Bool) : Type 0 where
  pub few : length bases ≤ MAX_BASES
  pub distinct : AreDistinct bases
  pub keyed : AreKeys bases keys
  pub names : are_names ≡ true → list_all is_name bases ≡ true

-- the name stands at this place
pub record IsAt (names : List (List ℕ)) (place : ℕ) (name : List ℕ) : Type 0 where
  pub below : place < length names
  pub same : slice_get names place ≡ Some name

-- the name of the base relation r
abbrev pub name_of : List (List ℕ) → ℕ → List ℕ
name_of bases r = unwrap_or (slice_get bases r) []

-- the names of the members of a below n, in ascending order
unfoldable pub members_below : List (List ℕ) → ℕ → ℕ → List (List ℕ)
members_below bases a zero = []
members_below bases a (suc r) = members_below bases a r ++ (if bit_at a r == 1 then name_of bases r ∷ [] else [])
