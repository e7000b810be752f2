-- Sets of base relations as they are written.
use Rattle.std.specs.Prelude.{◌≡◌, ℕ, List, [], ◌∷◌, ◌++◌, Some, codes, ◌==◌, if◌then◌else◌}
use Rattle.std.specs.Int.{bit_at}
use Rattle.qsr_lex.specs.Printed.{spaced, text_below, word_text}
use Rattle.calculus_table.specs.Rel.{IsWithin}
use Rattle.calculus_table.specs.Composition.{full_of}
use Rattle.calculus_table.specs.Calculus.{NamedAlgebra, IsNamedCalculus}
use Rattle.named_sets.specs.Named.{members_below, set_of}

-- the name of the base relation r and a space, where r is a member of a
abbrev pub member_text : List (List ℕ) → ℕ → ℕ → List ℕ
member_text names a r = if bit_at a r == 1 then word_text names r else []

-- a set in brackets: the names of its members in ascending order
abbrev pub set_text : NamedAlgebra → ℕ → List ℕ
set_text c a = codes "( " ++ text_below c.algebra.size (member_text c.names a) ++ codes ")"

-- a set and an LF
abbrev pub set_line : NamedAlgebra → ℕ → List ℕ
set_line c a = set_text c a ++ codes "\n"

-- the names of the members of a
abbrev pub members : NamedAlgebra → ℕ → List (List ℕ)
members c a = members_below c.names a c.algebra.size

-- the tokens of a set: the names of its members in brackets
abbrev pub set_tokens : NamedAlgebra → ℕ → List (List ℕ)
set_tokens c a = codes "(" ∷ members c a ++ codes ")" ∷ []

-- the text of a set is its tokens with one space between, and the names among them are those of the set
pub record IsWrittenSet (c : NamedAlgebra) (a : ℕ) : Type 0 where
  pub text : set_text c a ≡ spaced (set_tokens c a)
  pub set : set_of c.names (members c a) ≡ Some a

abbrev pub WrittenSetIsRead : Type 0
WrittenSetIsRead = (c : NamedAlgebra) (a : ℕ) → IsNamedCalculus c → IsWithin a (full_of c.algebra) → IsWrittenSet c a
