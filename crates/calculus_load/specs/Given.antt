-- What the lines of a table file have given so far.
use Rattle.std.specs.Prelude.{ℕ, ◌+◌, ◌*◌, ◌/◌, ◌%◌, List, [], ◌∷◌, map, length, slice_index_or, slice_set, Option, Some, None, is_some, unwrap_or, Result, Ok, Err, if◌then◌else◌}
use Rattle.calculus_table.specs.Algebra.{Algebra}
use Rattle.calculus_table.specs.Calculus.{NamedAlgebra, IsTable}
use Rattle.calculus_load.specs.declared.fault.LoadFault.{LoadFault}
use Rattle.calculus_load.specs.declared.fault.LoadFault.TheVariants.{Missing, Twice}

-- the names and the identity, and of each converse and each composition of a pair, at r * size + s, whether it was given and
-- what it is
pub record Given : Type 0 where
  pub names : List (List ℕ)
  pub identity : ℕ
  pub converses : List (Option ℕ)
  pub entries : List (Option ℕ)

-- what was given, or 0
abbrev pub value_of : Option ℕ → ℕ
value_of given = unwrap_or given 0

-- the table of numbers so far, with 0 for what was not given
abbrev pub algebra_of : Given → Algebra
algebra_of g = record { size = length g.names; identity = g.identity; converses = map value_of g.converses; table = map value_of g.entries }

-- every list has its length, and what was given has its bound
abbrev pub HasShape : Given → Type 0
HasShape g = IsTable (algebra_of g)

-- the converse of a is b, by this line
abbrev pub give_converse : ℕ → ℕ → ℕ → Given → Result Given LoadFault
give_converse line a b g =
    if is_some (slice_index_or g.converses a None) then Err (Twice line)
    else Ok (record g { converses = slice_set g.converses a (Some b) })

-- the composition of a and b is the set, by this line
abbrev pub give_entry : ℕ → ℕ → ℕ → ℕ → Given → Result Given LoadFault
give_entry line a b set g =
    if is_some (slice_index_or g.entries (a * length g.names + b) None) then Err (Twice line)
    else Ok (record g { entries = slice_set g.entries (a * length g.names + b) (Some set) })

-- the first place from k on at which nothing was given
abbrev pub first_missing_from : {A : Type 0} → ℕ → List (Option A) → Option ℕ
first_missing_from k [] = None
first_missing_from k (None ∷ xs) = Some k
first_missing_from k (Some x ∷ xs) = first_missing_from (k + 1) xs

abbrev pub first_missing : {A : Type 0} → List (Option A) → Option ℕ
first_missing xs = first_missing_from 0 xs

-- the fault of a missing pair, the first in lexicographic order, or what was given as a table
abbrev pub with_entries : Given → Option ℕ → Result NamedAlgebra LoadFault
with_entries g (Some k) = Err (Missing (k / length g.names) (Some (k % length g.names)))
with_entries g None = Ok (record { names = g.names; algebra = algebra_of g })

-- the fault of a missing converse, the first in ascending order, or else as the pairs say
abbrev pub with_converses : Given → Option ℕ → Result NamedAlgebra LoadFault
with_converses g (Some r) = Err (Missing r None)
with_converses g None = with_entries g (first_missing g.entries)

-- the whole table, where every converse and every pair was given
abbrev pub complete : Given → Result NamedAlgebra LoadFault
complete g = with_converses g (first_missing g.converses)
