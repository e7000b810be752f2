-- The names of base relations.
use Rattle.std.specs.Prelude.{ℕ, List, [], ◌∷◌, ◌++◌, length, Option, Some, None, bytes_eq, nat_lt, Result, Ok, Err, if◌then◌else◌}
use Rattle.std.specs.List.{list_any}
use Rattle.calculus_table.specs.declared.TheConstants.{MAX_BASES}
use Rattle.calculus_table.specs.declared.calculus.TableFault.TheVariants.{NameTwice}
use Rattle.calculus_load.specs.declared.fault.LoadFault.{LoadFault}
use Rattle.calculus_load.specs.declared.fault.LoadFault.TheVariants.{TooMany, Table}

-- the place of the first name that stands before it too, after the names that stand before
abbrev pub repeat_after : List (List ℕ) → List (List ℕ) → Option ℕ
repeat_after before [] = None
repeat_after before (name ∷ names) =
    if list_any (bytes_eq name) before then Some (length before) else repeat_after (before ++ (name ∷ [])) names

-- the names of the base relations, unless there are too many, or one stands twice
abbrev pub unless_repeated : List (List ℕ) → Option ℕ → Result (List (List ℕ)) LoadFault
unless_repeated names (Some at) = Err (Table (NameTwice at))
unless_repeated names None = Ok names

abbrev pub allowed_names : ℕ → List (List ℕ) → Result (List (List ℕ)) LoadFault
allowed_names line names =
    if nat_lt MAX_BASES (length names) then Err (TooMany line) else unless_repeated names (repeat_after [] names)
