-- The lines of sets that a writer keeps, one after another in one text.
use Rattle.std.specs.Prelude.{◌≡◌, ℕ, ◌≤◌, List, length, Option, IfSome, All, slice_range}
use Rattle.calculus_table.specs.Calculus.{NamedAlgebra}
use Rattle.named_sets.specs.Written.{set_line}
use Rattle.named_sets.specs.declared.writing.TheConstants.{PLACES}
use Rattle.named_sets.specs.declared.writing.KeptLine.{KeptLine}

-- where the line of a set is said to stand, it stands
pub record IsKept (c : NamedAlgebra) (lines : List ℕ) (kept : KeptLine) : Type 0 where
  pub order : kept.start ≤ kept.end
  pub inside : kept.end ≤ length lines
  pub line : slice_range lines kept.start kept.end ≡ set_line c kept.set

-- a line is kept at this place, or none
abbrev pub IsKeptThere : NamedAlgebra → List ℕ → Option KeptLine → Type 0
IsKeptThere c lines place = IfSome place (IsKept c lines)

-- as many places as there may be, and a line at each that says so
pub record AreKept (c : NamedAlgebra) (lines : List ℕ) (places : List (Option KeptLine)) : Type 0 where
  pub count : length places ≡ PLACES
  pub each : All (IsKeptThere c lines) places
