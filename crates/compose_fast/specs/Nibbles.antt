-- Sets four members at a time, and sets eight members at a time.
use Rattle.std.specs.Prelude.{ℕ, ◌*◌, ◌/◌, ◌%◌, ◌^◌, bit_and}
use Rattle.calculus_table.specs.Algebra.{Algebra}
use Rattle.calculus_table.specs.Composition.{full_of, row_composition, converse}

-- nibble h of a set: its members 4 h .. 4 h + 3
abbrev pub nibble : ℕ → ℕ → ℕ
nibble a h = a / 2 ^ (4 * h) % 16

-- byte p of a set: its members 8 p .. 8 p + 7
abbrev pub byte : ℕ → ℕ → ℕ
byte a p = a / 2 ^ (8 * p) % 256

-- a row of a table has a place for each value of each nibble: place d is for the set whose nibble d / 16 is d % 16, and which
-- has no other member
abbrev pub set_of_place : ℕ → ℕ
set_of_place d = d % 16 * 2 ^ (4 * (d / 16))

-- what the base relation r gives composed with the set of a place
abbrev pub composition_at : Algebra → ℕ → ℕ → ℕ
composition_at m r d = row_composition m r (bit_and (set_of_place d) (full_of m))

-- the converse of the set of a place
abbrev pub converse_of_place : Algebra → ℕ → ℕ
converse_of_place m d = converse m (bit_and (set_of_place d) (full_of m))

-- the same at place 256 r + d of the rows of all base relations
unfoldable pub row_entry : Algebra → ℕ → ℕ
row_entry m e = composition_at m (e / 256) (e % 256)
