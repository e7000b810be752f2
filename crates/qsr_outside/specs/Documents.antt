-- The named documents of a shelf.
use Rattle.std.specs.Prelude.{◌≡◌, ℕ, List, Option, None, Some, MatchOption, IfSome, IsSomeAnd}
use Rattle.std.specs.Ordering.{nat_cmp}
use Rattle.std.specs.Cmp.Lexicographic.{slice_cmp}
use Rattle.std.specs.FinMap as map
use Rattle.std.specs.Option.{option_map_or}
use Rattle.qsr_outside.specs.Counts.{RoseBy, count_after}

-- a finite map from names to documents, both of bytes
abbrev pub Documents : Type 0
Documents = map.FinMap (slice_cmp nat_cmp) (List ℕ)

-- the document of a name, if the map has the name
abbrev pub document : Documents → List ℕ → Option (List ℕ)
document documents name = map.get documents name

-- an opening of a name that no document has is counted, and no other
abbrev pub CountsOpening : Option Documents → List ℕ → ℕ → ℕ → Type 0
CountsOpening None name old new = new ≡ old
CountsOpening (Some documents) name old new = MatchOption (document documents name) (RoseBy old new 1) (λ _. new ≡ old)

-- the number of openings of absent names after one of this name
abbrev pub absent_openings_after : Documents → List ℕ → ℕ → ℕ
absent_openings_after documents name old = option_map_or (λ _. old) (document documents name) (count_after old 1)

-- the documents are told, and that of the name has the property
abbrev pub HasDocument : Option Documents → List ℕ → (List ℕ → Type 0) → Type 0
HasDocument told name P = IsSomeAnd told (λ documents. IsSomeAnd (document documents name) P)

-- where the documents are told, one has the name and has the property
abbrev pub TellsDocument : Option Documents → List ℕ → (List ℕ → Type 0) → Type 0
TellsDocument told name P = IfSome told (λ documents. IsSomeAnd (document documents name) P)

-- the documents are told, and none has the name
abbrev pub LacksDocument : Option Documents → List ℕ → Type 0
LacksDocument told name = IsSomeAnd told (λ documents. document documents name ≡ None)
