-- Patterns of matrices and the named predicates, as OGC 06-103r4 gives them.
use Rattle.std.specs.Prelude.{◌≡◌, ◌≢◌, ◌⊎◌, ⊤, ℕ, ◌<◌, ◌≤◌, ◌==◌, min, List, length, slice_index, slice_index_or, map, codes, Option, Some, None, IsSome, unwrap_or, if◌then◌else◌}
use Rattle.de9im.specs.declared.matrices.Dim.{Dim}
use Rattle.de9im.specs.declared.matrices.Dim.TheVariants as dim
use Rattle.de9im.specs.declared.matrices.Matrix.{Matrix}
use Rattle.de9im.specs.declared.patterns.Want.{Want}
use Rattle.de9im.specs.declared.patterns.Want.TheVariants as want
use Rattle.de9im.specs.declared.patterns.Named.{Named}
use Rattle.de9im.specs.declared.patterns.Named.TheVariants as named
use Rattle.de9im.specs.Entries.{entries}

-- what a byte asks of an entry: * anything, T a dimension that is not empty, F 0 1 2 just this one
abbrev pub want_of : ℕ → Option Want
want_of b =
    (if b == 42 then Some want.Anything else
    (if b == 84 then Some want.NonEmpty else
    (if b == 70 then Some (want.Exactly dim.F) else
    (if b == 48 then Some (want.Exactly dim.D0) else
    (if b == 49 then Some (want.Exactly dim.D1) else
    (if b == 50 then Some (want.Exactly dim.D2) else None))))))

abbrev pub want_at : List Want → ℕ → Want
want_at ws k = slice_index_or ws k want.Anything

abbrev pub dim_at : List Dim → ℕ → Dim
dim_at ds k = slice_index_or ds k dim.F

-- the text has nine bytes, and each asks what the pattern asks there
pub record IsPattern (text : List ℕ) (ws : List Want) : Type 0 where
  pub nine : length text ≡ 9
  pub each : (k : ℕ) → k < 9 → want_of (slice_index text k) ≡ Some (want_at ws k)

-- all bytes before the place ask something; and the one there, among the first nine, asks nothing, or the text is too short or too long
pub record IsWrongAt (text : List ℕ) (place : ℕ) : Type 0 where
  pub before : (k : ℕ) → k < place → IsSome (want_of (slice_index text k))
  pub stop : ((place < 9) × ((place < length text) × (want_of (slice_index text place) ≡ None))) ⊎ ((place ≡ min (length text) 9) × (length text ≢ 9))

-- the first k bytes, and what they ask
pub record IsReadTo (text : List ℕ) (ws : List Want) (k : ℕ) : Type 0 where
  pub within : k ≤ length text
  pub nine : length ws ≡ 9
  pub each : (j : ℕ) → j < k → want_of (slice_index text j) ≡ Some (want_at ws j)

abbrev pub Admits : Want → Dim → Type 0
Admits want.Anything d = ⊤
Admits want.NonEmpty d = d ≢ dim.F
Admits (want.Exactly e) d = d ≡ e

-- each of the nine entries is what is asked there
pub record Matches (ws : List Want) (ds : List Dim) : Type 0 where
  pub each : (k : ℕ) → k < 9 → Admits (want_at ws k) (dim_at ds k)

-- the first n
pub record MatchesTo (ws : List Want) (ds : List Dim) (n : ℕ) : Type 0 where
  pub each : (k : ℕ) → k < n → Admits (want_at ws k) (dim_at ds k)

abbrev pub wants : List ℕ → List Want
wants text = map (λ b. unwrap_or (want_of b) want.Anything) text

abbrev pub MatchesText : List ℕ → Matrix → Type 0
MatchesText text m = Matches (wants text) (entries m)

abbrev pub IsNamed : Named → Matrix → Type 0
IsNamed named.Disjoint m = MatchesText (codes "FF*FF****") m
IsNamed named.Touches m = MatchesText (codes "FT*******") m ⊎ (MatchesText (codes "F**T*****") m ⊎ MatchesText (codes "F***T****") m)
IsNamed named.Within m = MatchesText (codes "T*F**F***") m
IsNamed named.Contains m = MatchesText (codes "T*****FF*") m
IsNamed named.Overlaps m = MatchesText (codes "T*T***T**") m
IsNamed named.Intersects m = MatchesText (codes "FF*FF****") m → ⊥
