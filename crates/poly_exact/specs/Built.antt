-- What a ring is built from, and why a list of points is refused.
use Rattle.std.specs.Prelude.{⊤, ◌≡◌, ℕ, ◌<◌, ◌≤◌, List, length, Bool}
use Rattle.poly_exact.specs.declared.points.Point.{Point}
use Rattle.poly_exact.specs.declared.rings.RingFault.{RingFault}
use Rattle.poly_exact.specs.declared.rings.RingFault.TheVariants as fault
use Rattle.poly_exact.specs.Checks.{IsFirstBad}
use Rattle.poly_exact.specs.Small.{IsSmall}
use Rattle.poly_exact.specs.Rings.{vertex, IsSimple}
use Rattle.poly_exact.specs.Located.{AreSmall}
use Rattle.poly_exact.specs.West.{IsWest, flag}
use Rattle.poly_exact.specs.Kept.{kept}

-- the flags of the first k edges
pub record AreFlags (vs : List Point) (west : List Bool) (k : ℕ) : Type 0 where
  pub many : length west ≡ k
  pub sides : (e : ℕ) → e < k → IsWest vs e (flag west e)

pub record AreSmallTo (vs : List Point) (k : ℕ) : Type 0 where
  pub each : (j : ℕ) → j < k → IsSmall (vertex vs j)

-- the first vertex that is not within the limits
pub record IsFirstLarge (vs : List Point) (k : ℕ) : Type 0 where
  pub below : k < length vs
  pub before : AreSmallTo vs k
  pub large : IsSmall (vertex vs k) → ⊥

-- the vertices that are kept are a simple ring of 3 to 256 vertices within the limits
pub record IsAccepted (ps : List Point) : Type 0 where
  pub small : AreSmall ps
  pub few : 3 ≤ length (kept ps)
  pub many : length (kept ps) ≤ 256
  pub simple : IsSimple (kept ps)

-- the first two edges that meet otherwise than neighbours do, where nothing else is wrong
pub record IsNotSimple (ps : List Point) (e f : ℕ) : Type 0 where
  pub small : AreSmall ps
  pub few : 3 ≤ length (kept ps)
  pub many : length (kept ps) ≤ 256
  pub first : IsFirstBad (kept ps) e f

-- what a fault says of the points: each cause comes only where those before it don't hold
abbrev pub IsFaultOf : RingFault → List Point → Type 0
IsFaultOf (fault.Coordinate k) ps = IsFirstLarge ps k
IsFaultOf fault.Few ps = AreSmall ps × (length (kept ps) < 3)
IsFaultOf fault.ManyVertices ps = AreSmall ps × (256 < length (kept ps))
IsFaultOf (fault.NotSimple e f) ps = IsNotSimple ps e f
IsFaultOf fault.Memory ps = ⊤

-- the same of vertices that are as many as they may be and differ from their neighbours
abbrev pub IsBad : RingFault → List Point → Type 0
IsBad (fault.Coordinate k) vs = ⊥
IsBad fault.Few vs = ⊥
IsBad fault.ManyVertices vs = ⊥
IsBad (fault.NotSimple e f) vs = IsFirstBad vs e f
IsBad fault.Memory vs = ⊤
