-- The pieces into which a ring's vertices cut an edge, and what the edge's places see of the ring.
use Rattle.std.specs.Prelude.{◌≡◌, ◌⊎◌, ℕ, ◌<◌, pos, ◌*ℤ◌, ◌<ℤ◌, ◌≤ℤ◌, List, length, true, ◌||◌, IsTrue}
use Rattle.poly_exact.specs.declared.points.Point.{Point}
use Rattle.poly_exact.specs.declared.locations.Location.{Location}
use Rattle.poly_exact.specs.declared.locations.Location.TheVariants as location
use Rattle.de9im.specs.declared.cuts.Sight.{Sight}
use Rattle.poly_exact.specs.Places.{Place, turn, reach, IsOnEdge}
use Rattle.poly_exact.specs.Rings.{vertex, next, IsOnRing, IsInRing, IsOutOfRing}
use Rattle.de9im.specs.Matrix.{Common}
use Rattle.poly_exact.specs.Small.{IsSmall, place_at}
use Rattle.poly_exact.specs.Met.{AreParted}

-- a vertex on the line of the edge, before its second end
pub record IsCut (a b c : Point) : Type 0 where
  pub small : IsSmall c
  pub line : turn a b (place_at c) ≡ pos 0
  pub low : pos 0 ≤ℤ reach a b (place_at c)
  pub high : reach a b (place_at c) <ℤ reach a b (place_at b)

-- a vertex on the line of the edge, strictly between two
pub record IsNearer (a b from best c : Point) : Type 0 where
  pub line : turn a b (place_at c) ≡ pos 0
  pub beyond : reach a b (place_at from) <ℤ reach a b (place_at c)
  pub before : reach a b (place_at c) <ℤ reach a b (place_at best)

-- one of the first n vertices
pub record IsAmong (c : Point) (ws : List Point) (n : ℕ) : Type 0 where
  pub k : ℕ
  pub below : k < n
  pub is : c ≡ vertex ws k

-- none of the first n vertices is strictly between
pub record IsNextTo (d a b c : Point) (ws : List Point) (n : ℕ) : Type 0 where
  pub small : IsSmall d
  pub line : turn a b (place_at d) ≡ pos 0
  pub beyond : reach a b (place_at c) <ℤ reach a b (place_at d)
  pub high : reach a b (place_at d) ≤ℤ reach a b (place_at b)
  pub none : (k : ℕ) → k < n → turn a b (place_at (vertex ws k)) ≡ pos 0 → reach a b (place_at c) <ℤ reach a b (place_at (vertex ws k)) → reach a b (place_at (vertex ws k)) <ℤ reach a b (place_at d) → ⊥
  pub end : (d ≡ b) ⊎ IsAmong d ws n

abbrev pub IsNextCut : Point → Point → Point → Point → List Point → Type 0
IsNextCut d a b c ws = IsNextTo d a b c ws (length ws)

-- no edge of the ring crosses the edge properly
pub record IsUncrossed (a b : Point) (ws : List Point) : Type 0 where
  pub none : (k : ℕ) → k < length ws → AreParted (turn (vertex ws k) (vertex ws (next ws k)) (place_at a)) (turn (vertex ws k) (vertex ws (next ws k)) (place_at b))
      → AreParted (turn a b (place_at (vertex ws k))) (turn a b (place_at (vertex ws (next ws k)))) → ⊥

pub record IsAllUncrossed (vs ws : List Point) : Type 0 where
  pub each : (e : ℕ) → e < length vs → IsUncrossed (vertex vs e) (vertex vs (next vs e)) ws

-- a place of the piece that begins at c: no vertex of the line lies beyond c up to the place
pub record IsInPiece (a b c : Point) (ws : List Point) (z : Place) : Type 0 where
  pub weight : pos 0 <ℤ z.w
  pub on : IsOnEdge a b z
  pub low : (reach a b (place_at c) *ℤ z.w) ≤ℤ reach a b z
  pub high : reach a b z <ℤ (reach a b (place_at b) *ℤ z.w)
  pub none : (k : ℕ) → k < length ws → turn a b (place_at (vertex ws k)) ≡ pos 0 → reach a b (place_at c) <ℤ reach a b (place_at (vertex ws k)) → reach a b z <ℤ (reach a b (place_at (vertex ws k)) *ℤ z.w)

-- a location of a place of the edge, which speaks for the piece
pub record IsSample (l : Location) (a b c : Point) (ws : List Point) : Type 0 where
  pub sound_in : l ≡ location.In → Common (IsOnEdge a b) (IsInRing ws)
  pub sound_out : l ≡ location.Out → Common (IsOnEdge a b) (IsOutOfRing ws)
  pub full_in : (z : Place) → IsInPiece a b c ws z → IsInRing ws z → l ≡ location.In
  pub full_out : (z : Place) → IsInPiece a b c ws z → IsOutOfRing ws z → l ≡ location.Out

abbrev pub seen : Sight → Location → Sight
seen s location.In = record { inside = true; outside = s.outside }
seen s location.On = s
seen s location.Out = record { inside = s.inside; outside = true }

abbrev pub joined : Sight → Sight → Sight
joined s t = record { inside = s.inside || t.inside; outside = s.outside || t.outside }

-- what is seen is there
pub record IsTrueSight (s : Sight) (on : Place → Type 0) (ws : List Point) : Type 0 where
  pub inside : IsTrue s.inside → Common on (IsInRing ws)
  pub outside : IsTrue s.outside → Common on (IsOutOfRing ws)

-- the place is seen
pub record IsSeen (s : Sight) (ws : List Point) (z : Place) : Type 0 where
  pub inside : IsInRing ws z → IsTrue s.inside
  pub outside : IsOutOfRing ws z → IsTrue s.outside

-- all of the edge but its second end
pub record IsSight (s : Sight) (a b : Point) (ws : List Point) : Type 0 where
  pub sound : IsTrueSight s (IsOnEdge a b) ws
  pub full : (z : Place) → pos 0 <ℤ z.w → IsOnEdge a b z → reach a b z <ℤ (reach a b (place_at b) *ℤ z.w) → IsSeen s ws z

-- after the piece that begins at a, and those that begin at the first n vertices
pub record IsSightTo (s : Sight) (a b : Point) (ws : List Point) (n : ℕ) : Type 0 where
  pub sound : IsTrueSight s (IsOnEdge a b) ws
  pub first : (z : Place) → IsInPiece a b a ws z → IsSeen s ws z
  pub later : (k : ℕ) → k < n → IsCut a b (vertex ws k) → (z : Place) → IsInPiece a b (vertex ws k) ws z → IsSeen s ws z

-- the whole ring
pub record IsBoundary (s : Sight) (vs ws : List Point) : Type 0 where
  pub sound : IsTrueSight s (IsOnRing vs) ws
  pub full : (z : Place) → pos 0 <ℤ z.w → IsOnRing vs z → IsSeen s ws z

-- after n edges
pub record IsBoundaryTo (s : Sight) (vs ws : List Point) (n : ℕ) : Type 0 where
  pub sound : IsTrueSight s (IsOnRing vs) ws
  pub full : (e : ℕ) → e < n → (z : Place) → pos 0 <ℤ z.w → IsOnEdge (vertex vs e) (vertex vs (next vs e)) z
      → reach (vertex vs e) (vertex vs (next vs e)) z <ℤ (reach (vertex vs e) (vertex vs (next vs e)) (place_at (vertex vs (next vs e))) *ℤ z.w) → IsSeen s ws z
