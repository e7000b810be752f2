-- Rectangles with sides along the axes, round the ends of edges.
use Rattle.std.specs.Prelude.{◌≡◌, ◌⊎◌, ℕ, ◌+◌, ◌*◌, ◌<◌, ◌≤◌, min, pos, ◌*ℤ◌, ◌<ℤ◌, ◌≤ℤ◌, List, length, slice_index_or}
use Rattle.std.specs.Int.{int_min, int_max}
use Rattle.poly_exact.specs.declared.points.Point.{Point}
use Rattle.poly_exact.specs.declared.points.HalfPoint.{HalfPoint}
use Rattle.poly_exact.specs.declared.rects.Rect.{Rect}
use Rattle.poly_exact.specs.declared.rects.TheConstants.{BLOCK}
use Rattle.poly_exact.specs.Rings.{origin, vertex, next}
use Rattle.poly_exact.specs.Small.{IsSmall}

pub record Covers (r : Rect) (p : Point) : Type 0 where
  pub left : r.low.x ≤ℤ p.x
  pub right : p.x ≤ℤ r.high.x
  pub under : r.low.y ≤ℤ p.y
  pub over : p.y ≤ℤ r.high.y

-- the least rectangle that covers what r covers, and p
abbrev pub grown : Rect → Point → Rect
grown r p = record { low = record { x = int_min r.low.x p.x; y = int_min r.low.y p.y }; high = record { x = int_max r.high.x p.x; y = int_max r.high.y p.y } }

-- both ends of each edge from number `from` to before `to`, and the corners are within the limits
pub record CoversEdges (r : Rect) (vs : List Point) (from to : ℕ) : Type 0 where
  pub low : IsSmall r.low
  pub high : IsSmall r.high
  pub first : (e : ℕ) → from ≤ e → e < to → Covers r (vertex vs e)
  pub second : (e : ℕ) → from ≤ e → e < to → Covers r (vertex vs (next vs e))

-- all vertices
pub record CoversAll (r : Rect) (vs : List Point) : Type 0 where
  pub each : (k : ℕ) → k < length vs → Covers r (vertex vs k)

abbrev pub rect_at : List Rect → ℕ → Rect
rect_at rs b = slice_index_or rs b (record { low = origin; high = origin })

-- the edges are cut into blocks of `BLOCK` in a row, the last of which may be shorter: where block b begins, where there is one
abbrev pub block_start : List Point → ℕ → ℕ
block_start vs b = min (b * BLOCK) (length vs)

-- the edge before which it ends
abbrev pub block_end : List Point → ℕ → ℕ
block_end vs b = min (b * BLOCK + BLOCK) (length vs)

-- a rectangle for each block
pub record AreBlocks (rs : List Rect) (vs : List Point) : Type 0 where
  pub enough : length vs ≤ length rs * BLOCK
  pub fitting : length rs * BLOCK < length vs + BLOCK
  pub each : (b : ℕ) → b < length rs → CoversEdges (rect_at rs b) vs (b * BLOCK) (block_end vs b)

-- the same of the first n blocks
pub record AreBlocksTo (rs : List Rect) (vs : List Point) (n : ℕ) : Type 0 where
  pub many : length rs ≡ n
  pub each : (b : ℕ) → b < n → CoversEdges (rect_at rs b) vs (b * BLOCK) (block_end vs b)

-- the edge lies beyond one of the rectangle's four sides
abbrev pub IsOff : Point → Point → Rect → Type 0
IsOff a b r = ((a.x <ℤ r.low.x) × (b.x <ℤ r.low.x)) ⊎ (((r.high.x <ℤ a.x) × (r.high.x <ℤ b.x)) ⊎ (((a.y <ℤ r.low.y) × (b.y <ℤ r.low.y)) ⊎ ((r.high.y <ℤ a.y) × (r.high.y <ℤ b.y))))

-- the ray from the point to the right, and the point itself, lie beyond one of the rectangle's sides
abbrev pub IsRayOff : HalfPoint → Rect → Type 0
IsRayOff p r = (p.y <ℤ (r.low.y *ℤ pos 2)) ⊎ (((r.high.y *ℤ pos 2) <ℤ p.y) ⊎ ((r.high.x *ℤ pos 2) <ℤ p.x))
