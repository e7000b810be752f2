-- Rational points and how they lie to edges and rings. A place (x, y, w), with w above 0, is the point (x / w, y / w).
use Rattle.std.specs.Prelude.{int_lt, int_le, ◌≡◌, ℤ, pos, ◌+ℤ◌, ◌-ℤ◌, ◌*ℤ◌, ◌<ℤ◌, ◌≤ℤ◌, ℕ, Bool, true, false, cond}
use Rattle.std.specs.Int.{int_min, int_max}
use Rattle.poly_exact.specs.declared.points.Point.{Point}

pub record Place : Type 0 where
  pub x : ℤ
  pub y : ℤ
  pub w : ℤ

-- how far the place is above the vertex, w times
abbrev pub above : Point → Place → ℤ
above a p = p.y -ℤ a.y *ℤ p.w

-- w times the turn from the edge a b to the place: above 0 where the place is at its left
abbrev pub turn : Point → Point → Place → ℤ
turn a b p = (a.x *ℤ p.w -ℤ p.x) *ℤ (b.y -ℤ a.y) +ℤ (p.y -ℤ a.y *ℤ p.w) *ℤ (b.x -ℤ a.x)

pub record IsBetween (u v z : ℤ) : Type 0 where
  pub least : int_min u v ≤ℤ z
  pub greatest : z ≤ℤ int_max u v

-- the place is on the edge from a to b, ends included
pub record IsOnEdge (a b : Point) (p : Place) : Type 0 where
  pub line : turn a b p ≡ pos 0
  pub across : IsBetween (a.x *ℤ p.w) (b.x *ℤ p.w) p.x
  pub along : IsBetween (a.y *ℤ p.w) (b.y *ℤ p.w) p.y

-- the vertex is not above the place
abbrev pub is_under : Point → Place → Bool
is_under a p = int_le (a.y *ℤ p.w) p.y

-- an edge that rises or falls crosses the place's height at its right
abbrev pub is_right : Point → Point → Place → Bool
is_right a b p = cond (int_lt a.y b.y) (int_lt (pos 0) (turn a b p)) (int_lt (turn a b p) (pos 0))

abbrev pub bit : Bool → ℕ
bit true = 1
bit false = 0

-- 1 where exactly one end is not above the place, and the edge crosses its height at the right
abbrev pub counted : Point → Point → Place → ℕ
counted a b p = cond (is_under a p) (cond (is_under b p) 0 (bit (is_right a b p))) (cond (is_under b p) (bit (is_right a b p)) 0)

-- the place s parts from p and t parts from q
abbrev pub between : ℤ → ℤ → Place → Place → Place
between s t p q = record { x = s *ℤ p.x +ℤ t *ℤ q.x; y = s *ℤ p.y +ℤ t *ℤ q.y; w = s *ℤ p.w +ℤ t *ℤ q.w }

-- no place of the segment from p to q, ends included, is on the edge
pub record IsClear (p q : Place) (a b : Point) : Type 0 where
  pub none : (s t : ℤ) → pos 0 ≤ℤ s → pos 0 ≤ℤ t → pos 0 <ℤ (s +ℤ t) → IsOnEdge a b (between s t p q) → ⊥

-- how far the place lies from the first end towards the second: 0 at the first end
abbrev pub reach : Point → Point → Place → ℤ
reach a b p = (p.x -ℤ a.x *ℤ p.w) *ℤ (b.x -ℤ a.x) +ℤ (p.y -ℤ a.y *ℤ p.w) *ℤ (b.y -ℤ a.y)

-- the place is on the edge and at neither end
pub record IsInside (a b : Point) (p : Place) : Type 0 where
  pub on : IsOnEdge a b p
  pub from_first : pos 0 <ℤ reach a b p
  pub from_second : pos 0 <ℤ reach b a p

-- the place lies within a box round m, whose sides are 2 / n long
pub record IsNear (n : ℤ) (m p : Place) : Type 0 where
  pub weight : pos 0 <ℤ p.w
  pub right : (n *ℤ (p.x *ℤ m.w -ℤ m.x *ℤ p.w)) ≤ℤ (m.w *ℤ p.w)
  pub left : (n *ℤ (m.x *ℤ p.w -ℤ p.x *ℤ m.w)) ≤ℤ (m.w *ℤ p.w)
  pub higher : (n *ℤ (p.y *ℤ m.w -ℤ m.y *ℤ p.w)) ≤ℤ (m.w *ℤ p.w)
  pub lower : (n *ℤ (m.y *ℤ p.w -ℤ p.y *ℤ m.w)) ≤ℤ (m.w *ℤ p.w)

-- what holds of all places of some box round m
pub record Near (m : Place) (q : Place → Type 0) : Type 0 where
  pub n : ℤ
  pub some : pos 0 <ℤ n
  pub each : (p : Place) → IsNear n m p → q p
