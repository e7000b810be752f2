-- How two edges lie to one another.
use Rattle.std.specs.Prelude.{◌≡◌, ◌≢◌, ◌⊎◌, ℤ, pos, ◌*ℤ◌, ◌<ℤ◌, ◌≤ℤ◌}
use Rattle.poly_exact.specs.declared.points.Point.{Point}
use Rattle.poly_exact.specs.declared.edges.Ends.{Ends}
use Rattle.poly_exact.specs.declared.edges.Ends.TheVariants as ends
use Rattle.poly_exact.specs.declared.edges.Meeting.{Meeting}
use Rattle.poly_exact.specs.declared.edges.Meeting.TheVariants as meeting
use Rattle.poly_exact.specs.Places.{Place, turn, IsOnEdge, IsInside}
use Rattle.poly_exact.specs.Small.{place_at}

-- both numbers above 0 or both below
abbrev pub AreAlike : ℤ → ℤ → Type 0
AreAlike t u = ((pos 0 <ℤ t) × (pos 0 <ℤ u)) ⊎ ((t <ℤ pos 0) × (u <ℤ pos 0))

-- one above 0 and one below
abbrev pub AreParted : ℤ → ℤ → Type 0
AreParted t u = ((pos 0 <ℤ t) × (u <ℤ pos 0)) ⊎ ((t <ℤ pos 0) × (pos 0 <ℤ u))

-- exactly one is 0
abbrev pub IsOneZero : ℤ → ℤ → Type 0
IsOneZero t u = ((t ≡ pos 0) × (u ≢ pos 0)) ⊎ ((t ≢ pos 0) × (u ≡ pos 0))

abbrev pub IsSorted : Ends → ℤ → ℤ → Type 0
IsSorted ends.Same t u = AreAlike t u
IsSorted ends.Parted t u = AreParted t u
IsSorted ends.Touched t u = IsOneZero t u
IsSorted ends.Line t u = (t ≡ pos 0) × (u ≡ pos 0)

-- how the ends of c d lie to the line of a b
abbrev pub IsSided : Ends → Point → Point → Point → Point → Type 0
IsSided s a b c d = IsSorted s (turn a b (place_at c)) (turn a b (place_at d))

-- all of u, v below all of s, t, or above
abbrev pub AreBeyond : ℤ → ℤ → ℤ → ℤ → Type 0
AreBeyond u v s t = (((u <ℤ s) × (u <ℤ t)) × ((v <ℤ s) × (v <ℤ t))) ⊎ (((s <ℤ u) × (t <ℤ u)) × ((s <ℤ v) × (t <ℤ v)))

-- a stretch from low to high and one from 0 to long, of one line
abbrev pub IsOverlap : Meeting → ℤ → ℤ → ℤ → Type 0
IsOverlap meeting.Apart long low high = (high <ℤ pos 0) ⊎ (long <ℤ low)
IsOverlap meeting.Touch long low high = ((high ≡ pos 0) × (low ≤ℤ long)) ⊎ ((low ≡ long) × (pos 0 ≤ℤ high))
IsOverlap meeting.Proper long low high = ⊥
IsOverlap meeting.Stretch long low high = (pos 0 <ℤ high) × (low <ℤ long)

-- the two places are one point
pub record IsSame (p q : Place) : Type 0 where
  pub across : p.x *ℤ q.w ≡ q.x *ℤ p.w
  pub along : p.y *ℤ q.w ≡ q.y *ℤ p.w

-- the edges have no place in common
pub record AreApart (a b c d : Point) : Type 0 where
  pub none : (z : Place) → pos 0 <ℤ z.w → IsOnEdge a b z → IsOnEdge c d z → ⊥

-- all places that they have in common are one point
pub record IsLone (a b c d : Point) : Type 0 where
  pub same : (p q : Place) → pos 0 <ℤ p.w → pos 0 <ℤ q.w → IsOnEdge a b p → IsOnEdge c d p → IsOnEdge a b q → IsOnEdge c d q → IsSame p q

-- a place strictly inside both
pub record Crossing (a b c d : Point) : Type 0 where
  pub m : Place
  pub weight : pos 0 <ℤ m.w
  pub first : IsInside a b m
  pub second : IsInside c d m

-- they have one point in common, an end of one of them at least
pub record DoTouch (a b c d : Point) : Type 0 where
  pub m : Place
  pub weight : pos 0 <ℤ m.w
  pub first : IsOnEdge a b m
  pub second : IsOnEdge c d m
  pub lone : IsLone a b c d
  pub outer : Crossing a b c d → ⊥

-- they have one point in common, strictly inside both, and each has its ends strictly at two sides of the other
pub record DoCross (a b c d : Point) : Type 0 where
  pub crossing : Crossing a b c d
  pub lone : IsLone a b c d
  pub first : AreParted (turn c d (place_at a)) (turn c d (place_at b))
  pub second : AreParted (turn a b (place_at c)) (turn a b (place_at d))

-- two different places that they have in common
pub record Shares (a b c d : Point) : Type 0 where
  pub p : Place
  pub q : Place
  pub weight_p : pos 0 <ℤ p.w
  pub weight_q : pos 0 <ℤ q.w
  pub first_p : IsOnEdge a b p
  pub second_p : IsOnEdge c d p
  pub first_q : IsOnEdge a b q
  pub second_q : IsOnEdge c d q
  pub differ : IsSame p q → ⊥

-- they have a stretch in common, and lie on one line
pub record DoShare (a b c d : Point) : Type 0 where
  pub shares : Shares a b c d
  pub crossing : Crossing a b c d
  pub flat_c : turn a b (place_at c) ≡ pos 0
  pub flat_d : turn a b (place_at d) ≡ pos 0

abbrev pub IsMet : Meeting → Point → Point → Point → Point → Type 0
IsMet meeting.Apart a b c d = AreApart a b c d
IsMet meeting.Touch a b c d = DoTouch a b c d
IsMet meeting.Proper a b c d = DoCross a b c d
IsMet meeting.Stretch a b c d = DoShare a b c d
