-- A place off a ring has a box round it in which all places lie to the ring as it does.
use Rattle.std.proofs.Common.{◌≡◌, ◌+◌, ◌%◌, List, length, arith}
use lib.IntN.{ℤ, pos, ◌+ℤ◌, ◌-ℤ◌, ◌*ℤ◌, *ℤ-zero}
use lib.Signed.{◌<ℤ◌, ◌≤ℤ◌}
use borrow.Author.Differences.{ints}
use Rattle.std.proofs.lemmas.Int.{by_lt_z}
use Rattle.poly_exact.specs.declared.points.Point.{Point}
use Rattle.poly_exact.specs.Places.{Place, IsOnEdge, between, IsClear, IsNear, Near}
use Rattle.poly_exact.specs.Rings.{vertex, next, crossings, IsOnRing, IsInRing, IsOutOfRing}
use Rattle.poly_exact.proofs.Whole.{weak, expand, polys, mul-nonneg, mul-pos, mul-le}
use Rattle.poly_exact.proofs.Boxes.{Near-all, off_edge}
use Rattle.poly_exact.proofs.RingLaw.{segment_law}

-- ---- boxes are convex

pub mixed_weight : (s t u v : ℤ) → pos 0 ≤ℤ s → pos 0 ≤ℤ t → pos 0 <ℤ (s +ℤ t) → pos 0 <ℤ u → pos 0 <ℤ v → pos 0 <ℤ (s *ℤ u +ℤ t *ℤ v)
mixed_weight s t u v h k l x y = by_lt_z (pos 0) s
    (λ m. omega (arith, ints, mul-pos s u m x, mul-nonneg t v k (weak y)))
    (λ m. omega (arith, ints, mul-nonneg s u h (weak x), mul-pos t v (omega (arith, ints)) y))

pub mixed : (s t u v u' v' : ℤ) → pos 0 ≤ℤ s → pos 0 ≤ℤ t → u ≤ℤ u' → v ≤ℤ v' → (s *ℤ u +ℤ t *ℤ v) ≤ℤ (s *ℤ u' +ℤ t *ℤ v')
mixed s t u v u' v' h k e f = omega (arith, ints, mul-le s u u' h e, mul-le t v v' k f)

times : (n s t u v : ℤ) → n *ℤ (s *ℤ u +ℤ t *ℤ v) ≡ s *ℤ (n *ℤ u) +ℤ t *ℤ (n *ℤ v)
times n s t u v = simp expand (omega (arith, polys))

-- n times how far the mixed place is, by the two
spread_right : (n s t px pw qx qw mx mw : ℤ) → n *ℤ ((s *ℤ px +ℤ t *ℤ qx) *ℤ mw -ℤ mx *ℤ (s *ℤ pw +ℤ t *ℤ qw)) ≡ s *ℤ (n *ℤ (px *ℤ mw -ℤ mx *ℤ pw)) +ℤ t *ℤ (n *ℤ (qx *ℤ mw -ℤ mx *ℤ qw))
spread_right n s t px pw qx qw mx mw =
    let e : (s *ℤ px +ℤ t *ℤ qx) *ℤ mw -ℤ mx *ℤ (s *ℤ pw +ℤ t *ℤ qw) ≡ s *ℤ (px *ℤ mw -ℤ mx *ℤ pw) +ℤ t *ℤ (qx *ℤ mw -ℤ mx *ℤ qw) = simp expand (omega (arith, polys)) in
    rw e (times n s t _ _)

spread_left : (n s t px pw qx qw mx mw : ℤ) → n *ℤ (mx *ℤ (s *ℤ pw +ℤ t *ℤ qw) -ℤ (s *ℤ px +ℤ t *ℤ qx) *ℤ mw) ≡ s *ℤ (n *ℤ (mx *ℤ pw -ℤ px *ℤ mw)) +ℤ t *ℤ (n *ℤ (mx *ℤ qw -ℤ qx *ℤ mw))
spread_left n s t px pw qx qw mx mw =
    let e : mx *ℤ (s *ℤ pw +ℤ t *ℤ qw) -ℤ (s *ℤ px +ℤ t *ℤ qx) *ℤ mw ≡ s *ℤ (mx *ℤ pw -ℤ px *ℤ mw) +ℤ t *ℤ (mx *ℤ qw -ℤ qx *ℤ mw) = simp expand (omega (arith, polys)) in
    rw e (times n s t _ _)

weights : (s t mw pw qw : ℤ) → mw *ℤ (s *ℤ pw +ℤ t *ℤ qw) ≡ s *ℤ (mw *ℤ pw) +ℤ t *ℤ (mw *ℤ qw)
weights s t mw pw qw = simp expand (omega (arith, polys))

pub IsNear-between : (n s t : ℤ) (m p q : Place) → pos 0 ≤ℤ s → pos 0 ≤ℤ t → pos 0 <ℤ (s +ℤ t) → IsNear n m p → IsNear n m q → IsNear n m (between s t p q)
IsNear-between n s t m p q h k l a b = record {
  weight = mixed_weight s t p.w q.w h k l a.weight b.weight;
  right = rw (spread_right n s t p.x p.w q.x q.w m.x m.w, weights s t m.w p.w q.w) (mixed s t _ _ _ _ h k a.right b.right);
  left = rw (spread_left n s t p.x p.w q.x q.w m.x m.w, weights s t m.w p.w q.w) (mixed s t _ _ _ _ h k a.left b.left);
  higher = rw (spread_right n s t p.y p.w q.y q.w m.y m.w, weights s t m.w p.w q.w) (mixed s t _ _ _ _ h k a.higher b.higher);
  lower = rw (spread_left n s t p.y p.w q.y q.w m.y m.w, weights s t m.w p.w q.w) (mixed s t _ _ _ _ h k a.lower b.lower);
}

nowhere : (n u w : ℤ) → pos 0 <ℤ w → (n *ℤ (u *ℤ w -ℤ u *ℤ w)) ≤ℤ (w *ℤ w)
nowhere n u w h =
    let z : u *ℤ w -ℤ u *ℤ w ≡ pos 0 = omega (arith, ints) in
    rw (z, *ℤ-zero n) (weak (mul-pos w w h h))

pub IsNear-self : (n : ℤ) (m : Place) → pos 0 <ℤ m.w → IsNear n m m
IsNear-self n m w = record { weight = w; right = nowhere n m.x m.w w; left = nowhere n m.x m.w w; higher = nowhere n m.y m.w w; lower = nowhere n m.y m.w w }

-- ---- the box of a place off the ring

pub near_clear : (n : ℤ) (a b : Point) (m p : Place) → ((q : Place) → IsNear n m q → IsOnEdge a b q → ⊥) → pos 0 <ℤ m.w → IsNear n m p → IsClear p m a b
near_clear n a b m p off w h = record { none = λ s t x y z o. off (between s t p m) (IsNear-between n s t m p m x y z h (IsNear-self n m w)) o }

-- no place of the box is on the ring, and all have the parity of m
pub record KeepsOff (vs : List Point) (m p : Place) : Type 0 where
  pub off : IsOnRing vs p → ⊥
  pub alike : (crossings vs p (length vs) + crossings vs m (length vs)) % 2 ≡ 0

pub box_law : (vs : List Point) (m : Place) → pos 0 <ℤ m.w → (IsOnRing vs m → ⊥) → Near m (KeepsOff vs m)
box_law vs m w off =
    let edges = Near-all m (λ k p. IsOnEdge (vertex vs k) (vertex vs (next vs k)) p → ⊥) (length vs) w
    (λ k b. off_edge (vertex vs k) (vertex vs (next vs k)) m w (λ o. off (record { edge = k; below = b; on = o }))) in
    record {
      n = edges.n;
      some = edges.some;
      each = λ p h. record {
        off = λ r. edges.each p h r.edge r.below r.on;
        alike = segment_law vs p m h.weight w (record { each = λ k b. near_clear edges.n _ _ m p (λ q g. edges.each q g k b) w h });
      };
    }

-- a place in a ring has a box of places in it; and so one out of it
pub in_law : (vs : List Point) (m : Place) → pos 0 <ℤ m.w → IsInRing vs m → Near m (IsInRing vs)
in_law vs m w i =
    let box = box_law vs m w i.off in
    record { n = box.n; some = box.some; each = λ p h. record { off = (box.each p h).off; odd = (let e = (box.each p h).alike in let o = i.odd in omega arith) } }

pub out_law : (vs : List Point) (m : Place) → pos 0 <ℤ m.w → IsOutOfRing vs m → Near m (IsOutOfRing vs)
out_law vs m w i =
    let box = box_law vs m w i.off in
    record { n = box.n; some = box.some; each = λ p h. record { off = (box.each p h).off; even = (let e = (box.each p h).alike in let o = i.even in omega arith) } }
