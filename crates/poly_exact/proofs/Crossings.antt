-- An edge that a segment does not meet: the two ends of the segment count it alike, but for the ends of the edge that lie at the right of the segment between its heights.
use Rattle.std.proofs.Common.{◌≡◌, ap, ◌∙◌, arith}
use lib.IntN.{ℤ, pos, ◌+ℤ◌, ◌-ℤ◌, ◌*ℤ◌, neg_ℤ, *ℤ-zero, zero-*ℤ}
use lib.Signed.{◌<ℤ◌, ◌≤ℤ◌}
use borrow.Author.Differences.{ints}
use Rattle.std.proofs.lemmas.Int.{by_lt_z, clamps}
use Rattle.poly_exact.specs.declared.points.Point.{Point}
use Rattle.poly_exact.specs.Places.{Place, above, turn, IsBetween, IsOnEdge, between, IsClear}
use Rattle.poly_exact.proofs.Whole.{weak, neg-mul, mul-neg, expand, polys, mul-nonneg, mul-np, mul-pn, mul-nn, nonneg-of-mul, nonpos-of-mul}
use Rattle.poly_exact.proofs.Meetings.{IsMeeting}

-- the turn from the segment to the vertex: below 0 where the vertex is at the right of a segment that rises
abbrev pub side : Place → Place → Point → ℤ
side p q v = (p.x -ℤ v.x *ℤ p.w) *ℤ (q.y -ℤ v.y *ℤ q.w) -ℤ (p.y -ℤ v.y *ℤ p.w) *ℤ (q.x -ℤ v.x *ℤ q.w)

-- ---- linear laws

-- small identities over plain numbers
spread : (s t u v d u' v' d' : ℤ) → (s *ℤ u +ℤ t *ℤ v) *ℤ d +ℤ (s *ℤ u' +ℤ t *ℤ v') *ℤ d' ≡ s *ℤ (u *ℤ d +ℤ u' *ℤ d') +ℤ t *ℤ (v *ℤ d +ℤ v' *ℤ d')
spread s t u v d u' v' d' = simp expand (omega (arith, polys))

line_between : (ax ay dx dy s t px py pw qx qy qw : ℤ) → (ax *ℤ (s *ℤ pw +ℤ t *ℤ qw) -ℤ (s *ℤ px +ℤ t *ℤ qx)) *ℤ dy +ℤ ((s *ℤ py +ℤ t *ℤ qy) -ℤ ay *ℤ (s *ℤ pw +ℤ t *ℤ qw)) *ℤ dx ≡ s *ℤ ((ax *ℤ pw -ℤ px) *ℤ dy +ℤ (py -ℤ ay *ℤ pw) *ℤ dx) +ℤ t *ℤ ((ax *ℤ qw -ℤ qx) *ℤ dy +ℤ (qy -ℤ ay *ℤ qw) *ℤ dx)
line_between ax ay dx dy s t px py pw qx qy qw =
    let e : ax *ℤ (s *ℤ pw +ℤ t *ℤ qw) -ℤ (s *ℤ px +ℤ t *ℤ qx) ≡ s *ℤ (ax *ℤ pw -ℤ px) +ℤ t *ℤ (ax *ℤ qw -ℤ qx) = simp expand (omega (arith, polys)) in
    let f : (s *ℤ py +ℤ t *ℤ qy) -ℤ ay *ℤ (s *ℤ pw +ℤ t *ℤ qw) ≡ s *ℤ (py -ℤ ay *ℤ pw) +ℤ t *ℤ (qy -ℤ ay *ℤ qw) = simp expand (omega (arith, polys)) in
    rw (e, f) (spread s t (ax *ℤ pw -ℤ px) (ax *ℤ qw -ℤ qx) dy (py -ℤ ay *ℤ pw) (qy -ℤ ay *ℤ qw) dx)

pub turn-between : (a b : Point) (s t : ℤ) (p q : Place) → turn a b (between s t p q) ≡ s *ℤ turn a b p +ℤ t *ℤ turn a b q
turn-between a b s t p q = line_between a.x a.y (b.x -ℤ a.x) (b.y -ℤ a.y) s t p.x p.y p.w q.x q.y q.w

pub above-between : (a : Point) (s t : ℤ) (p q : Place) → above a (between s t p q) ≡ s *ℤ above a p +ℤ t *ℤ above a q
above-between a s t p q = simp expand (omega (arith, polys))

planes : (dx dy px py qx qy : ℤ) → (neg_ℤ qx *ℤ dy +ℤ qy *ℤ dx) *ℤ py -ℤ (neg_ℤ px *ℤ dy +ℤ py *ℤ dx) *ℤ qy ≡ dy *ℤ (px *ℤ qy -ℤ py *ℤ qx)
planes dx dy px py qx qy = simp expand (omega (arith, polys))

-- the turn by how the place lies to the first end, and to the second
pub turn_first : (a b : Point) (p : Place) → turn a b p ≡ neg_ℤ (p.x -ℤ a.x *ℤ p.w) *ℤ (b.y -ℤ a.y) +ℤ (p.y -ℤ a.y *ℤ p.w) *ℤ (b.x -ℤ a.x)
turn_first a b p = ap (λ z. z *ℤ (b.y -ℤ a.y) +ℤ (p.y -ℤ a.y *ℤ p.w) *ℤ (b.x -ℤ a.x)) (omega (arith, ints))

pub turn_second : (a b : Point) (p : Place) → turn a b p ≡ neg_ℤ (p.x -ℤ b.x *ℤ p.w) *ℤ (b.y -ℤ a.y) +ℤ (p.y -ℤ b.y *ℤ p.w) *ℤ (b.x -ℤ a.x)
turn_second a b p = simp expand (omega (arith, polys))

pub plane_first : (a b : Point) (p q : Place) → turn a b q *ℤ above a p -ℤ turn a b p *ℤ above a q ≡ (b.y -ℤ a.y) *ℤ side p q a
plane_first a b p q = rw (turn_first a b p, turn_first a b q) (planes (b.x -ℤ a.x) (b.y -ℤ a.y) (p.x -ℤ a.x *ℤ p.w) (p.y -ℤ a.y *ℤ p.w) (q.x -ℤ a.x *ℤ q.w) (q.y -ℤ a.y *ℤ q.w))

pub plane_second : (a b : Point) (p q : Place) → turn a b q *ℤ above b p -ℤ turn a b p *ℤ above b q ≡ (b.y -ℤ a.y) *ℤ side p q b
plane_second a b p q = rw (turn_second a b p, turn_second a b q) (planes (b.x -ℤ a.x) (b.y -ℤ a.y) (p.x -ℤ b.x *ℤ p.w) (p.y -ℤ b.y *ℤ p.w) (q.x -ℤ b.x *ℤ q.w) (q.y -ℤ b.y *ℤ q.w))

-- ---- a place on the line and between the ends' heights is on the edge

pub between_from : (u v z : ℤ) → u ≤ℤ z → z ≤ℤ v → IsBetween u v z
between_from u v z h k = record { least = omega (arith, ints, clamps); greatest = omega (arith, ints, clamps) }

pub between_back : (u v z : ℤ) → v ≤ℤ z → z ≤ℤ u → IsBetween u v z
between_back u v z h k = record { least = omega (arith, ints, clamps); greatest = omega (arith, ints, clamps) }

minus-swap : (u v : ℤ) → neg_ℤ u *ℤ v ≡ neg_ℤ (v *ℤ u)
minus-swap u v = simp expand (omega (arith, polys))

pub across_first : (a b : Point) (z : Place) → turn a b z ≡ pos 0 → (b.y -ℤ a.y) *ℤ (z.x -ℤ a.x *ℤ z.w) ≡ above a z *ℤ (b.x -ℤ a.x)
across_first a b z e =
    let t = turn_first a b z in
    let m : neg_ℤ (z.x -ℤ a.x *ℤ z.w) *ℤ (b.y -ℤ a.y) ≡ neg_ℤ ((b.y -ℤ a.y) *ℤ (z.x -ℤ a.x *ℤ z.w)) = minus-swap (z.x -ℤ a.x *ℤ z.w) (b.y -ℤ a.y) in
    omega (arith, ints, t, m)

pub across_second : (a b : Point) (z : Place) → turn a b z ≡ pos 0 → (b.y -ℤ a.y) *ℤ (z.x -ℤ b.x *ℤ z.w) ≡ above b z *ℤ (b.x -ℤ a.x)
across_second a b z e =
    let t = turn_second a b z in
    let m : neg_ℤ (z.x -ℤ b.x *ℤ z.w) *ℤ (b.y -ℤ a.y) ≡ neg_ℤ ((b.y -ℤ a.y) *ℤ (z.x -ℤ b.x *ℤ z.w)) = minus-swap (z.x -ℤ b.x *ℤ z.w) (b.y -ℤ a.y) in
    omega (arith, ints, t, m)

pub on_rising : (a b : Point) (z : Place) → pos 0 <ℤ (b.y -ℤ a.y) → turn a b z ≡ pos 0 → pos 0 ≤ℤ above a z → above b z ≤ℤ pos 0 → IsOnEdge a b z
on_rising a b z rise e o u =
    let f = across_first a b z e in
    let g = across_second a b z e in
    let dx = b.x -ℤ a.x in
    record {
      line = e;
      across = by_lt_z dx (pos 0)
          (λ n. between_back (a.x *ℤ z.w) (b.x *ℤ z.w) z.x
          (let k : pos 0 ≤ℤ (z.x -ℤ b.x *ℤ z.w) = nonneg-of-mul (b.y -ℤ a.y) _ rise (rw g (mul-nn (above b z) dx u (weak n))) in omega (arith, ints))
          (let k : (z.x -ℤ a.x *ℤ z.w) ≤ℤ pos 0 = nonpos-of-mul (b.y -ℤ a.y) _ rise (rw f (mul-pn (above a z) dx o (weak n))) in omega (arith, ints)))
          (λ n. between_from (a.x *ℤ z.w) (b.x *ℤ z.w) z.x
          (let k : pos 0 ≤ℤ (z.x -ℤ a.x *ℤ z.w) = nonneg-of-mul (b.y -ℤ a.y) _ rise (rw f (mul-nonneg (above a z) dx o n)) in omega (arith, ints))
          (let k : (z.x -ℤ b.x *ℤ z.w) ≤ℤ pos 0 = nonpos-of-mul (b.y -ℤ a.y) _ rise (rw g (mul-np (above b z) dx u n)) in omega (arith, ints)));
      along = between_from (a.y *ℤ z.w) (b.y *ℤ z.w) z.y (omega (arith, ints)) (omega (arith, ints));
    }

pub meets_rising : (a b : Point) (p q : Place) → pos 0 <ℤ (b.y -ℤ a.y) → IsClear p q a b → IsMeeting (turn a b p) (turn a b q) (above a p) (above a q) (above b p) (above b q) → ⊥
meets_rising a b p q rise c m = c.none m.s m.t m.first m.second m.some
    (on_rising a b (between m.s m.t p q) rise (turn-between a b m.s m.t p q ∙ m.line) (rw (above-between a m.s m.t p q) m.over) (rw (above-between b m.s m.t p q) m.under))

-- ---- the edge the other way round

pub turn-reversed : (a b : Point) (p : Place) → turn b a p ≡ neg_ℤ (turn a b p)
turn-reversed a b p =
    let d : a.y -ℤ b.y ≡ neg_ℤ (b.y -ℤ a.y) = omega (arith, ints) in
    let e : a.x -ℤ b.x ≡ neg_ℤ (b.x -ℤ a.x) = omega (arith, ints) in
    let u : b.x *ℤ p.w -ℤ p.x ≡ neg_ℤ (p.x -ℤ b.x *ℤ p.w) = omega (arith, ints) in
    rw (turn_second a b p, d, e, u) (simp (neg-mul, mul-neg) (omega (arith, ints)))

IsBetween-reversed : (u v z : ℤ) → IsBetween u v z → IsBetween v u z
IsBetween-reversed u v z h = record { least = (let k = h.least in omega (arith, ints, clamps)); greatest = (let k = h.greatest in omega (arith, ints, clamps)) }

pub IsOnEdge-reversed : (a b : Point) (z : Place) → IsOnEdge a b z → IsOnEdge b a z
IsOnEdge-reversed a b z h = record {
  line = (let e = h.line in omega (arith, ints, turn-reversed a b z));
  across = IsBetween-reversed _ _ _ h.across;
  along = IsBetween-reversed _ _ _ h.along;
}

pub IsClear-reversed : (p q : Place) (a b : Point) → IsClear p q a b → IsClear p q b a
IsClear-reversed p q a b c = record { none = λ s t h k l m. c.none s t h k l (IsOnEdge-reversed b a (between s t p q) m) }

-- ---- edges of one height: a place at that height, with one end at each side of it

level_turn : (a b : Point) (z : Place) → b.y ≡ a.y → above a z ≡ pos 0 → turn a b z ≡ pos 0
level_turn a b z e h =
    let d : b.y -ℤ a.y ≡ pos 0 = omega (arith, ints) in
    rw (d, h) (omega (arith, ints, *ℤ-zero (a.x *ℤ z.w -ℤ z.x), zero-*ℤ (b.x -ℤ a.x)))

go : (ap aq px pw qx qw ax : ℤ) → (aq *ℤ px +ℤ neg_ℤ ap *ℤ qx) -ℤ ax *ℤ (aq *ℤ pw +ℤ neg_ℤ ap *ℤ qw) ≡ (px -ℤ ax *ℤ pw) *ℤ aq -ℤ ap *ℤ (qx -ℤ ax *ℤ qw)
go ap aq px pw qx qw ax = simp expand (omega (arith, polys))

-- how the meeting place lies to each end
pub level_side : (a : Point) (p q : Place) → (between (above a q) (neg_ℤ (above a p)) p q).x -ℤ a.x *ℤ (between (above a q) (neg_ℤ (above a p)) p q).w ≡ side p q a
level_side a p q = go (above a p) (above a q) p.x p.w q.x q.w a.x

crossed : (u v : ℤ) → v *ℤ u +ℤ neg_ℤ u *ℤ v ≡ pos 0
crossed u v = simp expand (omega (arith, polys))

pub level_height : (a : Point) (p q : Place) → above a (between (above a q) (neg_ℤ (above a p)) p q) ≡ pos 0
level_height a p q = above-between a (above a q) (neg_ℤ (above a p)) p q ∙ crossed (above a p) (above a q)

pub on_level : (a b : Point) (p q : Place) → b.y ≡ a.y → above a p <ℤ pos 0 → pos 0 ≤ℤ above a q
    → IsBetween (a.x *ℤ (between (above a q) (neg_ℤ (above a p)) p q).w) (b.x *ℤ (between (above a q) (neg_ℤ (above a p)) p q).w) (between (above a q) (neg_ℤ (above a p)) p q).x
    → IsClear p q a b → ⊥
on_level a b p q e h k x c = c.none (above a q) (neg_ℤ (above a p)) k (omega (arith, ints)) (omega (arith, ints)) (record {
  line = level_turn a b _ e (level_height a p q);
  across = x;
  along = (let v = level_height a p q in rw e (between_from _ _ _ (omega (arith, ints)) (omega (arith, ints))));
})
