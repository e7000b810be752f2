-- A stretch of an edge without a vertex of the other ring and without a crossing: where one place of it is off the other ring, the way from there to each other place is clear of that ring.
use Rattle.std.proofs.Common.{◌≡◌, ◌≢◌, ℕ, ◌+◌, ◌%◌, ◌<◌, List, length, sym, ap, ◌∙◌, subst, arith, ◌⊎◌, inl, inr}
use lib.IntN.{ℤ, pos, ◌+ℤ◌, ◌-ℤ◌, ◌*ℤ◌, neg_ℤ, *ℤ_comm, *ℤ-zero, zero-*ℤ}
use lib.Signed.{◌<ℤ◌, ◌≤ℤ◌}
use borrow.Author.Differences.{ints}
use Rattle.std.proofs.lemmas.Int.{by_lt_z, clamps}
use Rattle.std.proofs.lemmas.Bool.{cases_lt}
use Rattle.poly_exact.specs.declared.points.Point.{Point}
use Rattle.poly_exact.specs.Places.{Place, turn, reach, IsOnEdge, IsInside, between}
use Rattle.poly_exact.specs.Rings.{vertex, next, crossings, IsOnRing, IsAt}
use Rattle.poly_exact.proofs.RingLaw.{IsClearOf, segment_law, next-more, next-last}
use Rattle.poly_exact.proofs.SamePoints.{IsOnEdge-same}
use Rattle.poly_exact.proofs.Whole.{weak, mul-assoc, pos-of-mul, expand, polys, mul-pos, mul-nonneg, mul-np, mul-pn, mul-nn, mul-le, zero-of-mul, nonneg-of-mul, nonpos-of-mul}
use Rattle.poly_exact.proofs.Crossings.{turn_first, IsOnEdge-reversed}
use Rattle.poly_exact.proofs.Inner.{IsOnEdge-between, reach_middle, reach-between, reach_on}
use Rattle.poly_exact.proofs.Local.{mixed_weight}
use Rattle.poly_exact.proofs.VertexPlaces.{at}
use Rattle.poly_exact.proofs.CrossingPlace.{same_weight}
use Rattle.poly_exact.proofs.EdgeEnds.{ends_apart, Mix, mix, reach_both}

-- ---- on one line

-- how far along, when the cross is 0: l u = r e
pub along_x : (ex ey ux uy : ℤ) → ex *ℤ uy -ℤ ey *ℤ ux ≡ pos 0 → (ex *ℤ ex +ℤ ey *ℤ ey) *ℤ ux ≡ (ux *ℤ ex +ℤ uy *ℤ ey) *ℤ ex
along_x ex ey ux uy e =
    let z : ey *ℤ (ex *ℤ uy -ℤ ey *ℤ ux) ≡ pos 0 = rw e (*ℤ-zero ey) in
    let f : (ux *ℤ ex +ℤ uy *ℤ ey) *ℤ ex -ℤ (ex *ℤ ex +ℤ ey *ℤ ey) *ℤ ux ≡ ey *ℤ (ex *ℤ uy -ℤ ey *ℤ ux) = simp expand (omega (arith, polys)) in
    omega (arith, ints)

pub along_y : (ex ey ux uy : ℤ) → ex *ℤ uy -ℤ ey *ℤ ux ≡ pos 0 → (ex *ℤ ex +ℤ ey *ℤ ey) *ℤ uy ≡ (ux *ℤ ex +ℤ uy *ℤ ey) *ℤ ey
along_y ex ey ux uy e =
    let z : ex *ℤ (ex *ℤ uy -ℤ ey *ℤ ux) ≡ pos 0 = rw e (*ℤ-zero ex) in
    let f : (ex *ℤ ex +ℤ ey *ℤ ey) *ℤ uy -ℤ (ux *ℤ ex +ℤ uy *ℤ ey) *ℤ ey ≡ ex *ℤ (ex *ℤ uy -ℤ ey *ℤ ux) = simp expand (omega (arith, polys)) in
    omega (arith, ints)

-- from a place to a vertex of the same line, seen along the edge
module _ (a b : Point) (p : Place) (c : Point) (tp : turn a b p ≡ pos 0) (tc : turn a b (at c) ≡ pos 0) where
  ux : ℤ
  ux = p.x -ℤ c.x *ℤ p.w

  uy : ℤ
  uy = p.y -ℤ c.y *ℤ p.w

  seen_scalar : (ax ay ex ey px py pw cx cy : ℤ) → ex *ℤ (py -ℤ cy *ℤ pw) -ℤ ey *ℤ (px -ℤ cx *ℤ pw) ≡ ((ax *ℤ pw -ℤ px) *ℤ ey +ℤ (py -ℤ ay *ℤ pw) *ℤ ex) -ℤ pw *ℤ ((ax -ℤ cx) *ℤ ey +ℤ (cy -ℤ ay) *ℤ ex)
  seen_scalar ax ay ex ey px py pw cx cy = simp expand (omega (arith, polys))

  at_turn : turn a b (at c) ≡ (a.x -ℤ c.x) *ℤ (b.y -ℤ a.y) +ℤ (c.y -ℤ a.y) *ℤ (b.x -ℤ a.x)
  at_turn =
      let e : a.x *ℤ pos 1 -ℤ c.x ≡ a.x -ℤ c.x = omega (arith, ints) in
      let f : c.y -ℤ a.y *ℤ pos 1 ≡ c.y -ℤ a.y = omega (arith, ints) in
      λ i. e i *ℤ (b.y -ℤ a.y) +ℤ f i *ℤ (b.x -ℤ a.x)

  -- the cross of the edge and the way from c to p is 0
  pub flat : (b.x -ℤ a.x) *ℤ (p.y -ℤ c.y *ℤ p.w) -ℤ (b.y -ℤ a.y) *ℤ (p.x -ℤ c.x *ℤ p.w) ≡ pos 0
  flat =
      let s = seen_scalar a.x a.y (b.x -ℤ a.x) (b.y -ℤ a.y) p.x p.y p.w c.x c.y in
      let z : (a.x -ℤ c.x) *ℤ (b.y -ℤ a.y) +ℤ (c.y -ℤ a.y) *ℤ (b.x -ℤ a.x) ≡ pos 0 = sym at_turn ∙ tc in
      let y : p.w *ℤ ((a.x -ℤ c.x) *ℤ (b.y -ℤ a.y) +ℤ (c.y -ℤ a.y) *ℤ (b.x -ℤ a.x)) ≡ pos 0 = rw z (*ℤ-zero p.w) in
      omega (arith, ints)

-- how far p is beyond c, seen along the edge
beyond_scalar : (ax ay ex ey px py pw cx cy : ℤ) → ((px -ℤ ax *ℤ pw) *ℤ ex +ℤ (py -ℤ ay *ℤ pw) *ℤ ey) -ℤ pw *ℤ ((cx -ℤ ax) *ℤ ex +ℤ (cy -ℤ ay) *ℤ ey) ≡ (px -ℤ cx *ℤ pw) *ℤ ex +ℤ (py -ℤ cy *ℤ pw) *ℤ ey
beyond_scalar ax ay ex ey px py pw cx cy = simp expand (omega (arith, polys))

pub beyond : (a b : Point) (p : Place) (c : Point) → reach a b p -ℤ p.w *ℤ reach a b (at c) ≡ (p.x -ℤ c.x *ℤ p.w) *ℤ (b.x -ℤ a.x) +ℤ (p.y -ℤ c.y *ℤ p.w) *ℤ (b.y -ℤ a.y)
beyond a b p c =
    let e : c.x -ℤ a.x *ℤ pos 1 ≡ c.x -ℤ a.x = omega (arith, ints) in
    let f : c.y -ℤ a.y *ℤ pos 1 ≡ c.y -ℤ a.y = omega (arith, ints) in
    (λ i. reach a b p -ℤ p.w *ℤ (e i *ℤ (b.x -ℤ a.x) +ℤ f i *ℤ (b.y -ℤ a.y))) ∙ beyond_scalar a.x a.y (b.x -ℤ a.x) (b.y -ℤ a.y) p.x p.y p.w c.x c.y

swap : (u vy w vx : ℤ) → neg_ℤ u *ℤ vy +ℤ w *ℤ vx ≡ vx *ℤ w -ℤ vy *ℤ u
swap u vy w vx = simp expand (omega (arith, polys))

range_by : (l ex r s u v : ℤ) → pos 0 <ℤ l → pos 0 ≤ℤ r → s ≤ℤ pos 0 → l *ℤ u ≡ r *ℤ ex → l *ℤ v ≡ s *ℤ ex → ((pos 0 ≤ℤ u) × (v ≤ℤ pos 0)) ⊎ ((u ≤ℤ pos 0) × (pos 0 ≤ℤ v))
range_by l ex r s u v h x y e f = by_lt_z (pos 0) ex
    (λ k. inl (nonneg-of-mul l u h (rw e (mul-nonneg r ex x (weak k))), nonpos-of-mul l v h (rw f (mul-np s ex y (weak k)))))
    (λ k. inr (nonpos-of-mul l u h (rw e (mul-pn r ex x k)), nonneg-of-mul l v h (rw f (mul-nn s ex y k))))

zero_by : (l r ex ey ux uy vx vy : ℤ) → pos 0 <ℤ l → l *ℤ vx ≡ r *ℤ ex → l *ℤ vy ≡ r *ℤ ey → ex *ℤ uy -ℤ ey *ℤ ux ≡ pos 0 → vx *ℤ uy -ℤ vy *ℤ ux ≡ pos 0
zero_by l r ex ey ux uy vx vy h x y e =
    let f : l *ℤ (vx *ℤ uy -ℤ vy *ℤ ux) ≡ (l *ℤ vx) *ℤ uy -ℤ (l *ℤ vy) *ℤ ux = simp expand (omega (arith, polys)) in
    let g : (r *ℤ ex) *ℤ uy -ℤ (r *ℤ ey) *ℤ ux ≡ r *ℤ (ex *ℤ uy -ℤ ey *ℤ ux) = simp expand (omega (arith, polys)) in
    zero-of-mul l (vx *ℤ uy -ℤ vy *ℤ ux) h (f ∙ (λ i. x i *ℤ uy -ℤ y i *ℤ ux) ∙ g ∙ ap (λ z. r *ℤ z) e ∙ *ℤ-zero r)

module _ (a b c d : Point) (long : pos 0 <ℤ ((b.x -ℤ a.x) *ℤ (b.x -ℤ a.x) +ℤ (b.y -ℤ a.y) *ℤ (b.y -ℤ a.y))) (tc : turn a b (at c) ≡ pos 0) (td : turn a b (at d) ≡ pos 0) where
  parallel : (ex ey ux uy vx vy : ℤ) → pos 0 <ℤ (ex *ℤ ex +ℤ ey *ℤ ey) → ex *ℤ uy -ℤ ey *ℤ ux ≡ pos 0 → ex *ℤ vy -ℤ ey *ℤ vx ≡ pos 0 → vx *ℤ uy -ℤ vy *ℤ ux ≡ pos 0
  parallel ex ey ux uy vx vy h e f =
      let l = ex *ℤ ex +ℤ ey *ℤ ey in
      let r = vx *ℤ ex +ℤ vy *ℤ ey in
      let x : l *ℤ vx ≡ r *ℤ ex = along_x ex ey vx vy f in
      let y : l *ℤ vy ≡ r *ℤ ey = along_y ex ey vx vy f in
      zero_by l r ex ey ux uy vx vy h x y e

  -- a place of the line between c and d is on the edge c d
  pub on_between : (p : Place) → pos 0 <ℤ p.w → turn a b p ≡ pos 0 → (p.w *ℤ reach a b (at c)) ≤ℤ reach a b p → reach a b p ≤ℤ (p.w *ℤ reach a b (at d)) → IsOnEdge c d p
  on_between p w tp lo hi =
      let ex = b.x -ℤ a.x in let ey = b.y -ℤ a.y in
      let fc = flat a b p c tp tc in
      let fd = flat a b p d tp td in
      let fv = flat a b (at d) c td tc in
      let bc = beyond a b p c in
      let bd = beyond a b p d in
      let xs = range_by _ ex (reach a b p -ℤ p.w *ℤ reach a b (at c)) (reach a b p -ℤ p.w *ℤ reach a b (at d)) (p.x -ℤ c.x *ℤ p.w) (p.x -ℤ d.x *ℤ p.w) long (omega (arith, ints)) (omega (arith, ints))
      (along_x ex ey _ _ fc ∙ ap (λ z. z *ℤ ex) (sym bc)) (along_x ex ey _ _ fd ∙ ap (λ z. z *ℤ ex) (sym bd)) in
      let ys = range_by _ ey (reach a b p -ℤ p.w *ℤ reach a b (at c)) (reach a b p -ℤ p.w *ℤ reach a b (at d)) (p.y -ℤ c.y *ℤ p.w) (p.y -ℤ d.y *ℤ p.w) long (omega (arith, ints)) (omega (arith, ints))
      (along_y ex ey _ _ fc ∙ ap (λ z. z *ℤ ey) (sym bc)) (along_y ex ey _ _ fd ∙ ap (λ z. z *ℤ ey) (sym bd)) in
      let ox : d.x -ℤ c.x *ℤ pos 1 ≡ d.x -ℤ c.x = omega (arith, ints) in
      let oy : d.y -ℤ c.y *ℤ pos 1 ≡ d.y -ℤ c.y = omega (arith, ints) in
      let fv' : ex *ℤ (d.y -ℤ c.y) -ℤ ey *ℤ (d.x -ℤ c.x) ≡ pos 0 = (λ i. ex *ℤ sym oy i -ℤ ey *ℤ sym ox i) ∙ fv in
      record {
        line = turn_first c d p ∙ swap (p.x -ℤ c.x *ℤ p.w) (d.y -ℤ c.y) (p.y -ℤ c.y *ℤ p.w) (d.x -ℤ c.x)
            ∙ parallel ex ey (p.x -ℤ c.x *ℤ p.w) (p.y -ℤ c.y *ℤ p.w) (d.x -ℤ c.x) (d.y -ℤ c.y) long fc fv';
        across = elim xs [ inl t ↦ (let t0 = t.0 in let t1 = t.1 in record { least = omega (arith, ints, clamps); greatest = omega (arith, ints, clamps) }) | inr t ↦ (let t0 = t.0 in let t1 = t.1 in record { least = omega (arith, ints, clamps); greatest = omega (arith, ints, clamps) }) ];
        along = elim ys [ inl t ↦ (let t0 = t.0 in let t1 = t.1 in record { least = omega (arith, ints, clamps); greatest = omega (arith, ints, clamps) }) | inr t ↦ (let t0 = t.0 in let t1 = t.1 in record { least = omega (arith, ints, clamps); greatest = omega (arith, ints, clamps) }) ];
      }

-- ---- a stretch from lo to hi, in steps of reach, with no vertex of the other ring strictly between and no crossing

pub record IsQuiet (a b : Point) (ws : List Point) (lo hi : ℤ) : Type 0 where
  pub low : pos 0 ≤ℤ lo
  pub high : hi ≤ℤ ((b.x -ℤ a.x) *ℤ (b.x -ℤ a.x) +ℤ (b.y -ℤ a.y) *ℤ (b.y -ℤ a.y))
  pub vertices : (k : ℕ) → k < length ws → turn a b (at (vertex ws k)) ≡ pos 0 → lo <ℤ reach a b (at (vertex ws k)) → reach a b (at (vertex ws k)) <ℤ hi → ⊥
  pub crossings : (k : ℕ) → k < length ws → ((pos 0 <ℤ turn (vertex ws k) (vertex ws (next ws k)) (at a)) × (turn (vertex ws k) (vertex ws (next ws k)) (at b) <ℤ pos 0)) ⊎ ((turn (vertex ws k) (vertex ws (next ws k)) (at a) <ℤ pos 0) × (pos 0 <ℤ turn (vertex ws k) (vertex ws (next ws k)) (at b)))
      → ((pos 0 <ℤ turn a b (at (vertex ws k))) × (turn a b (at (vertex ws (next ws k))) <ℤ pos 0)) ⊎ ((turn a b (at (vertex ws k)) <ℤ pos 0) × (pos 0 <ℤ turn a b (at (vertex ws (next ws k))))) → ⊥

join : (l u dx v dy : ℤ) → (l *ℤ u) *ℤ dx +ℤ (l *ℤ v) *ℤ dy ≡ l *ℤ (u *ℤ dx +ℤ v *ℤ dy)
join l u dx v dy = simp expand (omega (arith, polys))

pub scaled_reach : (l dx dy ax ay mx my mw : ℤ) → (l *ℤ mx -ℤ ax *ℤ (l *ℤ mw)) *ℤ dx +ℤ (l *ℤ my -ℤ ay *ℤ (l *ℤ mw)) *ℤ dy ≡ l *ℤ ((mx -ℤ ax *ℤ mw) *ℤ dx +ℤ (my -ℤ ay *ℤ mw) *ℤ dy)
scaled_reach l dx dy ax ay mx my mw =
    let e : l *ℤ mx -ℤ ax *ℤ (l *ℤ mw) ≡ l *ℤ (mx -ℤ ax *ℤ mw) = simp expand (omega (arith, polys)) in
    let f : l *ℤ my -ℤ ay *ℤ (l *ℤ mw) ≡ l *ℤ (my -ℤ ay *ℤ mw) = simp expand (omega (arith, polys)) in
    rw (e, f) (join l (mx -ℤ ax *ℤ mw) dx (my -ℤ ay *ℤ mw) dy)

-- a place strictly inside c d, between what its ends reach
mix_reach : (a b c d : Point) (z : Place) (x : Mix c d z) → x.s *ℤ reach a b (at c) +ℤ x.r *ℤ reach a b (at d) ≡ x.l *ℤ reach a b z
mix_reach a b c d z x = sym (reach-between a b x.s x.r (at c) (at d)) ∙ ap (reach a b) x.same ∙ scaled_reach x.l (b.x -ℤ a.x) (b.y -ℤ a.y) a.x a.y z.x z.y z.w

-- a place of an edge at an end, or strictly inside
module _ (c d : Point) (long : pos 0 <ℤ ((d.x -ℤ c.x) *ℤ (d.x -ℤ c.x) +ℤ (d.y -ℤ c.y) *ℤ (d.y -ℤ c.y))) (z : Place) (o : IsOnEdge c d z) where
  pub first_at : reach c d z ≡ pos 0 → IsAt c z
  first_at e =
      let u = z.x -ℤ c.x *ℤ z.w in let v = z.y -ℤ c.y *ℤ z.w in
      let ex = d.x -ℤ c.x in let ey = d.y -ℤ c.y in
      let t : neg_ℤ u *ℤ ey +ℤ v *ℤ ex ≡ pos 0 = sym (turn_first c d z) ∙ o.line in
      let f : ex *ℤ v -ℤ ey *ℤ u ≡ pos 0 = sym (swap u ey v ex) ∙ t in
      let x = zero-of-mul _ u long (along_x ex ey u v f ∙ rw e (zero-*ℤ ex)) in
      let y = zero-of-mul _ v long (along_y ex ey u v f ∙ rw e (zero-*ℤ ey)) in
      record { across = omega (arith, ints); along = omega (arith, ints) }

at_scalar : (u v ex ey w ax ay vx vy : ℤ) → ((vx *ℤ w) -ℤ ax *ℤ w) *ℤ ex +ℤ ((vy *ℤ w) -ℤ ay *ℤ w) *ℤ ey ≡ w *ℤ ((vx -ℤ ax) *ℤ ex +ℤ (vy -ℤ ay) *ℤ ey)
at_scalar u v ex ey w ax ay vx vy = simp expand (omega (arith, polys))

at_line : (ex ey w ax ay vx vy : ℤ) → (ax *ℤ w -ℤ vx *ℤ w) *ℤ ey +ℤ (vy *ℤ w -ℤ ay *ℤ w) *ℤ ex ≡ w *ℤ ((ax -ℤ vx) *ℤ ey +ℤ (vy -ℤ ay) *ℤ ex)
at_line ex ey w ax ay vx vy = simp expand (omega (arith, polys))

-- a place at a vertex
module _ (a b v : Point) (z : Place) (h : IsAt v z) where
  pub reach_at : reach a b z ≡ z.w *ℤ reach a b (at v)
  reach_at =
      let e : v.x -ℤ a.x *ℤ pos 1 ≡ v.x -ℤ a.x = omega (arith, ints) in
      let f : v.y -ℤ a.y *ℤ pos 1 ≡ v.y -ℤ a.y = omega (arith, ints) in
      rw (h.across, h.along, e, f) (at_scalar (pos 0) (pos 0) (b.x -ℤ a.x) (b.y -ℤ a.y) z.w a.x a.y v.x v.y)

  pub turn_at : turn a b z ≡ z.w *ℤ turn a b (at v)
  turn_at =
      let e : a.x *ℤ pos 1 -ℤ v.x ≡ a.x -ℤ v.x = omega (arith, ints) in
      let f : v.y -ℤ a.y *ℤ pos 1 ≡ v.y -ℤ a.y = omega (arith, ints) in
      rw (h.across, h.along, e, f) (at_line (b.x -ℤ a.x) (b.y -ℤ a.y) z.w a.x a.y v.x v.y)

parts : (s r l c w : ℤ) → s +ℤ r ≡ l *ℤ w → s *ℤ c +ℤ r *ℤ c ≡ l *ℤ (c *ℤ w)
parts s r l c w e =
    let f : (s +ℤ r) *ℤ c ≡ s *ℤ c +ℤ r *ℤ c = simp expand (omega (arith, polys)) in
    let g : (l *ℤ w) *ℤ c ≡ l *ℤ (c *ℤ w) = omega (arith, polys, mul-assoc l w c, *ℤ_comm w c) in
    sym f ∙ ap (λ z. z *ℤ c) e ∙ g

-- ---- the way between two places of a quiet stretch

pub next-below : (vs : List Point) (k : ℕ) → k < length vs → next vs k < length vs
next-below vs k h = elim (cases_lt (k + 1) (length vs)) [ inl x ↦ (let e = next-more vs k x in omega arith) | inr y ↦ (let e = next-last vs k (omega arith) in omega arith) ]

pub long_edge : (a b : Point) → a ≢ b → pos 0 <ℤ ((b.x -ℤ a.x) *ℤ (b.x -ℤ a.x) +ℤ (b.y -ℤ a.y) *ℤ (b.y -ℤ a.y))
long_edge a b n =
    let m = reach_middle a b n in
    let e : (a.x +ℤ b.x) -ℤ a.x *ℤ pos 2 ≡ b.x -ℤ a.x = omega (arith, ints) in
    let f : (a.y +ℤ b.y) -ℤ a.y *ℤ pos 2 ≡ b.y -ℤ a.y = omega (arith, ints) in
    subst (λ u. pos 0 <ℤ (u *ℤ (b.x -ℤ a.x) +ℤ (b.y -ℤ a.y) *ℤ (b.y -ℤ a.y))) e (subst (λ v. pos 0 <ℤ (((a.x +ℤ b.x) -ℤ a.x *ℤ pos 2) *ℤ (b.x -ℤ a.x) +ℤ v *ℤ (b.y -ℤ a.y))) f m)

module _ (a b : Point) (ws : List Point) (lo hi : ℤ) (proper : a ≢ b) (sw : (k : ℕ) → k < length ws → vertex ws k ≢ vertex ws (next ws k)) (q : IsQuiet a b ws lo hi) where
  -- a place of the stretch past its start is on no edge that r is off
  module _ (z r : Place) (wz : pos 0 <ℤ z.w) (wr : pos 0 <ℤ r.w) (oz : IsOnEdge a b z) (or : IsOnEdge a b r)
      (zl : (lo *ℤ z.w) <ℤ reach a b z) (zh : reach a b z <ℤ (hi *ℤ z.w)) (rl : (lo *ℤ r.w) ≤ℤ reach a b r) (rh : reach a b r <ℤ (hi *ℤ r.w)) where
    not_at : (k : ℕ) → k < length ws → IsAt (vertex ws k) z → ⊥
    not_at k below h =
        let v = vertex ws k in
        let t = turn_at a b v z h in
        let e = reach_at a b v z h in
        let line = oz.line in
        let tv = zero-of-mul z.w (turn a b (at v)) wz (omega (arith, ints)) in
        let f : z.w *ℤ (reach a b (at v) -ℤ lo) ≡ z.w *ℤ reach a b (at v) -ℤ lo *ℤ z.w = simp expand (omega (arith, polys)) in
        let g : z.w *ℤ (hi -ℤ reach a b (at v)) ≡ hi *ℤ z.w -ℤ z.w *ℤ reach a b (at v) = simp expand (omega (arith, polys)) in
        let x = pos-of-mul z.w (reach a b (at v) -ℤ lo) (weak wz) (omega (arith, ints)) in
        let y = pos-of-mul z.w (hi -ℤ reach a b (at v)) (weak wz) (omega (arith, ints)) in
        q.vertices k below tv (omega (arith, ints)) (omega (arith, ints))

    inside_z : IsInside a b z
    inside_z =
        let n = mul-nonneg lo z.w q.low (weak wz) in
        let l = (b.x -ℤ a.x) *ℤ (b.x -ℤ a.x) +ℤ (b.y -ℤ a.y) *ℤ (b.y -ℤ a.y) in
        let m = mul-le z.w hi l (weak wz) q.high in
        let c = *ℤ_comm z.w hi in
        record { on = oz; from_first = omega (arith, ints); from_second = omega (arith, ints, reach_both a b z) }

    -- c and d on the line of the edge, neither strictly within the stretch
    flat_case : (c d : Point) → IsInside c d z → turn a b (at c) ≡ pos 0 → turn a b (at d) ≡ pos 0
        → (reach a b (at c) ≤ℤ lo) ⊎ (hi ≤ℤ reach a b (at c)) → (reach a b (at d) ≤ℤ lo) ⊎ (hi ≤ℤ reach a b (at d)) → IsOnEdge c d r
    flat_case c d i tc td xc xd =
        let x = mix c d z i in
        let e = mix_reach a b c d z x in
        let s = x.first in let t = x.second in let u = x.sum in
        let lw : x.s *ℤ lo +ℤ x.r *ℤ lo ≡ x.l *ℤ (lo *ℤ z.w) = parts x.s x.r x.l lo z.w u in
        let hw : x.s *ℤ hi +ℤ x.r *ℤ hi ≡ x.l *ℤ (hi *ℤ z.w) = parts x.s x.r x.l hi z.w u in
        let lp : pos 0 <ℤ x.l = pos-of-mul z.w x.l (weak wz) (let k = *ℤ_comm z.w x.l in omega (arith, ints)) in
        let long = long_edge a b proper in
        elim xc [
          | inl cl ↦ elim xd [
            | inl dl ↦ (let m = mul-le x.s _ lo (weak s) cl in let n = mul-le x.r _ lo (weak t) dl in
                let f : x.l *ℤ (reach a b z -ℤ lo *ℤ z.w) ≡ x.l *ℤ reach a b z -ℤ x.l *ℤ (lo *ℤ z.w) = simp expand (omega (arith, polys)) in
                let g = mul-pos x.l (reach a b z -ℤ lo *ℤ z.w) lp (omega (arith, ints)) in absurd (omega (arith, ints)))
            | inr dh ↦ on_between a b c d long tc td r wr or.line
                (let m = mul-le r.w _ lo (weak wr) cl in let n = *ℤ_comm r.w lo in omega (arith, ints))
                (let m = mul-le r.w hi _ (weak wr) dh in let n = *ℤ_comm r.w hi in omega (arith, ints))
          ]
          | inr ch ↦ elim xd [
            | inl dl ↦ IsOnEdge-reversed d c r (on_between a b d c long td tc r wr or.line
                (let m = mul-le r.w _ lo (weak wr) dl in let n = *ℤ_comm r.w lo in omega (arith, ints))
                (let m = mul-le r.w hi _ (weak wr) ch in let n = *ℤ_comm r.w hi in omega (arith, ints)))
            | inr dh ↦ (let m = mul-le x.s hi _ (weak s) ch in let n = mul-le x.r hi _ (weak t) dh in
                let f : x.l *ℤ (hi *ℤ z.w -ℤ reach a b z) ≡ x.l *ℤ (hi *ℤ z.w) -ℤ x.l *ℤ reach a b z = simp expand (omega (arith, polys)) in
                let g = mul-pos x.l (hi *ℤ z.w -ℤ reach a b z) lp (omega (arith, ints)) in absurd (omega (arith, ints)))
          ]
        ]

    outside : (k : ℕ) → k < length ws → turn a b (at (vertex ws k)) ≡ pos 0 → (reach a b (at (vertex ws k)) ≤ℤ lo) ⊎ (hi ≤ℤ reach a b (at (vertex ws k)))
    outside k below t = by_lt_z lo (reach a b (at (vertex ws k)))
        (λ x. by_lt_z (reach a b (at (vertex ws k))) hi (λ y. absurd (q.vertices k below t x y)) (λ y. inr y))
        (λ x. inl x)

    pub off_z : (IsOnRing ws r → ⊥) → (k : ℕ) → k < length ws → IsOnEdge (vertex ws k) (vertex ws (next ws k)) z → ⊥
    off_z off k h o =
        let c = vertex ws k in
        let d = vertex ws (next ws k) in
        let first = by_lt_z (pos 0) (reach c d z) (λ x. x) (λ x. let n = reach_on c d z wz o in absurd (not_at k h (first_at c d (long_edge c d (sw k h)) z o (omega (arith, ints))))) in
        let second = by_lt_z (pos 0) (reach d c z) (λ x. x) (λ x. let n = reach_on d c z wz (IsOnEdge-reversed c d z o) in
        absurd (not_at (next ws k) (next-below ws k h) (first_at d c (long_edge d c (λ e. sw k h (sym e))) z (IsOnEdge-reversed c d z o) (omega (arith, ints))))) in
        let i : IsInside c d z = record { on = o; from_first = first; from_second = second } in
        let s = same_weight a b c d in
        let ab = ends_apart a b c d z inside_z o.line in
        elim (ends_apart c d a b z i oz.line) [
          | inl t ↦ elim ab [
            | inl u ↦ q.crossings k h (inl u) (inl t)
            | inr u' ↦ elim u' [ inl u ↦ q.crossings k h (inr u) (inl t) | inr u ↦ (let t0 = t.0 in let t1 = t.1 in let u0 = u.0 in let u1 = u.1 in omega (arith, ints)) ]
          ]
          | inr t' ↦ elim t' [
            | inl t ↦ elim ab [
              | inl u ↦ q.crossings k h (inl u) (inr t)
              | inr u' ↦ elim u' [ inl u ↦ q.crossings k h (inr u) (inr t) | inr u ↦ (let t0 = t.0 in let t1 = t.1 in let u0 = u.0 in let u1 = u.1 in omega (arith, ints)) ]
            ]
            | inr t ↦ off (record { edge = k; below = h; on = flat_case c d i t.0 t.1 (outside k h t.0) (outside (next ws k) (next-below ws k h) t.1) })
          ]
        ]

factors-swap : (x u w : ℤ) → (x *ℤ u) *ℤ w ≡ u *ℤ (x *ℤ w)
factors-swap x u w = simp expand (omega (arith, polys))

-- the whole way from r to s
module _ (a b : Point) (ws : List Point) (lo hi : ℤ) (proper : a ≢ b) (sw : (k : ℕ) → k < length ws → vertex ws k ≢ vertex ws (next ws k)) (q : IsQuiet a b ws lo hi)
    (r s : Place) (wr : pos 0 <ℤ r.w) (wz : pos 0 <ℤ s.w) (or : IsOnEdge a b r) (os : IsOnEdge a b s)
    (rl : (lo *ℤ r.w) ≤ℤ reach a b r) (rh : reach a b r <ℤ (hi *ℤ r.w)) (sl : (lo *ℤ s.w) <ℤ reach a b s) (sh : reach a b s <ℤ (hi *ℤ s.w)) (off : IsOnRing ws r → ⊥) where
  low_way : (x y rr rs : ℤ) (u v : ℤ) → lo *ℤ (x *ℤ u +ℤ y *ℤ v) ≡ x *ℤ (lo *ℤ u) +ℤ y *ℤ (lo *ℤ v)
  low_way x y rr rs u v = simp expand (omega (arith, polys))

  high_way : (x y : ℤ) (u v : ℤ) → hi *ℤ (x *ℤ u +ℤ y *ℤ v) ≡ x *ℤ (hi *ℤ u) +ℤ y *ℤ (hi *ℤ v)
  high_way x y u v = simp expand (omega (arith, polys))

  strict : (x y u v u' v' : ℤ) → pos 0 ≤ℤ x → pos 0 <ℤ y → u ≤ℤ u' → v <ℤ v' → (x *ℤ u +ℤ y *ℤ v) <ℤ (x *ℤ u' +ℤ y *ℤ v')
  strict x y u v u' v' h k e f =
      let m = mul-le x u u' h e in
      let n = mul-pos y (v' -ℤ v) k (omega (arith, ints)) in
      let g : y *ℤ (v' -ℤ v) ≡ y *ℤ v' -ℤ y *ℤ v = simp expand (omega (arith, polys)) in
      omega (arith, ints)

  stay : (x u w v t : ℤ) → x *ℤ u +ℤ pos 0 *ℤ w ≡ x *ℤ u
  stay x u w v t = omega (arith, ints, zero-*ℤ w)

  pub quiet_clear : IsClearOf ws r s
  quiet_clear = record {
    each = λ k h. record {
      none = λ x y nx ny some o. by_lt_z (pos 0) y
          (λ p. let z = between x y r s in
          let w = mixed_weight x y r.w s.w nx ny some wr wz in
          let e = reach-between a b x y r s in
          let l : (lo *ℤ z.w) <ℤ reach a b z = rw (low_way x y (pos 0) (pos 0) r.w s.w, e) (strict x y _ _ _ _ nx p rl sl) in
          let g : reach a b z <ℤ (hi *ℤ z.w) = rw (high_way x y r.w s.w, e) (strict x y _ _ _ _ nx p (weak rh) sh) in
          off_z a b ws lo hi proper sw q z r w wr (IsOnEdge-between a b x y r s nx ny wr wz or os) or l g rl rh off k h o)
          (λ p. let y0 : y ≡ pos 0 = omega (arith, ints) in
          let o' = subst (λ t. IsOnEdge (vertex ws k) (vertex ws (next ws k)) (between x t r s)) y0 o in
          let z = between x (pos 0) r s in
          let xp : pos 0 <ℤ x = omega (arith, ints) in
          let ex : z.x ≡ x *ℤ r.x = stay x r.x s.x (pos 0) (pos 0) in
          let ey : z.y ≡ x *ℤ r.y = stay x r.y s.y (pos 0) (pos 0) in
          let ew : z.w ≡ x *ℤ r.w = stay x r.w s.w (pos 0) (pos 0) in
          off (record {
            edge = k;
            below = h;
            on = IsOnEdge-same _ _ z r (subst (λ t. pos 0 <ℤ t) (sym ew) (mul-pos x r.w xp wr)) wr
                (rw (ex, ew) (factors-swap x r.x r.w)) (rw (ey, ew) (factors-swap x r.y r.w)) o';
          }));
    };
  }

  pub quiet_law : (crossings ws r (length ws) + crossings ws s (length ws)) % 2 ≡ 0
  quiet_law = segment_law ws r s wr wz quiet_clear
