-- A place strictly inside an edge is a mix of the two ends.
use Rattle.std.proofs.Common.{◌≡◌, sym, ap, ◌∙◌, subst, arith, ◌⊎◌, inl, inr}
use lib.IntN.{ℤ, pos, ◌+ℤ◌, ◌-ℤ◌, ◌*ℤ◌, neg_ℤ, *ℤ_comm, *ℤ-zero}
use lib.Signed.{◌<ℤ◌}
use borrow.Author.Differences.{ints}
use Rattle.std.proofs.lemmas.Int.{by_lt_z}
use Rattle.poly_exact.specs.declared.points.Point.{Point}
use Rattle.poly_exact.specs.Places.{Place, turn, reach, IsOnEdge, IsInside, between}
use Rattle.poly_exact.proofs.Whole.{weak, expand, polys, mul-pos, mul-nonneg, mul-neg-pos, mul-pn, zero-of-mul}
use Rattle.poly_exact.proofs.Crossings.{turn-between, turn_first}
use Rattle.poly_exact.proofs.VertexPlaces.{at}

-- ---- both ends of an edge by a place strictly inside it

apart_x : (l r w ax dx u : ℤ) → r *ℤ dx ≡ l *ℤ u → (w *ℤ l -ℤ r) *ℤ ax +ℤ r *ℤ (ax +ℤ dx) ≡ l *ℤ (ax *ℤ w +ℤ u)
apart_x l r w ax dx u e =
    let f : (w *ℤ l -ℤ r) *ℤ ax +ℤ r *ℤ (ax +ℤ dx) ≡ l *ℤ (ax *ℤ w) +ℤ r *ℤ dx = simp expand (omega (arith, polys)) in
    let g : l *ℤ (ax *ℤ w +ℤ u) ≡ l *ℤ (ax *ℤ w) +ℤ l *ℤ u = simp expand (omega (arith, polys)) in
    omega (arith, ints)

-- by how m lies to a, and b to a: r is how far m reaches, l the square of the length
scaled_x : (ax bx mx w dx dy u v : ℤ) → bx ≡ ax +ℤ dx → mx ≡ ax *ℤ w +ℤ u → neg_ℤ u *ℤ dy +ℤ v *ℤ dx ≡ pos 0
    → (w *ℤ (dx *ℤ dx +ℤ dy *ℤ dy) -ℤ (u *ℤ dx +ℤ v *ℤ dy)) *ℤ ax +ℤ (u *ℤ dx +ℤ v *ℤ dy) *ℤ bx ≡ (dx *ℤ dx +ℤ dy *ℤ dy) *ℤ mx
scaled_x ax bx mx w dx dy u v e f t =
    let g : dy *ℤ (neg_ℤ u *ℤ dy +ℤ v *ℤ dx) ≡ pos 0 = rw t (*ℤ-zero dy) in
    let h : dy *ℤ (neg_ℤ u *ℤ dy +ℤ v *ℤ dx) ≡ (u *ℤ dx +ℤ v *ℤ dy) *ℤ dx -ℤ (dx *ℤ dx +ℤ dy *ℤ dy) *ℤ u = simp expand (omega (arith, polys)) in
    let l = dx *ℤ dx +ℤ dy *ℤ dy in
    let r = u *ℤ dx +ℤ v *ℤ dy in
    rw (e, f) (apart_x l r w ax dx u (omega (arith, ints)))

apart_y : (l r w ay dy v : ℤ) → r *ℤ dy ≡ l *ℤ v → (w *ℤ l -ℤ r) *ℤ ay +ℤ r *ℤ (ay +ℤ dy) ≡ l *ℤ (ay *ℤ w +ℤ v)
apart_y l r w ay dy v e = apart_x l r w ay dy v e

scaled_y : (ay by my w dx dy u v : ℤ) → by ≡ ay +ℤ dy → my ≡ ay *ℤ w +ℤ v → neg_ℤ u *ℤ dy +ℤ v *ℤ dx ≡ pos 0
    → (w *ℤ (dx *ℤ dx +ℤ dy *ℤ dy) -ℤ (u *ℤ dx +ℤ v *ℤ dy)) *ℤ ay +ℤ (u *ℤ dx +ℤ v *ℤ dy) *ℤ by ≡ (dx *ℤ dx +ℤ dy *ℤ dy) *ℤ my
scaled_y ay by my w dx dy u v e f t =
    let g : dx *ℤ (neg_ℤ u *ℤ dy +ℤ v *ℤ dx) ≡ pos 0 = rw t (*ℤ-zero dx) in
    let h : dx *ℤ (neg_ℤ u *ℤ dy +ℤ v *ℤ dx) ≡ (dx *ℤ dx +ℤ dy *ℤ dy) *ℤ v -ℤ (u *ℤ dx +ℤ v *ℤ dy) *ℤ dy = simp expand (omega (arith, polys)) in
    rw (e, f) (apart_y (dx *ℤ dx +ℤ dy *ℤ dy) (u *ℤ dx +ℤ v *ℤ dy) w ay dy v (omega (arith, ints)))

back_reach : (u v w dx dy : ℤ) → (u -ℤ dx *ℤ w) *ℤ neg_ℤ dx +ℤ (v -ℤ dy *ℤ w) *ℤ neg_ℤ dy ≡ w *ℤ (dx *ℤ dx +ℤ dy *ℤ dy) -ℤ (u *ℤ dx +ℤ v *ℤ dy)
back_reach u v w dx dy = simp expand (omega (arith, polys))

factor : (l u dy v dx : ℤ) → (l *ℤ u) *ℤ dy +ℤ (l *ℤ v) *ℤ dx ≡ l *ℤ (u *ℤ dy +ℤ v *ℤ dx)
factor l u dy v dx = simp expand (omega (arith, polys))

full : (w l r : ℤ) → (w *ℤ l -ℤ r) *ℤ pos 1 +ℤ r *ℤ pos 1 ≡ l *ℤ w
full w l r =
    let o : (u : ℤ) → u *ℤ pos 1 ≡ u = λ u. omega (arith, ints) in
    rw (o (w *ℤ l -ℤ r), o r, *ℤ_comm l w) (omega (arith, ints))

pub scaled_turn : (l dx dy cx cy mx my mw : ℤ) → (cx *ℤ (l *ℤ mw) -ℤ l *ℤ mx) *ℤ dy +ℤ (l *ℤ my -ℤ cy *ℤ (l *ℤ mw)) *ℤ dx ≡ l *ℤ ((cx *ℤ mw -ℤ mx) *ℤ dy +ℤ (my -ℤ cy *ℤ mw) *ℤ dx)
scaled_turn l dx dy cx cy mx my mw =
    let e : cx *ℤ (l *ℤ mw) -ℤ l *ℤ mx ≡ l *ℤ (cx *ℤ mw -ℤ mx) = simp expand (omega (arith, polys)) in
    let f : l *ℤ my -ℤ cy *ℤ (l *ℤ mw) ≡ l *ℤ (my -ℤ cy *ℤ mw) = simp expand (omega (arith, polys)) in
    rw (e, f) (factor l (cx *ℤ mw -ℤ mx) dy (my -ℤ cy *ℤ mw) dx)

signs : (s t x y : ℤ) → pos 0 <ℤ s → pos 0 <ℤ t → s *ℤ x +ℤ t *ℤ y ≡ pos 0 → ((pos 0 <ℤ x) × (y <ℤ pos 0)) ⊎ (((x <ℤ pos 0) × (pos 0 <ℤ y)) ⊎ ((x ≡ pos 0) × (y ≡ pos 0)))
signs s t x y h k e = by_lt_z (pos 0) x
    (λ a. inl (a, by_lt_z y (pos 0) (λ b. b) (λ b. let m = mul-pos s x h a in let n = mul-nonneg t y (weak k) b in absurd (omega (arith, ints)))))
    (λ a. by_lt_z x (pos 0)
    (λ c. inr (inl (c, by_lt_z (pos 0) y (λ b. b) (λ b. let m = mul-neg-pos x s c h in let n = mul-pn t y (weak k) b in let o = *ℤ_comm s x in absurd (omega (arith, ints))))))
    (λ c. let z : x ≡ pos 0 = omega (arith, ints) in
    let f : s *ℤ x ≡ pos 0 = rw z (*ℤ-zero s) in
    inr (inr (z, zero-of-mul t y k (omega (arith, ints))))))

-- a place strictly inside an edge is a mix of the two ends
pub record Mix (a b : Point) (m : Place) : Type 0 where
  pub s : ℤ
  pub r : ℤ
  pub l : ℤ
  pub first : pos 0 <ℤ s
  pub second : pos 0 <ℤ r
  pub same : between s r (at a) (at b) ≡ record { x = l *ℤ m.x; y = l *ℤ m.y; w = l *ℤ m.w }
  pub sum : s +ℤ r ≡ l *ℤ m.w

-- the two parts of a weight
pub reach_both : (a b : Point) (m : Place) → reach b a m ≡ m.w *ℤ ((b.x -ℤ a.x) *ℤ (b.x -ℤ a.x) +ℤ (b.y -ℤ a.y) *ℤ (b.y -ℤ a.y)) -ℤ reach a b m
reach_both a b m =
    let dx = b.x -ℤ a.x in let dy = b.y -ℤ a.y in
    let u = m.x -ℤ a.x *ℤ m.w in let v = m.y -ℤ a.y *ℤ m.w in
    let ex : m.x -ℤ b.x *ℤ m.w ≡ u -ℤ dx *ℤ m.w = let g : (b.x -ℤ a.x) *ℤ m.w ≡ b.x *ℤ m.w -ℤ a.x *ℤ m.w = simp expand (omega (arith, polys)) in omega (arith, ints) in
    let ey : m.y -ℤ b.y *ℤ m.w ≡ v -ℤ dy *ℤ m.w = let g : (b.y -ℤ a.y) *ℤ m.w ≡ b.y *ℤ m.w -ℤ a.y *ℤ m.w = simp expand (omega (arith, polys)) in omega (arith, ints) in
    let fx : a.x -ℤ b.x ≡ neg_ℤ dx = omega (arith, ints) in
    let fy : a.y -ℤ b.y ≡ neg_ℤ dy = omega (arith, ints) in
    (λ j. ex j *ℤ fx j +ℤ ey j *ℤ fy j) ∙ back_reach u v m.w dx dy

-- the same for a place of the edge, ends included: between its reaches, scaled by the square of the length
pub mix_of : (a b : Point) (m : Place) → IsOnEdge a b m
    → (between (reach b a m) (reach a b m) (at a) (at b) ≡ record { x = ((b.x -ℤ a.x) *ℤ (b.x -ℤ a.x) +ℤ (b.y -ℤ a.y) *ℤ (b.y -ℤ a.y)) *ℤ m.x; y = ((b.x -ℤ a.x) *ℤ (b.x -ℤ a.x) +ℤ (b.y -ℤ a.y) *ℤ (b.y -ℤ a.y)) *ℤ m.y; w = ((b.x -ℤ a.x) *ℤ (b.x -ℤ a.x) +ℤ (b.y -ℤ a.y) *ℤ (b.y -ℤ a.y)) *ℤ m.w })
    × (reach b a m +ℤ reach a b m ≡ ((b.x -ℤ a.x) *ℤ (b.x -ℤ a.x) +ℤ (b.y -ℤ a.y) *ℤ (b.y -ℤ a.y)) *ℤ m.w)
mix_of a b m o =
    let dx = b.x -ℤ a.x in let dy = b.y -ℤ a.y in
    let u = m.x -ℤ a.x *ℤ m.w in let v = m.y -ℤ a.y *ℤ m.w in
    let l = dx *ℤ dx +ℤ dy *ℤ dy in let r = u *ℤ dx +ℤ v *ℤ dy in
    let e = reach_both a b m in
    let line : neg_ℤ u *ℤ dy +ℤ v *ℤ dx ≡ pos 0 = sym (turn_first a b m) ∙ o.line in
    let x : (m.w *ℤ l -ℤ r) *ℤ a.x +ℤ r *ℤ b.x ≡ l *ℤ m.x = scaled_x a.x b.x m.x m.w dx dy u v (omega (arith, ints)) (omega (arith, ints)) line in
    let y : (m.w *ℤ l -ℤ r) *ℤ a.y +ℤ r *ℤ b.y ≡ l *ℤ m.y = scaled_y a.y b.y m.y m.w dx dy u v (omega (arith, ints)) (omega (arith, ints)) line in
    let w : (m.w *ℤ l -ℤ r) *ℤ pos 1 +ℤ r *ℤ pos 1 ≡ l *ℤ m.w = full m.w l r in
    let c = *ℤ_comm l m.w in
    ((λ i. between (e i) r (at a) (at b)) ∙ (λ j. record { x = x j; y = y j; w = w j }), omega (arith, ints))

pub mix : (a b : Point) (m : Place) → IsInside a b m → Mix a b m
mix a b m i =
    let dx = b.x -ℤ a.x in let dy = b.y -ℤ a.y in
    let u = m.x -ℤ a.x *ℤ m.w in let v = m.y -ℤ a.y *ℤ m.w in
    let l = dx *ℤ dx +ℤ dy *ℤ dy in let r = u *ℤ dx +ℤ v *ℤ dy in
    let s = m.w *ℤ l -ℤ r in
    let line : neg_ℤ u *ℤ dy +ℤ v *ℤ dx ≡ pos 0 = sym (turn_first a b m) ∙ i.on.line in
    let x : s *ℤ a.x +ℤ r *ℤ b.x ≡ l *ℤ m.x = scaled_x a.x b.x m.x m.w dx dy u v (omega (arith, ints)) (omega (arith, ints)) line in
    let y : s *ℤ a.y +ℤ r *ℤ b.y ≡ l *ℤ m.y = scaled_y a.y b.y m.y m.w dx dy u v (omega (arith, ints)) (omega (arith, ints)) line in
    let w : s *ℤ pos 1 +ℤ r *ℤ pos 1 ≡ l *ℤ m.w = full m.w l r in
    record {
      s = s;
      r = r;
      l = l;
      first = subst (λ z. pos 0 <ℤ z) (reach_both a b m) i.from_second;
      second = i.from_first;
      same = λ j. record { x = x j; y = y j; w = w j };
      sum = let o = *ℤ_comm l m.w in omega (arith, ints);
    }

-- the two ends of an edge lie on the two sides of a line through a place strictly inside it, or both on the line
pub ends_apart : (a b c d : Point) (m : Place) → IsInside a b m → turn c d m ≡ pos 0
    → ((pos 0 <ℤ turn c d (at a)) × (turn c d (at b) <ℤ pos 0)) ⊎ (((turn c d (at a) <ℤ pos 0) × (pos 0 <ℤ turn c d (at b))) ⊎ ((turn c d (at a) ≡ pos 0) × (turn c d (at b) ≡ pos 0)))
ends_apart a b c d m i t =
    let x = mix a b m i in
    let zero : x.s *ℤ turn c d (at a) +ℤ x.r *ℤ turn c d (at b) ≡ pos 0 =
    sym (turn-between c d x.s x.r (at a) (at b)) ∙ ap (turn c d) x.same ∙ scaled_turn x.l (d.x -ℤ c.x) (d.y -ℤ c.y) c.x c.y m.x m.y m.w ∙ rw t (*ℤ-zero x.l) in
    signs x.s x.r (turn c d (at a)) (turn c d (at b)) x.first x.second zero
