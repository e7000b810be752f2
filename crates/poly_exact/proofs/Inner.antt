-- Near every place of an edge are places strictly inside it.
use Rattle.std.proofs.Common.{◌≡◌, ◌≢◌, sym, ◌∙◌, subst, arith}
use lib.IntN.{ℤ, pos, nat_abs, ◌+ℤ◌, ◌-ℤ◌, ◌*ℤ◌, neg_ℤ, *ℤ_comm, +ℤ_comm, *ℤ-zero}
use lib.Signed.{◌<ℤ◌, ◌≤ℤ◌}
use borrow.Author.Differences.{ints}
use Rattle.std.proofs.lemmas.Int.{by_lt_z, clamps}
use Rattle.poly_exact.specs.declared.points.Point.{Point}
use Rattle.poly_exact.specs.Places.{Place, reach, IsBetween, IsOnEdge, IsInside, between, IsNear}
use Rattle.poly_exact.proofs.Whole.{weak, expand, polys, mul-nonneg, mul-pos, mul-pn, mul-nn, mul-neg-neg, mul-le}
use Rattle.poly_exact.proofs.Crossings.{turn-between, IsOnEdge-reversed}
use Rattle.poly_exact.proofs.Local.{mixed, mixed_weight}

-- ---- an edge is convex

mixed_range : (c d s t pw qw px qx : ℤ) → c ≤ℤ d → pos 0 ≤ℤ s → pos 0 ≤ℤ t → pos 0 <ℤ pw → pos 0 <ℤ qw
    → IsBetween (c *ℤ pw) (d *ℤ pw) px → IsBetween (c *ℤ qw) (d *ℤ qw) qx
    → ((c *ℤ (s *ℤ pw +ℤ t *ℤ qw)) ≤ℤ (s *ℤ px +ℤ t *ℤ qx)) × ((s *ℤ px +ℤ t *ℤ qx) ≤ℤ (d *ℤ (s *ℤ pw +ℤ t *ℤ qw)))
mixed_range c d s t pw qw px qx h k l x y b f =
    let p : (c *ℤ pw) ≤ℤ (d *ℤ pw) = rw (*ℤ_comm c pw, *ℤ_comm d pw) (mul-le pw c d (weak x) h) in
    let q : (c *ℤ qw) ≤ℤ (d *ℤ qw) = rw (*ℤ_comm c qw, *ℤ_comm d qw) (mul-le qw c d (weak y) h) in
    let bl = b.least in let bg = b.greatest in let fl = f.least in let fg = f.greatest in
    let e : c *ℤ (s *ℤ pw +ℤ t *ℤ qw) ≡ s *ℤ (c *ℤ pw) +ℤ t *ℤ (c *ℤ qw) = simp expand (omega (arith, polys)) in
    let g : d *ℤ (s *ℤ pw +ℤ t *ℤ qw) ≡ s *ℤ (d *ℤ pw) +ℤ t *ℤ (d *ℤ qw) = simp expand (omega (arith, polys)) in (
      rw e (mixed s t _ _ _ _ k l (omega (arith, ints, clamps)) (omega (arith, ints, clamps))),
      rw g (mixed s t _ _ _ _ k l (omega (arith, ints, clamps)) (omega (arith, ints, clamps))),
    )

swap_range : (u v z : ℤ) → IsBetween u v z → IsBetween v u z
swap_range u v z b = let k = b.least in let l = b.greatest in record { least = omega (arith, ints, clamps); greatest = omega (arith, ints, clamps) }

pub range_between : (c d s t pw qw px qx : ℤ) → pos 0 ≤ℤ s → pos 0 ≤ℤ t → pos 0 <ℤ pw → pos 0 <ℤ qw
    → IsBetween (c *ℤ pw) (d *ℤ pw) px → IsBetween (c *ℤ qw) (d *ℤ qw) qx → IsBetween (c *ℤ (s *ℤ pw +ℤ t *ℤ qw)) (d *ℤ (s *ℤ pw +ℤ t *ℤ qw)) (s *ℤ px +ℤ t *ℤ qx)
range_between c d s t pw qw px qx k l x y b f = by_lt_z c d
    (λ h. let r = mixed_range c d s t pw qw px qx (weak h) k l x y b f in let r0 = r.0 in let r1 = r.1 in record { least = omega (arith, ints, clamps); greatest = omega (arith, ints, clamps) })
    (λ h. let r = mixed_range d c s t pw qw px qx h k l x y (swap_range _ _ _ b) (swap_range _ _ _ f) in let r0 = r.0 in let r1 = r.1 in record { least = omega (arith, ints, clamps); greatest = omega (arith, ints, clamps) })

pub IsOnEdge-between : (a b : Point) (s t : ℤ) (p q : Place) → pos 0 ≤ℤ s → pos 0 ≤ℤ t → pos 0 <ℤ p.w → pos 0 <ℤ q.w → IsOnEdge a b p → IsOnEdge a b q → IsOnEdge a b (between s t p q)
IsOnEdge-between a b s t p q h k x y o r = record {
  line = turn-between a b s t p q ∙ rw (o.line, r.line) (omega (arith, ints, *ℤ-zero s, *ℤ-zero t));
  across = range_between a.x b.x s t p.w q.w p.x q.x h k x y o.across r.across;
  along = range_between a.y b.y s t p.w q.w p.y q.y h k x y o.along r.along;
}

-- ---- the middle of an edge

abbrev pub middle : Point → Point → Place
middle a b = record { x = a.x +ℤ b.x; y = a.y +ℤ b.y; w = pos 2 }

twice_of : (u : ℤ) → u *ℤ pos 2 ≡ u +ℤ u
twice_of u = omega (arith, ints)

middle_range : (u v : ℤ) → IsBetween (u *ℤ pos 2) (v *ℤ pos 2) (u +ℤ v)
middle_range u v = record { least = omega (arith, ints, clamps); greatest = omega (arith, ints, clamps) }

zero_turn : (dx dy : ℤ) → neg_ℤ dx *ℤ dy +ℤ dy *ℤ dx ≡ pos 0
zero_turn dx dy = simp expand (omega (arith, polys))

pub middle_on : (a b : Point) → IsOnEdge a b (middle a b)
middle_on a b =
    let e : a.x *ℤ pos 2 -ℤ (a.x +ℤ b.x) ≡ neg_ℤ (b.x -ℤ a.x) = omega (arith, ints) in
    let f : (a.y +ℤ b.y) -ℤ a.y *ℤ pos 2 ≡ b.y -ℤ a.y = omega (arith, ints) in
    record {
      line = rw (e, f) (zero_turn (b.x -ℤ a.x) (b.y -ℤ a.y));
      across = middle_range a.x b.x;
      along = middle_range a.y b.y;
    }

square : (u : ℤ) → pos 0 ≤ℤ (u *ℤ u)
square u = by_lt_z u (pos 0) (λ h. weak (mul-neg-neg u u h h)) (λ h. mul-nonneg u u h h)

no_square : (u : ℤ) → (u *ℤ u) ≤ℤ pos 0 → u ≡ pos 0
no_square u h = by_lt_z u (pos 0) (λ k. let z = mul-neg-neg u u k k in absurd (omega (arith, ints))) (λ k. by_lt_z (pos 0) u (λ l. let z = mul-pos u u l l in absurd (omega (arith, ints))) (λ l. omega (arith, ints)))

pub one : (u : ℤ) → pos 1 *ℤ u ≡ u
one u = omega (arith, ints)

-- ---- how far along the edge

point_same : (a b : Point) → a.x ≡ b.x → a.y ≡ b.y → a ≡ b
point_same a b e f = λ i. record { x = e i; y = f i }

pub reach_middle : (a b : Point) → a ≢ b → pos 0 <ℤ reach a b (middle a b)
reach_middle a b n =
    let dx = b.x -ℤ a.x in
    let dy = b.y -ℤ a.y in
    let e : (a.x +ℤ b.x) -ℤ a.x *ℤ pos 2 ≡ dx = omega (arith, ints) in
    let f : (a.y +ℤ b.y) -ℤ a.y *ℤ pos 2 ≡ dy = omega (arith, ints) in
    rw (e, f) (by_lt_z (pos 0) (dx *ℤ dx)
    (λ h. omega (arith, ints, square dy))
    (λ h. by_lt_z (pos 0) (dy *ℤ dy)
    (λ k. omega (arith, ints, square dx))
    (λ k. absurd (n (point_same a b
    (let z = no_square dx h in omega (arith, ints))
    (let z = no_square dy k in omega (arith, ints)))))))

pub reach_part : (c d w x : ℤ) → pos 0 <ℤ w → IsBetween (c *ℤ w) (d *ℤ w) x → pos 0 ≤ℤ ((x -ℤ c *ℤ w) *ℤ (d -ℤ c))
reach_part c d w x h b =
    let l = b.least in let g = b.greatest in
    let e : w *ℤ (d -ℤ c) ≡ d *ℤ w -ℤ c *ℤ w = simp expand (omega (arith, polys)) in
    by_lt_z d c
    (λ k. let o : (d -ℤ c) ≤ℤ pos 0 = omega (arith, ints) in let m = mul-pn w (d -ℤ c) (weak h) o in mul-nn _ _ (omega (arith, ints, clamps)) o)
    (λ k. let o : pos 0 ≤ℤ (d -ℤ c) = omega (arith, ints) in let m = mul-nonneg w (d -ℤ c) (weak h) o in mul-nonneg _ _ (omega (arith, ints, clamps)) o)

pub reach_on : (a b : Point) (p : Place) → pos 0 <ℤ p.w → IsOnEdge a b p → pos 0 ≤ℤ reach a b p
reach_on a b p h o = omega (arith, ints, reach_part a.x b.x p.w p.x h o.across, reach_part a.y b.y p.w p.y h o.along)

reach_sum : (a dx s t pw qw px qx : ℤ) → ((s *ℤ px +ℤ t *ℤ qx) -ℤ a *ℤ (s *ℤ pw +ℤ t *ℤ qw)) *ℤ dx ≡ s *ℤ ((px -ℤ a *ℤ pw) *ℤ dx) +ℤ t *ℤ ((qx -ℤ a *ℤ qw) *ℤ dx)
reach_sum a dx s t pw qw px qx = simp expand (omega (arith, polys))

reach_join : (s t u v u' v' : ℤ) → (s *ℤ u +ℤ t *ℤ v) +ℤ (s *ℤ u' +ℤ t *ℤ v') ≡ s *ℤ (u +ℤ u') +ℤ t *ℤ (v +ℤ v')
reach_join s t u v u' v' = simp expand (omega (arith, polys))

pub reach-between : (a b : Point) (s t : ℤ) (p q : Place) → reach a b (between s t p q) ≡ s *ℤ reach a b p +ℤ t *ℤ reach a b q
reach-between a b s t p q = rw (reach_sum a.x (b.x -ℤ a.x) s t p.w q.w p.x q.x, reach_sum a.y (b.y -ℤ a.y) s t p.w q.w p.y q.y) (reach_join s t _ _ _ _)

-- ---- a place inside, in every box

pub middle-swap : (a b : Point) → middle a b ≡ middle b a
middle-swap a b = λ i. record { x = +ℤ_comm a.x b.x i; y = +ℤ_comm a.y b.y i; w = pos 2 }

pub near_part : (n k cx cw x w : ℤ) → pos 0 <ℤ w → pos 0 ≤ℤ k → pos 0 <ℤ cw → (n *ℤ (cx *ℤ w -ℤ x *ℤ cw)) ≤ℤ k
    → (n *ℤ ((k *ℤ x +ℤ pos 1 *ℤ cx) *ℤ w -ℤ x *ℤ (k *ℤ w +ℤ pos 1 *ℤ cw))) ≤ℤ (w *ℤ (k *ℤ w +ℤ pos 1 *ℤ cw))
near_part n k cx cw x w h y z e =
    let o : (u : ℤ) → pos 1 *ℤ u ≡ u = λ u. omega (arith, ints) in
    let f : (k *ℤ x +ℤ cx) *ℤ w -ℤ x *ℤ (k *ℤ w +ℤ cw) ≡ cx *ℤ w -ℤ x *ℤ cw = simp expand (omega (arith, polys)) in
    let g : w *ℤ (k *ℤ w +ℤ cw) ≡ k *ℤ (w *ℤ w) +ℤ w *ℤ cw = simp expand (omega (arith, polys)) in
    let s : pos 1 ≤ℤ (w *ℤ w) = let t = mul-pos w w h h in omega (arith, ints) in
    let m = mul-le k (pos 1) (w *ℤ w) y s in
    rw (o cx, o cw, f, g) (omega (arith, ints, mul-pos w cw h z, *ℤ_comm k (pos 1), o k))

pub back_part : (n k cx cw x w : ℤ) → pos 0 <ℤ w → pos 0 ≤ℤ k → pos 0 <ℤ cw → (n *ℤ (x *ℤ cw -ℤ cx *ℤ w)) ≤ℤ k
    → (n *ℤ (x *ℤ (k *ℤ w +ℤ pos 1 *ℤ cw) -ℤ (k *ℤ x +ℤ pos 1 *ℤ cx) *ℤ w)) ≤ℤ (w *ℤ (k *ℤ w +ℤ pos 1 *ℤ cw))
back_part n k cx cw x w h y z e =
    let f : x *ℤ (k *ℤ w +ℤ cw) -ℤ (k *ℤ x +ℤ cx) *ℤ w ≡ x *ℤ cw -ℤ cx *ℤ w = simp expand (omega (arith, polys)) in
    let g : w *ℤ (k *ℤ w +ℤ cw) ≡ k *ℤ (w *ℤ w) +ℤ w *ℤ cw = simp expand (omega (arith, polys)) in
    let s : pos 1 ≤ℤ (w *ℤ w) = let t = mul-pos w w h h in omega (arith, ints) in
    let m = mul-le k (pos 1) (w *ℤ w) y s in
    rw (one cx, one cw, f, g) (omega (arith, ints, mul-pos w cw h z, *ℤ_comm k (pos 1), one k))

pub record Inner (a b : Point) (x : Place) (n : ℤ) : Type 0 where
  pub m : Place
  pub weight : pos 0 <ℤ m.w
  pub near : IsNear n x m
  pub within : IsInside a b m

pub inner : (a b : Point) (x : Place) (n : ℤ) → a ≢ b → pos 0 <ℤ x.w → pos 0 <ℤ n → IsOnEdge a b x → Inner a b x n
inner a b x n d w h o =
    let c = middle a b in
    let u = c.x *ℤ x.w -ℤ x.x *ℤ pos 2 in
    let v = c.y *ℤ x.w -ℤ x.y *ℤ pos 2 in
    let k = n *ℤ (pos (nat_abs u) +ℤ pos (nat_abs v)) in
    let kn : pos 0 ≤ℤ k = mul-nonneg n _ (weak h) (omega (arith, ints)) in
    let two : pos 0 <ℤ pos 2 = omega (arith, ints) in
    let m = between k (pos 1) x c in
    let mw : pos 0 <ℤ m.w = mixed_weight k (pos 1) x.w (pos 2) kn (omega (arith, ints)) (omega (arith, ints)) w two in
    let on : IsOnEdge a b m = IsOnEdge-between a b k (pos 1) x c kn (omega (arith, ints)) w two o (middle_on a b) in
    let ra = reach-between a b k (pos 1) x c in
    let rb = reach-between b a k (pos 1) x c in
    let rm : pos 0 <ℤ reach b a c = subst (λ z. pos 0 <ℤ reach b a z) (middle-swap b a) (reach_middle b a (λ e. d (sym e))) in
    record {
      m = m;
      weight = mw;
      near = record {
        weight = mw;
        right = near_part n k c.x (pos 2) x.x x.w w kn two (mul-le n _ _ (weak h) (omega (arith, ints)));
        left = back_part n k c.x (pos 2) x.x x.w w kn two (mul-le n _ _ (weak h) (omega (arith, ints)));
        higher = near_part n k c.y (pos 2) x.y x.w w kn two (mul-le n _ _ (weak h) (omega (arith, ints)));
        lower = back_part n k c.y (pos 2) x.y x.w w kn two (mul-le n _ _ (weak h) (omega (arith, ints)));
      };
      within = record {
        on = on;
        from_first = rw ra (omega (arith, ints, mul-nonneg k (reach a b x) kn (reach_on a b x w o), reach_middle a b d, one (reach a b c)));
        from_second = rw rb (omega (arith, ints, mul-nonneg k (reach b a x) kn (reach_on b a x w (IsOnEdge-reversed a b x o)), rm, one (reach b a c)));
      };
    }
