-- From a place in one of two rings, at a height without vertices, the first place of a ring ahead tells where the rings' edges lie.
use Rattle.std.proofs.Common.{◌≡◌, ◌≢◌, ℕ, ◌+◌, ◌%◌, ◌<◌, List, length, sym, ap, ◌∙◌, arith, ◌⊎◌, inl, inr}
use lib.IntN.{ℤ, pos, ◌+ℤ◌, ◌-ℤ◌, ◌*ℤ◌, neg_ℤ, *ℤ_comm, *ℤ-zero}
use lib.Signed.{◌<ℤ◌, ◌≤ℤ◌}
use borrow.Author.Differences.{ints}
use Rattle.std.proofs.lemmas.Int.{by_lt_z}
use Rattle.poly_exact.specs.declared.points.Point.{Point}
use Rattle.poly_exact.specs.Places.{Place, above, reach, IsOnEdge, IsInside, IsClear, between}
use Rattle.poly_exact.specs.Rings.{vertex, next, crossings, IsOnRing, IsSimple}
use Rattle.poly_exact.proofs.Whole.{weak, expand, polys, mul-pos, mul-le, zero-of-mul, pos-of-mul, neg-mul}
use Rattle.poly_exact.proofs.Crossings.{IsOnEdge-reversed}
use Rattle.poly_exact.proofs.RingLaw.{segment_law}
use Rattle.poly_exact.proofs.Local.{mixed_weight}
use Rattle.poly_exact.proofs.Inner.{reach_part}
use Rattle.poly_exact.proofs.Shifts.{level_height}
use Rattle.poly_exact.proofs.Sides.{alone}
use Rattle.poly_exact.proofs.West.{ray_law}
use Rattle.de9im.proofs.Nearest.{IsAhead, same_heights, same_above, IsApart, First, first, ordered}
use Rattle.poly_exact.proofs.SamePoints.{IsOnEdge-same}

-- ---- the way from p to a place ahead

module _ (p m : Place) (w : pos 0 <ℤ p.w) (h : IsAhead p m) where
  way_height : (s t py pw my mw : ℤ) → py *ℤ mw ≡ my *ℤ pw → py *ℤ (s *ℤ pw +ℤ t *ℤ mw) ≡ (s *ℤ py +ℤ t *ℤ my) *ℤ pw
  way_height s t py pw my mw e =
      let f : t *ℤ (py *ℤ mw) ≡ t *ℤ (my *ℤ pw) = ap (λ z. t *ℤ z) e in
      let g : py *ℤ (s *ℤ pw +ℤ t *ℤ mw) ≡ s *ℤ (py *ℤ pw) +ℤ t *ℤ (py *ℤ mw) = simp expand (omega (arith, polys)) in
      let k : (s *ℤ py +ℤ t *ℤ my) *ℤ pw ≡ s *ℤ (py *ℤ pw) +ℤ t *ℤ (my *ℤ pw) = simp expand (omega (arith, polys)) in
      omega (arith, ints)

  way_ahead : (s t px pw mx mw : ℤ) → pos 0 ≤ℤ t → (px *ℤ mw) ≤ℤ (mx *ℤ pw) → (px *ℤ (s *ℤ pw +ℤ t *ℤ mw)) ≤ℤ ((s *ℤ px +ℤ t *ℤ mx) *ℤ pw)
  way_ahead s t px pw mx mw n e =
      let f = mul-le t (px *ℤ mw) (mx *ℤ pw) n e in
      let g : px *ℤ (s *ℤ pw +ℤ t *ℤ mw) ≡ s *ℤ (px *ℤ pw) +ℤ t *ℤ (px *ℤ mw) = simp expand (omega (arith, polys)) in
      let k : (s *ℤ px +ℤ t *ℤ mx) *ℤ pw ≡ s *ℤ (px *ℤ pw) +ℤ t *ℤ (mx *ℤ pw) = simp expand (omega (arith, polys)) in
      omega (arith, ints)

  way_short : (s t px pw mx mw : ℤ) → pos 0 ≤ℤ s → (px *ℤ mw) ≤ℤ (mx *ℤ pw) → ((s *ℤ px +ℤ t *ℤ mx) *ℤ mw) ≤ℤ (mx *ℤ (s *ℤ pw +ℤ t *ℤ mw))
  way_short s t px pw mx mw n e =
      let f = mul-le s (px *ℤ mw) (mx *ℤ pw) n e in
      let g : (s *ℤ px +ℤ t *ℤ mx) *ℤ mw ≡ s *ℤ (px *ℤ mw) +ℤ t *ℤ (mx *ℤ mw) = simp expand (omega (arith, polys)) in
      let k : mx *ℤ (s *ℤ pw +ℤ t *ℤ mw) ≡ s *ℤ (mx *ℤ pw) +ℤ t *ℤ (mx *ℤ mw) = simp expand (omega (arith, polys)) in
      omega (arith, ints)

  pub way : (s t : ℤ) → pos 0 ≤ℤ s → pos 0 ≤ℤ t → pos 0 <ℤ (s +ℤ t) → IsAhead p (between s t p m)
  way s t x y z = record {
    weight = mixed_weight s t p.w m.w x y z w h.weight;
    height = way_height s t p.y p.w m.y m.w h.height;
    ahead = way_ahead s t p.x p.w m.x m.w y h.ahead;
  }

  -- an edge that no place ahead meets before m, and that m is not on, is clear of the way
  pub way_clear : (a b : Point) → ((z : Place) → IsAhead p z → IsOnEdge a b z → (m.x *ℤ z.w) ≤ℤ (z.x *ℤ m.w)) → (IsOnEdge a b m → ⊥) → IsClear p m a b
  way_clear a b least off = record {
    none = λ s t x y z o.
        (let k = way s t x y z in
        let u = least (between s t p m) k o in
        let v = way_short s t p.x p.w m.x m.w x h.ahead in
        let e : (between s t p m).x *ℤ m.w ≡ m.x *ℤ (between s t p m).w = omega (arith, ints) in
        off (IsOnEdge-same a b (between s t p m) m k.weight h.weight e (sym (same_heights p m (between s t p m) w h k)) o));
  }

-- ---- at a height without vertices a place of an edge is strictly inside it, and the edge isn't level

module _ (a b : Point) (p m : Place) (w : pos 0 <ℤ p.w) (h : IsAhead p m) (na : above a p ≢ pos 0) (o : IsOnEdge a b m) where
  apart_above : above a m ≢ pos 0
  apart_above e = na (zero-of-mul m.w (above a p) h.weight (sym (same_above a p m h) ∙ rw e (*ℤ-zero p.w)))

  pub not_level : a.y ≢ b.y
  not_level e = apart_above (level_height a b m (sym e) o)

  reach_apart : pos 0 <ℤ reach a b m
  reach_apart =
      let x = reach_part a.x b.x m.w m.x h.weight o.across in
      let y = reach_part a.y b.y m.w m.y h.weight o.along in
      by_lt_z (pos 0) (above a m *ℤ (b.y -ℤ a.y))
      (λ k. omega (arith, ints))
      (λ k. absurd (by_lt_z a.y b.y
      (λ l. apart_above (zero-of-mul (b.y -ℤ a.y) (above a m) (omega (arith, ints)) (omega (arith, ints, *ℤ_comm (b.y -ℤ a.y) (above a m)))))
      (λ l. by_lt_z b.y a.y
      (λ n. apart_above (zero-of-mul (neg_ℤ (b.y -ℤ a.y)) (above a m) (omega (arith, ints)) (omega (arith, ints, *ℤ_comm (b.y -ℤ a.y) (above a m), neg-mul (b.y -ℤ a.y) (above a m)))))
      (λ n. not_level (omega (arith, ints))))))

pub inside_apart : (a b : Point) (p m : Place) → pos 0 <ℤ p.w → IsAhead p m → above a p ≢ pos 0 → above b p ≢ pos 0 → IsOnEdge a b m → IsInside a b m
inside_apart a b p m w h na nb o = record {
  on = o;
  from_first = reach_apart a b p m w h na o;
  from_second = reach_apart b a p m w h nb (IsOnEdge-reversed a b m o);
}

-- ---- what the first place ahead tells

strictly : (a b c d e f : ℤ) → pos 0 <ℤ b → pos 0 <ℤ d → pos 0 <ℤ f → (a *ℤ d) <ℤ (c *ℤ b) → (c *ℤ f) ≤ℤ (e *ℤ d) → (a *ℤ f) <ℤ (e *ℤ b)
strictly a b c d e f hb hd hf p q =
    let u : pos 0 <ℤ (f *ℤ (c *ℤ b -ℤ a *ℤ d)) = mul-pos f _ hf (omega (arith, ints)) in
    let v = mul-le b (c *ℤ f) (e *ℤ d) (weak hb) q in
    let x : d *ℤ (e *ℤ b -ℤ a *ℤ f) ≡ (b *ℤ (e *ℤ d) -ℤ b *ℤ (c *ℤ f)) +ℤ f *ℤ (c *ℤ b -ℤ a *ℤ d) = simp expand (omega (arith, polys)) in
    let z = pos-of-mul d (e *ℤ b -ℤ a *ℤ f) (weak hd) (omega (arith, ints)) in
    omega (arith, ints)

nearer : (m n z : Place) → pos 0 <ℤ m.w → pos 0 <ℤ n.w → pos 0 <ℤ z.w → (m.x *ℤ n.w) <ℤ (n.x *ℤ m.w) → (n.x *ℤ z.w) ≤ℤ (z.x *ℤ n.w) → (m.x *ℤ z.w) <ℤ (z.x *ℤ m.w)
nearer m n z a b c h k = strictly m.x m.w n.x n.w z.x z.w a b c h k

-- a place on the first ring and off the second, which counts as p does
pub record Alone (vs ws : List Point) (p : Place) : Type 0 where
  pub m : Place
  pub weight : pos 0 <ℤ m.w
  pub on : IsOnRing vs m
  pub off : IsOnRing ws m → ⊥
  pub alike : (crossings ws p (length ws) + crossings ws m (length ws)) % 2 ≡ 0

-- a place strictly inside an edge of each ring, neither of them level, at whose left both rings count as at p
pub record Both (vs ws : List Point) (p : Place) : Type 0 where
  pub m : Place
  pub weight : pos 0 <ℤ m.w
  pub e : ℕ
  pub f : ℕ
  pub below_e : e < length vs
  pub below_f : f < length ws
  pub level_e : (vertex vs e).y ≢ (vertex vs (next vs e)).y
  pub level_f : (vertex ws f).y ≢ (vertex ws (next ws f)).y
  pub inside_e : IsInside (vertex vs e) (vertex vs (next vs e)) m
  pub inside_f : IsInside (vertex ws f) (vertex ws (next ws f)) m
  pub flip_e : (crossings vs p (length vs) + crossings vs m (length vs)) % 2 ≡ 1
  pub flip_f : (crossings ws p (length ws) + crossings ws m (length ws)) % 2 ≡ 1

module _ (vs : List Point) (p : Place) (w : pos 0 <ℤ p.w) where
  flip_at : IsSimple vs → IsApart vs p → (m : Place) → IsAhead p m → (p.x *ℤ m.w) <ℤ (m.x *ℤ p.w) → (e : ℕ) → e < length vs → IsOnEdge (vertex vs e) (vertex vs (next vs e)) m
      → ((k : ℕ) → k < length vs → (z : Place) → IsAhead p z → IsOnEdge (vertex vs k) (vertex vs (next vs k)) z → (m.x *ℤ z.w) ≤ℤ (z.x *ℤ m.w)) → (crossings vs p (length vs) + crossings vs m (length vs)) % 2 ≡ 1
  flip_at simple apart m h right e b o least =
      let i = inside_apart (vertex vs e) (vertex vs (next vs e)) p m w h (apart.each e) (apart.each (next vs e)) o in
      ray_law vs e p m b (not_level _ _ p m w h (apart.each e) o) w h.weight i h.height right
      (λ k l n. way_clear p m w h _ _ (least k l) (alone vs simple e b m h.weight i k l n))

module _ (vs ws : List Point) (p : Place) (w : pos 0 <ℤ p.w) where
  alone_at : (f : First vs p (length vs)) → ((k : ℕ) → k < length ws → (z : Place) → IsAhead p z → IsOnEdge (vertex ws k) (vertex ws (next ws k)) z → (f.m.x *ℤ z.w) <ℤ (z.x *ℤ f.m.w)) → Alone vs ws p
  alone_at f far =
      let off = λ (k : ℕ) (l : k < length ws) (o : IsOnEdge (vertex ws k) (vertex ws (next ws k)) f.m). (let s = far k l f.m f.ahead o in absurd {A = ⊥} (omega (arith, ints))) in
      record {
        m = f.m;
        weight = f.ahead.weight;
        on = record { edge = f.edge; below = f.below; on = f.on };
        off = λ o. off o.edge o.below o.on;
        alike = segment_law ws p f.m w f.ahead.weight (record { each = λ k l. way_clear p f.m w f.ahead _ _ (λ z h o. weak (far k l z h o)) (off k l) });
      }

module _ (vs ws : List Point) (p : Place) (w : pos 0 <ℤ p.w) (sv : IsSimple vs) (sw : IsSimple ws) (av : IsApart vs p) (aw : IsApart ws p) where
  both_at : (f : First vs p (length vs)) (g : First ws p (length ws)) → f.m.x *ℤ g.m.w ≡ g.m.x *ℤ f.m.w → Both vs ws p
  both_at f g e =
      let same = same_heights p g.m f.m w g.ahead f.ahead in
      let on = IsOnEdge-same _ _ g.m f.m g.ahead.weight f.ahead.weight (sym e) same g.on in
      let fw = f.ahead.weight in
      let gw = g.ahead.weight in
      let least = λ (k : ℕ) (l : k < length ws) (z : Place) (h : IsAhead p z) (o : IsOnEdge (vertex ws k) (vertex ws (next ws k)) z).
      ordered f.m.x f.m.w g.m.x g.m.w z.x z.w fw gw h.weight (let e' = e in omega (arith, ints)) (g.least k l z h o) in
      record {
        m = f.m;
        weight = fw;
        e = f.edge;
        f = g.edge;
        below_e = f.below;
        below_f = g.below;
        level_e = not_level _ _ p f.m w f.ahead (av.each f.edge) f.on;
        level_f = not_level _ _ p f.m w f.ahead (aw.each g.edge) on;
        inside_e = inside_apart _ _ p f.m w f.ahead (av.each f.edge) (av.each (next vs f.edge)) f.on;
        inside_f = inside_apart _ _ p f.m w f.ahead (aw.each g.edge) (aw.each (next ws g.edge)) on;
        flip_e = flip_at vs p w sv av f.m f.ahead f.apart f.edge f.below f.on f.least;
        flip_f = flip_at ws p w sw aw f.m f.ahead f.apart g.edge g.below on least;
      }

  -- p is off both rings and in one of them
  pub converse : (IsOnRing vs p → ⊥) → (IsOnRing ws p → ⊥) → (crossings vs p (length vs) % 2 ≡ 1) ⊎ (crossings ws p (length ws) % 2 ≡ 1) → Alone vs ws p ⊎ (Alone ws vs p ⊎ Both vs ws p)
  converse ov ow odd = elim (first vs p w av ov (length vs) (omega arith)) [
    | inl f ↦ elim (first ws p w aw ow (length ws) (omega arith)) [
      | inl g ↦ by_lt_z (f.m.x *ℤ g.m.w) (g.m.x *ℤ f.m.w)
          (λ l. inl (alone_at vs ws p w f (λ k b z h o. nearer f.m g.m z f.ahead.weight g.ahead.weight h.weight l (g.least k b z h o))))
          (λ l. by_lt_z (g.m.x *ℤ f.m.w) (f.m.x *ℤ g.m.w)
          (λ r. inr (inl (alone_at ws vs p w g (λ k b z h o. nearer g.m f.m z g.ahead.weight f.ahead.weight h.weight r (f.least k b z h o)))))
          (λ r. inr (inr (both_at f g (omega (arith, ints))))))
      | inr g ↦ inl (alone_at vs ws p w f (λ k b z h o. absurd (g.none k b z h o)))
    ]
    | inr f ↦ elim (first ws p w aw ow (length ws) (omega arith)) [
      | inl g ↦ inr (inl (alone_at ws vs p w g (λ k b z h o. absurd (f.none k b z h o))))
      | inr g ↦ absurd (elim odd [ inl x ↦ (let e = f.zero_count in omega arith) | inr x ↦ (let e = g.zero_count in omega arith) ])
    ]
  ]
