-- Edges of one line: what the overlap of their reaches tells.
use Rattle.std.proofs.Common.{◌≡◌, ◌≢◌, refl, sym, ap, ◌∙◌, subst, arith, ◌⊎◌, inl, inr, true, false}
use lib.IntN.{ℤ, pos, ◌+ℤ◌, ◌-ℤ◌, ◌*ℤ◌, *ℤ_comm, zero-*ℤ}
use lib.Signed.{◌<ℤ◌, ◌≤ℤ◌, lt_z}
use borrow.Author.Differences.{ints}
use Rattle.std.proofs.lemmas.Int.{by_lt_z}
use Rattle.poly_exact.specs.declared.points.Point.{Point}
use Rattle.poly_exact.specs.declared.edges.Meeting.{Meeting}
use Rattle.poly_exact.specs.declared.edges.Meeting.TheVariants as meeting
use Rattle.poly_exact.specs.Places.{Place, turn, reach, IsOnEdge, between}
use Rattle.poly_exact.specs.Rings.{IsAt}
use Rattle.poly_exact.specs.Met.{IsOverlap, IsMet, AreApart, IsLone, IsSame, Crossing, DoTouch, DoShare}
use Rattle.poly_exact.proofs.Whole.{weak, expand, polys, mul-pos, mul-nonneg, mul-neg-pos, nonneg-of-mul, zero-of-mul}
use Rattle.poly_exact.proofs.Crossings.{IsOnEdge-reversed}
use Rattle.poly_exact.proofs.Shifts.{IsInside-reversed}
use Rattle.poly_exact.proofs.Inner.{reach-between, reach_on}
use Rattle.poly_exact.proofs.VertexPlaces.{at, first_on, second_on}
use Rattle.poly_exact.proofs.EdgeEnds.{mix_of, reach_both}
use Rattle.poly_exact.proofs.Pieces.{long_edge, on_between, first_at, along_x, along_y, scaled_reach, flat, beyond}
use Rattle.poly_exact.proofs.Pairs.{reach_first, reach_second, half_inside}

-- ---- a place of c d reaches between what its ends reach

low_plain : (s r l w c d x : ℤ) → s *ℤ c +ℤ r *ℤ d ≡ l *ℤ x → s +ℤ r ≡ l *ℤ w → l *ℤ (x -ℤ c *ℤ w) ≡ r *ℤ (d -ℤ c)
low_plain s r l w c d x e f =
    let g : (s +ℤ r) *ℤ c ≡ (l *ℤ w) *ℤ c = ap (λ z. z *ℤ c) f in
    let h : (s +ℤ r) *ℤ c ≡ s *ℤ c +ℤ r *ℤ c = simp expand (omega (arith, polys)) in
    let i : l *ℤ (x -ℤ c *ℤ w) ≡ l *ℤ x -ℤ (l *ℤ w) *ℤ c = simp expand (omega (arith, polys)) in
    let j : r *ℤ (d -ℤ c) ≡ r *ℤ d -ℤ r *ℤ c = simp expand (omega (arith, polys)) in
    omega (arith, ints)

high_plain : (s r l w c d x : ℤ) → s *ℤ c +ℤ r *ℤ d ≡ l *ℤ x → s +ℤ r ≡ l *ℤ w → l *ℤ (d *ℤ w -ℤ x) ≡ s *ℤ (d -ℤ c)
high_plain s r l w c d x e f =
    let g : (s +ℤ r) *ℤ d ≡ (l *ℤ w) *ℤ d = ap (λ z. z *ℤ d) f in
    let h : (s +ℤ r) *ℤ d ≡ s *ℤ d +ℤ r *ℤ d = simp expand (omega (arith, polys)) in
    let i : l *ℤ (d *ℤ w -ℤ x) ≡ (l *ℤ w) *ℤ d -ℤ l *ℤ x = simp expand (omega (arith, polys)) in
    let j : s *ℤ (d -ℤ c) ≡ s *ℤ d -ℤ s *ℤ c = simp expand (omega (arith, polys)) in
    omega (arith, ints)

module _ (a b c d : Point) (n : c ≢ d) (up : reach a b (at c) <ℤ reach a b (at d)) (z : Place) (w : pos 0 <ℤ z.w) (o : IsOnEdge c d z) where
  abbrev pub long_cd : ℤ
  long_cd = (d.x -ℤ c.x) *ℤ (d.x -ℤ c.x) +ℤ (d.y -ℤ c.y) *ℤ (d.y -ℤ c.y)

  mixed_is : reach d c z *ℤ reach a b (at c) +ℤ reach c d z *ℤ reach a b (at d) ≡ long_cd *ℤ reach a b z
  mixed_is = sym (reach-between a b (reach d c z) (reach c d z) (at c) (at d)) ∙ ap (reach a b) (mix_of c d z o).0 ∙ scaled_reach long_cd (b.x -ℤ a.x) (b.y -ℤ a.y) a.x a.y z.x z.y z.w

  low_is : long_cd *ℤ (reach a b z -ℤ reach a b (at c) *ℤ z.w) ≡ reach c d z *ℤ (reach a b (at d) -ℤ reach a b (at c))
  low_is = low_plain (reach d c z) (reach c d z) long_cd z.w (reach a b (at c)) (reach a b (at d)) (reach a b z) mixed_is (mix_of c d z o).1

  high_is : long_cd *ℤ (reach a b (at d) *ℤ z.w -ℤ reach a b z) ≡ reach d c z *ℤ (reach a b (at d) -ℤ reach a b (at c))
  high_is = high_plain (reach d c z) (reach c d z) long_cd z.w (reach a b (at c)) (reach a b (at d)) (reach a b z) mixed_is (mix_of c d z o).1

  gap : pos 0 <ℤ (reach a b (at d) -ℤ reach a b (at c))
  gap = omega (arith, ints)

  pub low_end : (reach a b (at c) *ℤ z.w) ≤ℤ reach a b z
  low_end =
      let m = mul-nonneg (reach c d z) _ (reach_on c d z w o) (weak gap) in
      let k = nonneg-of-mul long_cd (reach a b z -ℤ reach a b (at c) *ℤ z.w) (long_edge c d n) (rw low_is m) in
      omega (arith, ints)

  pub high_end : reach a b z ≤ℤ (reach a b (at d) *ℤ z.w)
  high_end =
      let m = mul-nonneg (reach d c z) _ (reach_on d c z w (IsOnEdge-reversed c d z o)) (weak gap) in
      let k = nonneg-of-mul long_cd (reach a b (at d) *ℤ z.w -ℤ reach a b z) (long_edge c d n) (rw high_is m) in
      omega (arith, ints)

-- ---- the four cases

pub long_is : (a b : Point) → reach a b (at b) ≡ (b.x -ℤ a.x) *ℤ (b.x -ℤ a.x) +ℤ (b.y -ℤ a.y) *ℤ (b.y -ℤ a.y)
long_is a b =
    let e : b.x -ℤ a.x *ℤ pos 1 ≡ b.x -ℤ a.x = omega (arith, ints) in
    let f : b.y -ℤ a.y *ℤ pos 1 ≡ b.y -ℤ a.y = omega (arith, ints) in
    λ i. e i *ℤ (b.x -ℤ a.x) +ℤ f i *ℤ (b.y -ℤ a.y)

pub reach_back : (a b : Point) (z : Place) → reach b a z ≡ z.w *ℤ reach a b (at b) -ℤ reach a b z
reach_back a b z = reach_both a b z ∙ ap (λ l. z.w *ℤ l -ℤ reach a b z) (sym (long_is a b))

at_same : (v : Point) (p q : Place) → IsAt v p → IsAt v q → IsSame p q
at_same v p q h k =
    let t : (u x y : ℤ) → (u *ℤ x) *ℤ y ≡ (u *ℤ y) *ℤ x = λ u x y. simp expand (omega (arith, polys)) in
    record { across = rw (h.across, k.across) (t v.x p.w q.w); along = rw (h.along, k.along) (t v.y p.w q.w) }

same_point : (p q : Point) → IsSame (at p) (at q) → p ≡ q
same_point p q h =
    let e = h.across in let f = h.along in
    let x : p.x ≡ q.x = omega (arith, ints) in
    let y : p.y ≡ q.y = omega (arith, ints) in
    λ i. record { x = x i; y = y i }

module _ (a b c d : Point) (proper : a ≢ b) (other : c ≢ d) (tc : turn a b (at c) ≡ pos 0) (td : turn a b (at d) ≡ pos 0) (up : reach a b (at c) <ℤ reach a b (at d)) where
  one : pos 0 <ℤ pos 1
  one = omega (arith, ints)

  unit : (u : ℤ) → pos 1 *ℤ u ≡ u
  unit u = omega (arith, ints)

  not_common : (reach a b (at d) <ℤ pos 0) ⊎ (reach a b (at b) <ℤ reach a b (at c)) → AreApart a b c d
  not_common o = record {
    none = λ z w i j.
        let n = reach_on a b z w i in
        let k = reach_on b a z w (IsOnEdge-reversed a b z i) in
        let e = reach_back a b z in
        let lo = low_end a b c d other up z w j in
        let hi = high_end a b c d other up z w j in
        elim o [
          | inl h ↦ (let m = mul-neg-pos (reach a b (at d)) z.w h w in omega (arith, ints))
          | inr h ↦ (let m = mul-pos z.w (reach a b (at c) -ℤ reach a b (at b)) w (omega (arith, ints)) in
              let f : z.w *ℤ (reach a b (at c) -ℤ reach a b (at b)) ≡ z.w *ℤ reach a b (at c) -ℤ z.w *ℤ reach a b (at b) = simp expand (omega (arith, polys)) in
              let g = *ℤ_comm z.w (reach a b (at c)) in
              omega (arith, ints))
        ];
  }

  low_touch : reach a b (at d) ≡ pos 0 → DoTouch a b c d
  low_touch e =
      let f = reach_first a b in
      let z : (w : ℤ) → reach a b (at d) *ℤ w ≡ pos 0 = λ w. rw e (zero-*ℤ w) in
      let is : (p : Place) → pos 0 <ℤ p.w → IsOnEdge a b p → IsOnEdge c d p → IsAt a p = λ p w i j.
      first_at a b (long_edge a b proper) p i (let h = high_end a b c d other up p w j in let n = reach_on a b p w i in let y = z p.w in omega (arith, ints)) in
      record {
        m = at a;
        weight = one;
        first = first_on a b;
        second = on_between a b c d (long_edge a b proper) tc td (at a) one (first_on a b).line
            (rw (unit (reach a b (at c))) (omega (arith, ints))) (rw (unit (reach a b (at d))) (omega (arith, ints)));
        lone = record { same = λ p q wp wq ip jp iq jq. at_same a p q (is p wp ip jp) (is q wq iq jq) };
        outer = λ x. (let h = high_end a b c d other up x.m x.weight x.second.on in let y = z x.m.w in let n = x.first.from_first in omega (arith, ints));
      }

  high_touch : reach a b (at c) ≡ reach a b (at b) → DoTouch a b c d
  high_touch e =
      let z : (w : ℤ) → reach a b (at c) *ℤ w ≡ w *ℤ reach a b (at b) = λ w. ap (λ l. l *ℤ w) e ∙ *ℤ_comm (reach a b (at b)) w in
      let is : (p : Place) → pos 0 <ℤ p.w → IsOnEdge a b p → IsOnEdge c d p → IsAt b p = λ p w i j.
      first_at b a (long_edge b a (λ k. proper (sym k))) p (IsOnEdge-reversed a b p i)
      (let h = low_end a b c d other up p w j in let n = reach_on b a p w (IsOnEdge-reversed a b p i) in let y = z p.w in let r = reach_back a b p in omega (arith, ints)) in
      record {
        m = at b;
        weight = one;
        first = second_on a b;
        second = on_between a b c d (long_edge a b proper) tc td (at b) one (second_on a b).line
            (rw (unit (reach a b (at c))) (omega (arith, ints))) (rw (unit (reach a b (at d))) (omega (arith, ints)));
        lone = record { same = λ p q wp wq ip jp iq jq. at_same b p q (is p wp ip jp) (is q wq iq jq) };
        outer = λ x. (let h = low_end a b c d other up x.m x.weight x.second.on in let y = z x.m.w in let n = x.first.from_second in let r = reach_back a b x.m in omega (arith, ints));
      }

  -- two vertices of the line within both
  module _ (p q : Point) (tp : turn a b (at p) ≡ pos 0) (tq : turn a b (at q) ≡ pos 0) (p0 : pos 0 ≤ℤ reach a b (at p)) (pc : reach a b (at c) ≤ℤ reach a b (at p))
      (pq : reach a b (at p) <ℤ reach a b (at q)) (qd : reach a b (at q) ≤ℤ reach a b (at d)) (qb : reach a b (at q) ≤ℤ reach a b (at b)) where
    from_a : reach a b (at a) ≤ℤ reach a b (at p)
    from_a = rw (reach_first a b) p0

    on_ab : (v : Point) → turn a b (at v) ≡ pos 0 → pos 0 ≤ℤ reach a b (at v) → reach a b (at v) ≤ℤ reach a b (at b) → IsOnEdge a b (at v)
    on_ab v t l h = on_between a b a b (long_edge a b proper) (first_on a b).line (second_on a b).line (at v) one t
        (rw (unit (reach a b (at a)), reach_first a b) l) (rw (unit (reach a b (at b))) h)

    on_cd : (v : Point) → turn a b (at v) ≡ pos 0 → reach a b (at c) ≤ℤ reach a b (at v) → reach a b (at v) ≤ℤ reach a b (at d) → IsOnEdge c d (at v)
    on_cd v t l h = on_between a b c d (long_edge a b proper) tc td (at v) one t (rw (unit (reach a b (at c))) l) (rw (unit (reach a b (at d))) h)

    stretch_by : DoShare a b c d
    stretch_by = record {
      shares = record {
        p = at p;
        q = at q;
        weight_p = one;
        weight_q = one;
        first_p = on_ab p tp p0 (omega (arith, ints));
        second_p = on_cd p tp pc (omega (arith, ints));
        first_q = on_ab q tq (omega (arith, ints)) qb;
        second_q = on_cd q tq (omega (arith, ints)) qd;
        differ = λ s. (let e : reach a b (at p) ≡ reach a b (at q) = ap (λ v. reach a b (at v)) (same_point p q s) in omega (arith, ints));
      };
      crossing = record {
        m = between (pos 1) (pos 1) (at p) (at q);
        weight = omega (arith, ints);
        first = half_inside a b a b proper proper (first_on a b).line (second_on a b).line p q tp tq from_a pq qb;
        second = half_inside a b c d proper other tc td p q tp tq pc pq qd;
      };
      flat_c = tc;
      flat_d = td;
    }

  stretch : pos 0 <ℤ reach a b (at d) → reach a b (at c) <ℤ reach a b (at b) → DoShare a b c d
  stretch h k =
      let l = reach_second a b proper in
      let f = reach_first a b in
      let ta = (first_on a b).line in let tb = (second_on a b).line in
      by_lt_z (reach a b (at c)) (pos 0)
      (λ x. by_lt_z (reach a b (at b)) (reach a b (at d))
      (λ y. stretch_by a b ta tb (omega (arith, ints)) (omega (arith, ints)) (omega (arith, ints)) (omega (arith, ints)) (omega (arith, ints)))
      (λ y. stretch_by a d ta td (omega (arith, ints)) (omega (arith, ints)) (omega (arith, ints)) (omega (arith, ints)) (omega (arith, ints))))
      (λ x. by_lt_z (reach a b (at b)) (reach a b (at d))
      (λ y. stretch_by c b tc tb (omega (arith, ints)) (omega (arith, ints)) (omega (arith, ints)) (omega (arith, ints)) (omega (arith, ints)))
      (λ y. stretch_by c d tc td (omega (arith, ints)) (omega (arith, ints)) (omega (arith, ints)) (omega (arith, ints)) (omega (arith, ints))))

  pub rising_met : (m : Meeting) → IsOverlap m (reach a b (at b)) (reach a b (at c)) (reach a b (at d)) → IsMet m a b c d
  rising_met meeting.Apart o = not_common o
  rising_met meeting.Touch o = elim o [ inl h ↦ low_touch h.0 | inr h ↦ high_touch h.0 ]
  rising_met meeting.Proper o = absurd o
  rising_met meeting.Stretch o = stretch o.0 o.1

-- ---- c and d the other way round

module _ (a b c d : Point) where
  crossing_reversed : Crossing a b d c → Crossing a b c d
  crossing_reversed x = record { m = x.m; weight = x.weight; first = x.first; second = IsInside-reversed d c x.m x.second }

  crossing_back : Crossing a b c d → Crossing a b d c
  crossing_back x = record { m = x.m; weight = x.weight; first = x.first; second = IsInside-reversed c d x.m x.second }

  lone_reversed : IsLone a b d c → IsLone a b c d
  lone_reversed h = record { same = λ p q wp wq ip jp iq jq. h.same p q wp wq ip (IsOnEdge-reversed c d p jp) iq (IsOnEdge-reversed c d q jq) }

  met_reversed : (m : Meeting) → (m ≡ meeting.Proper → ⊥) → IsMet m a b d c → IsMet m a b c d
  met_reversed meeting.Apart n h = record { none = λ z w i j. h.none z w i (IsOnEdge-reversed c d z j) }
  met_reversed meeting.Touch n h = record { m = h.m; weight = h.weight; first = h.first; second = IsOnEdge-reversed d c h.m h.second; lone = lone_reversed h.lone; outer = λ x. h.outer (crossing_back x) }
  met_reversed meeting.Proper n h = absurd (n refl)
  met_reversed meeting.Stretch n h =
      let s = h.shares in
      record {
        shares = record {
          p = s.p;
          q = s.q;
          weight_p = s.weight_p;
          weight_q = s.weight_q;
          first_p = s.first_p;
          second_p = IsOnEdge-reversed d c s.p s.second_p;
          first_q = s.first_q;
          second_q = IsOnEdge-reversed d c s.q s.second_q;
          differ = s.differ;
        };
        crossing = crossing_reversed h.crossing;
        flat_c = h.flat_d;
        flat_d = h.flat_c;
      }

  no_proper : (m : Meeting) (l r s : ℤ) → IsOverlap m l r s → m ≡ meeting.Proper → ⊥
  no_proper m l r s o e = subst (λ k. IsOverlap k l r s) e o

-- c and d are not one vertex, so they do not reach alike
reach_differ : (a b c d : Point) → a ≢ b → c ≢ d → turn a b (at c) ≡ pos 0 → turn a b (at d) ≡ pos 0 → reach a b (at c) ≢ reach a b (at d)
reach_differ a b c d n k tc td e =
    let f = flat a b (at d) c td tc in
    let g = beyond a b (at d) c in
    let z : (d.x -ℤ c.x *ℤ pos 1) *ℤ (b.x -ℤ a.x) +ℤ (d.y -ℤ c.y *ℤ pos 1) *ℤ (b.y -ℤ a.y) ≡ pos 0 = sym g ∙ omega (arith, ints) in
    let x = zero-of-mul _ (d.x -ℤ c.x *ℤ pos 1) (long_edge a b n) (along_x (b.x -ℤ a.x) (b.y -ℤ a.y) (d.x -ℤ c.x *ℤ pos 1) (d.y -ℤ c.y *ℤ pos 1) f ∙ rw z (zero-*ℤ (b.x -ℤ a.x))) in
    let y = zero-of-mul _ (d.y -ℤ c.y *ℤ pos 1) (long_edge a b n) (along_y (b.x -ℤ a.x) (b.y -ℤ a.y) (d.x -ℤ c.x *ℤ pos 1) (d.y -ℤ c.y *ℤ pos 1) f ∙ rw z (zero-*ℤ (b.y -ℤ a.y))) in
    k (same_point c d (record { across = omega (arith, ints); along = omega (arith, ints) }))

-- ---- for the code: the numbers as they were read

pub line_up : (m : Meeting) (a b c d : Point) (l r s : ℤ) → a ≢ b → c ≢ d → turn a b (at c) ≡ pos 0 → turn a b (at d) ≡ pos 0 → l ≡ reach a b (at b) → r ≡ reach a b (at c) → s ≡ reach a b (at d)
    → r <ℤ s → IsOverlap m l r s → IsMet m a b c d
line_up m a b c d l r s n k tc td e f g h o = rising_met a b c d n k tc td (omega (arith, ints)) m (rw (e, f, g) at o)

pub line_down : (m : Meeting) (a b c d : Point) (l r s : ℤ) → a ≢ b → c ≢ d → turn a b (at c) ≡ pos 0 → turn a b (at d) ≡ pos 0 → l ≡ reach a b (at b) → r ≡ reach a b (at c) → s ≡ reach a b (at d)
    → s ≤ℤ r → IsOverlap m l s r → IsMet m a b c d
line_down m a b c d l r s n k tc td e f g h o =
    let u : reach a b (at d) <ℤ reach a b (at c) = by_lt_z (reach a b (at d)) (reach a b (at c)) (λ x. x) (λ x. absurd (reach_differ a b c d n k tc td (omega (arith, ints)))) in
    met_reversed a b c d m (no_proper a b c d m l s r o) (rising_met a b d c n (λ x. k (sym x)) td tc u m (rw (e, f, g) at o))

pub less_yes : (u v : ℤ) → lt_z u v ≡ true → u <ℤ v
less_yes u v e = omega (arith, ints)

pub less_no : (u v : ℤ) → lt_z u v ≡ false → v ≤ℤ u
less_no u v e = omega (arith, ints)
