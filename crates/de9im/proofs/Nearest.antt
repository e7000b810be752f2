-- The first place of a ring to the right of a place at whose height is no vertex.
use Rattle.std.proofs.Common.{◌≡◌, ◌≢◌, ℕ, zero, suc, ◌<◌, ◌≤◌, Bool, true, false, List, length, refl, sym, ap, ◌∙◌, subst, arith, ◌⊎◌, inl, inr}
use lib.IntN.{ℤ, pos, ◌+ℤ◌, ◌-ℤ◌, ◌*ℤ◌, neg_ℤ, *ℤ-zero}
use lib.Signed.{◌<ℤ◌, ◌≤ℤ◌}
use borrow.Author.Differences.{ints}
use Rattle.std.proofs.lemmas.Int.{by_lt_z}
use Rattle.std.proofs.lemmas.Bool.{cases_lt}
use Rattle.poly_exact.specs.declared.points.Point.{Point}
use Rattle.poly_exact.specs.Places.{Place, above, turn, IsOnEdge, between, counted, is_under, is_right}
use Rattle.std.specs.Prelude.{int_le, int_lt}
use Rattle.poly_exact.proofs.West.{no_count}
use Rattle.poly_exact.specs.Rings.{vertex, next, IsOnRing, crossings}
use Rattle.poly_exact.proofs.Whole.{weak, expand, polys, mul-pos, mul-nonneg, mul-pn, mul-le, zero-of-mul, pos-of-mul, nonneg-of-mul, nonpos-of-mul}
use Rattle.poly_exact.proofs.Crossings.{IsOnEdge-reversed, on_rising}
use Rattle.poly_exact.proofs.EdgeLaw.{climb, count_of, right_rising, yes_under, drop_of, counted-reversed}
use Rattle.poly_exact.proofs.Boxes.{moved}
use Rattle.poly_exact.proofs.Local.{mixed_weight}
use Rattle.poly_exact.proofs.Inner.{IsOnEdge-between}
use Rattle.poly_exact.proofs.VertexPlaces.{at, first_on, second_on}
use Rattle.poly_exact.proofs.Flips.{on_first, on_second}
use Rattle.poly_exact.proofs.Shifts.{level_height}

-- z is at p's height and not at its left
pub record IsAhead (p z : Place) : Type 0 where
  pub weight : pos 0 <ℤ z.w
  pub height : p.y *ℤ z.w ≡ z.y *ℤ p.w
  pub ahead : (p.x *ℤ z.w) ≤ℤ (z.x *ℤ p.w)

pub record Hit (a b : Point) (p : Place) : Type 0 where
  pub m : Place
  pub ahead : IsAhead p m
  pub apart : (p.x *ℤ m.w) <ℤ (m.x *ℤ p.w)
  pub on : IsOnEdge a b m
  pub least : (z : Place) → IsAhead p z → IsOnEdge a b z → (m.x *ℤ z.w) ≤ℤ (z.x *ℤ m.w)

pub record Missed (a b : Point) (p : Place) : Type 0 where
  pub zero_count : counted a b p ≡ 0
  pub none : (z : Place) → IsAhead p z → IsOnEdge a b z → ⊥

-- ---- heights

-- fractions: a / b = c / d = e / f
chained : (a b c d e f : ℤ) → pos 0 <ℤ d → c *ℤ b ≡ a *ℤ d → c *ℤ f ≡ e *ℤ d → a *ℤ f ≡ e *ℤ b
chained a b c d e f h p q =
    let u : d *ℤ (a *ℤ f -ℤ e *ℤ b) ≡ (a *ℤ d) *ℤ f -ℤ (e *ℤ d) *ℤ b = simp expand (omega (arith, polys)) in
    let v : (c *ℤ b) *ℤ f -ℤ (c *ℤ f) *ℤ b ≡ pos 0 = simp expand (omega (arith, polys)) in
    let w : d *ℤ (a *ℤ f -ℤ e *ℤ b) ≡ pos 0 = u ∙ subst (λ x. x *ℤ f -ℤ (e *ℤ d) *ℤ b ≡ pos 0) p (subst (λ x. (c *ℤ b) *ℤ f -ℤ x *ℤ b ≡ pos 0) q v) in
    let z = zero-of-mul d (a *ℤ f -ℤ e *ℤ b) h w in
    omega (arith, ints)

pub same_heights : (p m z : Place) → pos 0 <ℤ p.w → IsAhead p m → IsAhead p z → m.y *ℤ z.w ≡ z.y *ℤ m.w
same_heights p m z w h k = chained m.y m.w p.y p.w z.y z.w w h.height k.height

-- how far p and z are above a vertex
pub same_above : (v : Point) (p z : Place) → IsAhead p z → p.w *ℤ above v z ≡ z.w *ℤ above v p
same_above v p z h = let c = climb v p z in let e = h.height in omega (arith, ints)

-- ---- one edge that rises

both_under : (ua ub r : Bool) → ua ≡ true → ub ≡ true → count_of ua ub r ≡ 0
both_under ua ub r e f = rw (e, f) refl

neither_under : (ua ub r : Bool) → ua ≡ false → ub ≡ false → count_of ua ub r ≡ 0
neither_under ua ub r e f = rw (e, f) refl

alike_under : (ua ub r : Bool) → ub ≡ ua → count_of ua ub r ≡ 0
alike_under true ub r e = rw e refl
alike_under false ub r e = rw e refl

module _ (a b : Point) (p : Place) (w : pos 0 <ℤ p.w) (rise : pos 0 <ℤ (b.y -ℤ a.y)) where
  -- the turn at p by how far a place of the edge is ahead
  ahead_turn : (z : Place) → p.y *ℤ z.w ≡ z.y *ℤ p.w → turn a b z ≡ pos 0 → z.w *ℤ turn a b p ≡ (b.y -ℤ a.y) *ℤ (z.x *ℤ p.w -ℤ p.x *ℤ z.w)
  ahead_turn z k e =
      let f = moved (b.x -ℤ a.x) (b.y -ℤ a.y) a z p in
      let y : p.y *ℤ z.w -ℤ z.y *ℤ p.w ≡ pos 0 = omega (arith, ints) in
      let x : (b.x -ℤ a.x) *ℤ (p.y *ℤ z.w -ℤ z.y *ℤ p.w) ≡ pos 0 = rw y (*ℤ-zero (b.x -ℤ a.x)) in
      let v : p.w *ℤ turn a b z ≡ pos 0 = rw e (*ℤ-zero p.w) in
      omega (arith, ints)

  ahead_first : (z : Place) → IsAhead p z → IsOnEdge a b z → pos 0 ≤ℤ above a p
  ahead_first z h o = nonneg-of-mul z.w (above a p) h.weight (let s = same_above a p z h in omega (arith, ints, mul-nonneg p.w (above a z) (weak w) (on_first a b z rise h.weight o)))

  ahead_second : (z : Place) → IsAhead p z → IsOnEdge a b z → above b p ≤ℤ pos 0
  ahead_second z h o = nonpos-of-mul z.w (above b p) h.weight (let s = same_above b p z h in omega (arith, ints, mul-pn p.w (above b z) (weak w) (on_second a b z rise h.weight o)))

  unique : (m z : Place) → IsAhead p m → IsAhead p z → IsOnEdge a b m → IsOnEdge a b z → z.x *ℤ m.w ≡ m.x *ℤ z.w
  unique m z h k o r =
      let f = moved (b.x -ℤ a.x) (b.y -ℤ a.y) a z m in
      let e = same_heights p m z w h k in
      let y : m.y *ℤ z.w -ℤ z.y *ℤ m.w ≡ pos 0 = omega (arith, ints) in
      let x : (b.x -ℤ a.x) *ℤ (m.y *ℤ z.w -ℤ z.y *ℤ m.w) ≡ pos 0 = rw y (*ℤ-zero (b.x -ℤ a.x)) in
      let u : z.w *ℤ turn a b m ≡ pos 0 = rw o.line (*ℤ-zero z.w) in
      let v : m.w *ℤ turn a b z ≡ pos 0 = rw r.line (*ℤ-zero m.w) in
      let g = zero-of-mul (b.y -ℤ a.y) (z.x *ℤ m.w -ℤ m.x *ℤ z.w) rise (omega (arith, ints)) in
      omega (arith, ints)

  level_scalar : (py pw ay by : ℤ) → py *ℤ (neg_ℤ (py -ℤ by *ℤ pw) *ℤ pos 1 +ℤ (py -ℤ ay *ℤ pw) *ℤ pos 1) ≡ (neg_ℤ (py -ℤ by *ℤ pw) *ℤ ay +ℤ (py -ℤ ay *ℤ pw) *ℤ by) *ℤ pw
  level_scalar py pw ay by =
      let o : (u : ℤ) → u *ℤ pos 1 ≡ u = λ u. omega (arith, ints) in
      rw (o (neg_ℤ (py -ℤ by *ℤ pw)), o (py -ℤ ay *ℤ pw)) (simp expand (omega (arith, polys)))

  strike : pos 0 <ℤ above a p → above b p <ℤ pos 0 → pos 0 <ℤ turn a b p → Hit a b p
  strike x y t =
      let s = neg_ℤ (above b p) in
      let r = above a p in
      let m = between s r (at a) (at b) in
      let one : pos 0 <ℤ pos 1 = omega (arith, ints) in
      let sn : pos 0 ≤ℤ s = omega (arith, ints) in
      let mw : pos 0 <ℤ m.w = mixed_weight s r (pos 1) (pos 1) sn (weak x) (omega (arith, ints)) one one in
      let on : IsOnEdge a b m = IsOnEdge-between a b s r (at a) (at b) sn (weak x) one one (first_on a b) (second_on a b) in
      let height : p.y *ℤ m.w ≡ m.y *ℤ p.w = level_scalar p.y p.w a.y b.y in
      let f = ahead_turn m height on.line in
      let g : pos 0 <ℤ (m.x *ℤ p.w -ℤ p.x *ℤ m.w) = pos-of-mul (b.y -ℤ a.y) _ (weak rise) (let h = mul-pos m.w (turn a b p) mw t in omega (arith, ints)) in
      let far : (p.x *ℤ m.w) <ℤ (m.x *ℤ p.w) = omega (arith, ints) in
      let ahead : IsAhead p m = record { weight = mw; height = height; ahead = weak far } in
      record { m = m; ahead = ahead; apart = far; on = on; least = λ z h o. (let u = unique m z ahead h on o in omega (arith, ints)) }

  rising_zero : (ua ub : Bool) → int_lt (pos 0) (turn a b p) ≡ false → count_of ua ub (is_right a b p) ≡ 0
  rising_zero ua ub e = rw (right_rising a b p rise, e) (no_count ua ub)

  hit_rising : above a p ≢ pos 0 → above b p ≢ pos 0 → (IsOnEdge a b p → ⊥) → Hit a b p ⊎ Missed a b p
  hit_rising na nb off = by_lt_z (pos 0) (above a p)
      (λ x. by_lt_z (above b p) (pos 0)
      (λ y. by_lt_z (pos 0) (turn a b p)
      (λ t. inl (strike x y t))
      (λ t. inr (record {
        zero_count = rising_zero (is_under a p) (is_under b p) (sym (omega (arith, ints)));
        none = λ z h o.
            (let f = ahead_turn z h.height o.line in let k = h.ahead in
            let g = mul-nonneg (b.y -ℤ a.y) (z.x *ℤ p.w -ℤ p.x *ℤ z.w) (weak rise) (omega (arith, ints)) in
            let u = nonneg-of-mul z.w (turn a b p) h.weight (omega (arith, ints)) in
            off (on_rising a b p rise (omega (arith, ints)) (weak x) (weak y)));
      })))
      (λ y. inr (record {
        zero_count = both_under (is_under a p) (is_under b p) (is_right a b p) (yes_under a p (weak x)) (yes_under b p y);
        none = λ z h o. nb (let k = ahead_second z h o in omega (arith, ints));
      })))
      (λ x. inr (record {
        zero_count = neither_under (is_under a p) (is_under b p) (is_right a b p)
            (sym (omega (arith, ints))) (sym (let d = drop_of a b p in let m = mul-pos p.w (b.y -ℤ a.y) w rise in omega (arith, ints)));
        none = λ z h o. na (let k = ahead_first z h o in omega (arith, ints));
      }))

-- ---- every edge

Hit-reversed : (a b : Point) (p : Place) → Hit a b p → Hit b a p
Hit-reversed a b p h = record { m = h.m; ahead = h.ahead; apart = h.apart; on = IsOnEdge-reversed a b h.m h.on; least = λ z k o. h.least z k (IsOnEdge-reversed b a z o) }

Missed-reversed : (a b : Point) (p : Place) → a.y <ℤ b.y → Missed a b p → Missed b a p
Missed-reversed a b p l h = record { zero_count = counted-reversed a b p l ∙ h.zero_count; none = λ z k o. h.none z k (IsOnEdge-reversed b a z o) }

pub hit : (a b : Point) (p : Place) → pos 0 <ℤ p.w → above a p ≢ pos 0 → above b p ≢ pos 0 → (IsOnEdge a b p → ⊥) → Hit a b p ⊎ Missed a b p
hit a b p w na nb off = by_lt_z a.y b.y
    (λ l. hit_rising a b p w (omega (arith, ints)) na nb off)
    (λ l. by_lt_z b.y a.y
    (λ k. elim (hit_rising b a p w (omega (arith, ints)) nb na (λ o. off (IsOnEdge-reversed b a p o))) [ inl h ↦ inl (Hit-reversed b a p h) | inr h ↦ inr (Missed-reversed b a p k h) ])
    (λ k. inr (record {
      zero_count = alike_under (is_under a p) (is_under b p) (is_right a b p) (let e : b.y ≡ a.y = omega (arith, ints) in ap (λ h. int_le (h *ℤ p.w) p.y) e);
      none = λ z h o. na
          (let e = level_height a b z (omega (arith, ints)) o in
          let s = same_above a p z h in
          zero-of-mul z.w (above a p) h.weight (sym s ∙ rw e (*ℤ-zero p.w)));
    })))

-- ---- the nearest of all edges of a ring

-- no vertex is at the place's height
pub record IsApart (vs : List Point) (p : Place) : Type 0 where
  pub each : (k : ℕ) → above (vertex vs k) p ≢ pos 0

pub record First (vs : List Point) (p : Place) (n : ℕ) : Type 0 where
  pub edge : ℕ
  pub below : edge < n
  pub m : Place
  pub ahead : IsAhead p m
  pub apart : (p.x *ℤ m.w) <ℤ (m.x *ℤ p.w)
  pub on : IsOnEdge (vertex vs edge) (vertex vs (next vs edge)) m
  pub least : (k : ℕ) → k < n → (z : Place) → IsAhead p z → IsOnEdge (vertex vs k) (vertex vs (next vs k)) z → (m.x *ℤ z.w) ≤ℤ (z.x *ℤ m.w)

pub record NoFirst (vs : List Point) (p : Place) (n : ℕ) : Type 0 where
  pub zero_count : crossings vs p n ≡ 0
  pub none : (k : ℕ) → k < n → (z : Place) → IsAhead p z → IsOnEdge (vertex vs k) (vertex vs (next vs k)) z → ⊥

-- fractions: a / b <= c / d <= e / f
pub ordered : (a b c d e f : ℤ) → pos 0 <ℤ b → pos 0 <ℤ d → pos 0 <ℤ f → (a *ℤ d) ≤ℤ (c *ℤ b) → (c *ℤ f) ≤ℤ (e *ℤ d) → (a *ℤ f) ≤ℤ (e *ℤ b)
ordered a b c d e f hb hd hf p q =
    let u = mul-le f (a *ℤ d) (c *ℤ b) (weak hf) p in
    let v = mul-le b (c *ℤ f) (e *ℤ d) (weak hb) q in
    let x : d *ℤ (e *ℤ b -ℤ a *ℤ f) ≡ (b *ℤ (e *ℤ d) -ℤ b *ℤ (c *ℤ f)) +ℤ (f *ℤ (c *ℤ b) -ℤ f *ℤ (a *ℤ d)) = simp expand (omega (arith, polys)) in
    let z = nonneg-of-mul d (e *ℤ b -ℤ a *ℤ f) hd (omega (arith, ints)) in
    omega (arith, ints)

module _ (vs : List Point) (p : Place) (w : pos 0 <ℤ p.w) (apart : IsApart vs p) (off : IsOnRing vs p → ⊥) where
  pub first : (n : ℕ) → n ≤ length vs → First vs p n ⊎ NoFirst vs p n
  unfolding crossings
  first zero h = inr (record { zero_count = refl; none = λ k l. absurd (omega arith) })
  first (suc n) h = elim (hit (vertex vs n) (vertex vs (next vs n)) p w (apart.each n) (apart.each (next vs n)) (λ o. off (record { edge = n; below = omega arith; on = o }))) [
    | inl x ↦ elim (first n (omega arith)) [
      | inl f ↦ by_lt_z (f.m.x *ℤ x.m.w) (x.m.x *ℤ f.m.w)
          (λ l. inl (record {
            edge = f.edge;
            below = (let g = f.below in omega arith);
            m = f.m;
            ahead = f.ahead;
            apart = f.apart;
            on = f.on;
            least = λ k j z a o. elim (cases_lt k n) [
              | inl y ↦ f.least k y z a o
              | inr y ↦ (let e : k ≡ n = omega arith in ordered f.m.x f.m.w x.m.x x.m.w z.x z.w f.ahead.weight x.ahead.weight a.weight (weak l) (x.least z a (subst (λ i. IsOnEdge (vertex vs i) (vertex vs (next vs i)) z) e o)))
            ];
          }))
          (λ l. inl (record {
            edge = n;
            below = omega arith;
            m = x.m;
            ahead = x.ahead;
            apart = x.apart;
            on = x.on;
            least = λ k j z a o. elim (cases_lt k n) [
              | inl y ↦ ordered x.m.x x.m.w f.m.x f.m.w z.x z.w x.ahead.weight f.ahead.weight a.weight l (f.least k y z a o)
              | inr y ↦ (let e : k ≡ n = omega arith in x.least z a (subst (λ i. IsOnEdge (vertex vs i) (vertex vs (next vs i)) z) e o))
            ];
          }))
      | inr f ↦ inl (record {
        edge = n;
        below = omega arith;
        m = x.m;
        ahead = x.ahead;
        apart = x.apart;
        on = x.on;
        least = λ k j z a o. elim (cases_lt k n) [
          | inl y ↦ absurd (f.none k y z a o)
          | inr y ↦ (let e : k ≡ n = omega arith in x.least z a (subst (λ i. IsOnEdge (vertex vs i) (vertex vs (next vs i)) z) e o))
        ];
      })
    ]
    | inr x ↦ elim (first n (omega arith)) [
      | inl f ↦ inl (record {
        edge = f.edge;
        below = (let g = f.below in omega arith);
        m = f.m;
        ahead = f.ahead;
        apart = f.apart;
        on = f.on;
        least = λ k j z a o. elim (cases_lt k n) [
          | inl y ↦ f.least k y z a o
          | inr y ↦ (let e : k ≡ n = omega arith in absurd (x.none z a (subst (λ i. IsOnEdge (vertex vs i) (vertex vs (next vs i)) z) e o)))
        ];
      })
      | inr f ↦ inr (record {
        zero_count = (let u = f.zero_count in let v = x.zero_count in omega arith);
        none = λ k j z a o. elim (cases_lt k n) [
          | inl y ↦ f.none k y z a o
          | inr y ↦ (let e : k ≡ n = omega arith in x.none z a (subst (λ i. IsOnEdge (vertex vs i) (vertex vs (next vs i)) z) e o))
        ];
      })
    ]
  ]
