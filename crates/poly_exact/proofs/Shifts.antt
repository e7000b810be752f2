-- Beside a place strictly inside an edge, in every box round it, are two places off the edge: one that flips the edge's part of the count, and one that keeps it.
use Rattle.std.proofs.Common.{◌≡◌, ℕ, true, false, refl, sym, ap, ◌∙◌, arith, ◌⊎◌, inl, inr}
use Rattle.std.specs.Prelude.{int_lt}
use lib.IntN.{ℤ, pos, negsuc, ◌+ℤ◌, ◌-ℤ◌, ◌*ℤ◌, neg_ℤ, *ℤ_comm, *ℤ-zero, zero-*ℤ}
use lib.Signed.{◌<ℤ◌, ◌≤ℤ◌}
use borrow.Author.Differences.{ints}
use Rattle.std.proofs.lemmas.Int.{by_lt_z, clamps}
use Rattle.std.proofs.lemmas.Bool.{false≢true}
use Rattle.poly_exact.specs.declared.points.Point.{Point}
use Rattle.poly_exact.specs.Places.{Place, above, turn, IsOnEdge, IsInside, is_under, IsNear}
use Rattle.poly_exact.proofs.Whole.{weak, expand, polys, neg-mul, mul-neg, mul-nonneg, mul-pos, mul-neg-pos, mul-pos-neg, mul-neg-neg, pos-of-mul, neg-of-mul}
use Rattle.poly_exact.proofs.Crossings.{side, turn-reversed, IsOnEdge-reversed}
use Rattle.poly_exact.proofs.EdgeLaw.{AreOrdered, under_yes, yes_under, counted-reversed, same_tests}
use Rattle.poly_exact.proofs.Flips.{Law, left_rising, right_of_rising, inside_first, inside_second, below_level, above_level}

-- the place one n-th to the right (dx = 1), the left (-1), higher or lower
abbrev pub shifted : ℤ → ℤ → ℤ → Place → Place
shifted n dx dy m = record { x = n *ℤ m.x +ℤ dx *ℤ m.w; y = n *ℤ m.y +ℤ dy *ℤ m.w; w = n *ℤ m.w }

shift_right : (n d x w : ℤ) → n *ℤ ((n *ℤ x +ℤ d *ℤ w) *ℤ w -ℤ x *ℤ (n *ℤ w)) ≡ d *ℤ (n *ℤ (w *ℤ w))
shift_right n d x w =
    let e : (n *ℤ x +ℤ d *ℤ w) *ℤ w -ℤ x *ℤ (n *ℤ w) ≡ d *ℤ (w *ℤ w) = simp expand (omega (arith, polys)) in
    rw e (omega (arith, polys))

shift_left : (n d x w : ℤ) → n *ℤ (x *ℤ (n *ℤ w) -ℤ (n *ℤ x +ℤ d *ℤ w) *ℤ w) ≡ neg_ℤ d *ℤ (n *ℤ (w *ℤ w))
shift_left n d x w =
    let e : x *ℤ (n *ℤ w) -ℤ (n *ℤ x +ℤ d *ℤ w) *ℤ w ≡ neg_ℤ d *ℤ (w *ℤ w) = simp expand (omega (arith, polys)) in
    rw e (simp expand (omega (arith, polys)))

at_most_once : (d n w : ℤ) → pos 0 <ℤ n → pos 0 <ℤ w → d ≤ℤ pos 1 → (d *ℤ (n *ℤ (w *ℤ w))) ≤ℤ (w *ℤ (n *ℤ w))
at_most_once d n w h k e =
    let s : pos 0 <ℤ (n *ℤ (w *ℤ w)) = mul-pos n (w *ℤ w) h (mul-pos w w k k) in
    let f : w *ℤ (n *ℤ w) ≡ n *ℤ (w *ℤ w) = omega (arith, polys) in
    let g : (pos 1 -ℤ d) *ℤ (n *ℤ (w *ℤ w)) ≡ n *ℤ (w *ℤ w) -ℤ d *ℤ (n *ℤ (w *ℤ w)) = simp expand (omega (arith, polys)) in
    omega (arith, ints, f, g, mul-nonneg (pos 1 -ℤ d) (n *ℤ (w *ℤ w)) (omega (arith, ints)) (weak s))

pub IsNear-shifted : (n dx dy : ℤ) (m : Place) → pos 0 <ℤ n → pos 0 <ℤ m.w → dx ≤ℤ pos 1 → neg_ℤ dx ≤ℤ pos 1 → dy ≤ℤ pos 1 → neg_ℤ dy ≤ℤ pos 1 → IsNear n m (shifted n dx dy m)
IsNear-shifted n dx dy m h w a b c d = record {
  weight = mul-pos n m.w h w;
  right = rw (shift_right n dx m.x m.w) (at_most_once dx n m.w h w a);
  left = rw (shift_left n dx m.x m.w) (at_most_once (neg_ℤ dx) n m.w h w b);
  higher = rw (shift_right n dy m.y m.w) (at_most_once dy n m.w h w c);
  lower = rw (shift_left n dy m.y m.w) (at_most_once (neg_ℤ dy) n m.w h w d);
}

simple : (n u d w dy v dx : ℤ) → (n *ℤ u -ℤ d *ℤ w) *ℤ dy +ℤ (n *ℤ v) *ℤ dx ≡ n *ℤ (u *ℤ dy +ℤ v *ℤ dx) -ℤ d *ℤ (w *ℤ dy)
simple n u d w dy v dx = simp expand (omega (arith, polys))

turn_shift : (ax ay dx dy n d mx my mw : ℤ) → (ax *ℤ (n *ℤ mw) -ℤ (n *ℤ mx +ℤ d *ℤ mw)) *ℤ dy +ℤ ((n *ℤ my +ℤ pos 0 *ℤ mw) -ℤ ay *ℤ (n *ℤ mw)) *ℤ dx ≡ n *ℤ ((ax *ℤ mw -ℤ mx) *ℤ dy +ℤ (my -ℤ ay *ℤ mw) *ℤ dx) -ℤ d *ℤ (mw *ℤ dy)
turn_shift ax ay dx dy n d mx my mw =
    let e : ax *ℤ (n *ℤ mw) -ℤ (n *ℤ mx +ℤ d *ℤ mw) ≡ n *ℤ (ax *ℤ mw -ℤ mx) -ℤ d *ℤ mw = simp expand (omega (arith, polys)) in
    let f : (n *ℤ my +ℤ pos 0 *ℤ mw) -ℤ ay *ℤ (n *ℤ mw) ≡ n *ℤ (my -ℤ ay *ℤ mw) = simp expand (omega (arith, polys, zero-*ℤ mw)) in
    rw (e, f) (simple n (ax *ℤ mw -ℤ mx) d mw dy (my -ℤ ay *ℤ mw) dx)

pub above_shift : (n d my mw ay : ℤ) → (n *ℤ my +ℤ d *ℤ mw) -ℤ ay *ℤ (n *ℤ mw) ≡ n *ℤ (my -ℤ ay *ℤ mw) +ℤ d *ℤ mw
above_shift n d my mw ay = simp expand (omega (arith, polys))

-- the two places, off the edge; the second may stand before m or after it in the law
pub record Flanks (a b : Point) (m : Place) (n : ℤ) : Type 0 where
  pub p : Place
  pub q : Place
  pub near_p : IsNear n m p
  pub near_q : IsNear n m q
  pub off_p : IsOnEdge a b p → ⊥
  pub off_q : IsOnEdge a b q → ⊥
  pub apart : ((pos 0 <ℤ turn a b p) × (turn a b q <ℤ pos 0)) ⊎ ((turn a b p <ℤ pos 0) × (pos 0 <ℤ turn a b q))
  pub order : AreOrdered p m
  pub flips : Law a b p m 1
  pub keeps : (AreOrdered q m × Law a b q m 0) ⊎ (AreOrdered m q × Law a b m q 0)

one_time : (u : ℤ) → (negsuc 0 *ℤ u ≡ neg_ℤ u) × (pos 1 *ℤ u ≡ u)
one_time u = (omega (arith, ints), omega (arith, ints))

pub same_height : (n my mw : ℤ) → (n *ℤ my +ℤ pos 0 *ℤ mw) *ℤ mw ≡ my *ℤ (n *ℤ mw)
same_height n my mw = simp expand (omega (arith, polys, zero-*ℤ (mw *ℤ mw)))

lower_height : (n d my mw : ℤ) → (n *ℤ my +ℤ d *ℤ mw) *ℤ mw ≡ my *ℤ (n *ℤ mw) +ℤ d *ℤ (mw *ℤ mw)
lower_height n d my mw = simp expand (omega (arith, polys))

flanks_rising : (a b : Point) (m : Place) (n : ℤ) → pos 0 <ℤ (b.y -ℤ a.y) → pos 0 <ℤ m.w → pos 0 <ℤ n → IsInside a b m → Flanks a b m n
flanks_rising a b m n rise w h i =
    let line = i.on.line in
    let big = mul-pos m.w (b.y -ℤ a.y) w rise in
    let l = shifted n (negsuc 0) (pos 0) m in
    let r = shifted n (pos 1) (pos 0) m in
    let sl = turn_shift a.x a.y (b.x -ℤ a.x) (b.y -ℤ a.y) n (negsuc 0) m.x m.y m.w in
    let sr = turn_shift a.x a.y (b.x -ℤ a.x) (b.y -ℤ a.y) n (pos 1) m.x m.y m.w in
    let z : n *ℤ turn a b m ≡ pos 0 = rw line (*ℤ-zero n) in
    let ol = one_time (m.w *ℤ (b.y -ℤ a.y)) in
    let tl : pos 0 <ℤ turn a b l = omega (arith, ints, sl, z, ol.0) in
    let tr : turn a b r <ℤ pos 0 = omega (arith, ints, sr, z, ol.1) in
    let ua = inside_first a b m rise w i in
    let ub = inside_second a b m rise w i in
    let hw = mul-pos n m.w h w in
    record {
      p = l;
      q = r;
      near_p = IsNear-shifted n (negsuc 0) (pos 0) m h w (omega (arith, ints)) (omega (arith, ints)) (omega (arith, ints)) (omega (arith, ints));
      near_q = IsNear-shifted n (pos 1) (pos 0) m h w (omega (arith, ints)) (omega (arith, ints)) (omega (arith, ints)) (omega (arith, ints));
      off_p = λ o. (let e = o.line in omega (arith, ints));
      off_q = λ o. (let e = o.line in omega (arith, ints));
      apart = inl (tl, tr);
      order = record { first = hw; second = w; order = (let e = same_height n m.y m.w in omega (arith, ints)) };
      flips = left_rising a b l m hw w (same_height n m.y m.w) rise line ua ub tl;
      keeps = inl (record { first = hw; second = w; order = (let e = same_height n m.y m.w in omega (arith, ints)) }, right_of_rising a b r m hw w (same_height n m.y m.w) rise line ua ub (weak tr));
    }

pub Law-reversed : (a b : Point) (p m : Place) (x : ℕ) → a.y <ℤ b.y → Law a b p m x → Law b a p m x
Law-reversed a b p m x h l = rw (counted-reversed a b p h, counted-reversed a b m h) (omega arith)

Flanks-reversed : (a b : Point) (m : Place) (n : ℤ) → a.y <ℤ b.y → Flanks a b m n → Flanks b a m n
Flanks-reversed a b m n h f = record {
  p = f.p;
  q = f.q;
  near_p = f.near_p;
  near_q = f.near_q;
  off_p = λ o. f.off_p (IsOnEdge-reversed b a f.p o);
  off_q = λ o. f.off_q (IsOnEdge-reversed b a f.q o);
  apart = (let u = turn-reversed a b f.p in let v = turn-reversed a b f.q in elim f.apart [
    | inl t ↦ (let t0 = t.0 in let t1 = t.1 in inr (omega (arith, ints), omega (arith, ints)))
    | inr t ↦ (let t0 = t.0 in let t1 = t.1 in inl (omega (arith, ints), omega (arith, ints)))
  ]);
  order = f.order;
  flips = Law-reversed a b f.p m 1 h f.flips;
  keeps = elim f.keeps [ inl l ↦ inl (l.0, Law-reversed a b f.q m 0 h l.1) | inr l ↦ inr (l.0, Law-reversed a b m f.q 0 h l.1) ];
}

pub IsInside-reversed : (a b : Point) (m : Place) → IsInside a b m → IsInside b a m
IsInside-reversed a b m i = record { on = IsOnEdge-reversed a b m i.on; from_first = i.from_second; from_second = i.from_first }

-- ---- a level edge

pub level_height : (a b : Point) (m : Place) → b.y ≡ a.y → IsOnEdge a b m → above a m ≡ pos 0
level_height a b m e o =
    let l = o.along.least in
    let g = o.along.greatest in
    let f : b.y *ℤ m.w ≡ a.y *ℤ m.w = ap (λ z. z *ℤ m.w) e in
    omega (arith, ints, clamps)

side_below : (v : Point) (m : Place) (n : ℤ) → above v m ≡ pos 0 → side (shifted n (pos 0) (negsuc 0) m) m v ≡ m.w *ℤ (m.x -ℤ v.x *ℤ m.w)
side_below v m n e =
    let x = m.x -ℤ v.x *ℤ m.w in
    let f : (n *ℤ m.y +ℤ negsuc 0 *ℤ m.w) -ℤ v.y *ℤ (n *ℤ m.w) ≡ neg_ℤ m.w = above_shift n (negsuc 0) m.y m.w v.y ∙ rw e (omega (arith, ints, *ℤ-zero n, one_time m.w)) in
    let u = (n *ℤ m.x +ℤ pos 0 *ℤ m.w) -ℤ v.x *ℤ (n *ℤ m.w) in
    let g : u *ℤ pos 0 -ℤ neg_ℤ m.w *ℤ x ≡ m.w *ℤ x = omega (arith, ints, *ℤ-zero u, neg-mul m.w x) in
    rw (e, f) g

signs_of : (xa xb dx : ℤ) → pos 0 <ℤ (xa *ℤ dx) → pos 0 <ℤ (xb *ℤ neg_ℤ dx) → ((pos 0 <ℤ xa) × (xb <ℤ pos 0)) ⊎ ((xa <ℤ pos 0) × (pos 0 <ℤ xb))
signs_of xa xb dx h k =
    let l = mul-neg xb dx in
    by_lt_z (pos 0) dx
    (λ p. inl (pos-of-mul dx xa (weak p) (rw (*ℤ_comm dx xa) h), neg-of-mul dx xb (weak p) (rw (*ℤ_comm dx xb) (omega (arith, ints)))))
    (λ n. let d : pos 0 ≤ℤ neg_ℤ dx = omega (arith, ints) in
    inr (neg-of-mul (neg_ℤ dx) xa d (rw (neg-mul dx xa, *ℤ_comm dx xa) (omega (arith, ints))), pos-of-mul (neg_ℤ dx) xb d (rw (*ℤ_comm (neg_ℤ dx) xb) k)))

level_apart : (u v d y z x : ℤ) → d ≡ pos 0 → y <ℤ pos 0 → pos 0 <ℤ z → (x ≡ pos 0 → ⊥)
    → ((pos 0 <ℤ (u *ℤ d +ℤ y *ℤ x)) × ((v *ℤ d +ℤ z *ℤ x) <ℤ pos 0)) ⊎ (((u *ℤ d +ℤ y *ℤ x) <ℤ pos 0) × (pos 0 <ℤ (v *ℤ d +ℤ z *ℤ x)))
level_apart u v d y z x e h k n =
    let f : u *ℤ d ≡ pos 0 = rw e (*ℤ-zero u) in
    let g : v *ℤ d ≡ pos 0 = rw e (*ℤ-zero v) in
    by_lt_z x (pos 0)
    (λ l. let p = mul-neg-neg y x h l in let q = mul-pos-neg z x k l in inl (omega (arith, ints), omega (arith, ints)))
    (λ l. by_lt_z (pos 0) x
    (λ r. let p = mul-neg-pos y x h r in let q = mul-pos z x k r in inr (omega (arith, ints), omega (arith, ints)))
    (λ r. absurd (n (omega (arith, ints)))))

flanks_level : (a b : Point) (m : Place) (n : ℤ) → b.y ≡ a.y → pos 0 <ℤ m.w → pos 0 <ℤ n → IsInside a b m → Flanks a b m n
flanks_level a b m n e w h i =
    let za = level_height a b m e i.on in
    let zb : above b m ≡ pos 0 = ap (λ z. m.y -ℤ z *ℤ m.w) e ∙ za in
    let d : b.y -ℤ a.y ≡ pos 0 = omega (arith, ints) in
    let xa = m.x -ℤ a.x *ℤ m.w in
    let xb = m.x -ℤ b.x *ℤ m.w in
    let l = shifted n (pos 0) (negsuc 0) m in
    let o = shifted n (pos 0) (pos 1) m in
    let ra : pos 0 <ℤ (xa *ℤ (b.x -ℤ a.x)) = let r = i.from_first in omega (arith, ints, ap (λ z. z *ℤ (b.y -ℤ a.y)) za, zero-*ℤ (b.y -ℤ a.y)) in
    let rb : pos 0 <ℤ (xb *ℤ neg_ℤ (b.x -ℤ a.x)) =
    let f : a.x -ℤ b.x ≡ neg_ℤ (b.x -ℤ a.x) = omega (arith, ints) in
    let r = i.from_second in rw (← f) (omega (arith, ints, ap (λ z. z *ℤ (a.y -ℤ b.y)) zb, zero-*ℤ (a.y -ℤ b.y))) in
    let sa = side_below a m n za in
    let sb = side_below b m n zb in
    let al = above_shift n (negsuc 0) m.y m.w a.y in
    let ao = above_shift n (pos 1) m.y m.w a.y in
    let nz : n *ℤ above a m ≡ pos 0 = rw za (*ℤ-zero n) in
    let one = one_time m.w in
    let hw = mul-pos n m.w h w in
    let under_l : is_under a l ≡ false = same_tests (is_under a l) false (λ t f. let y = under_yes a l t in absurd (omega (arith, ints))) (λ f t. absurd (false≢true t)) in
    record {
      p = l;
      q = o;
      near_p = IsNear-shifted n (pos 0) (negsuc 0) m h w (omega (arith, ints)) (omega (arith, ints)) (omega (arith, ints)) (omega (arith, ints));
      near_q = IsNear-shifted n (pos 0) (pos 1) m h w (omega (arith, ints)) (omega (arith, ints)) (omega (arith, ints)) (omega (arith, ints));
      off_p = λ r. (let y = level_height a b l e r in omega (arith, ints));
      off_q = λ r. (let y = level_height a b o e r in omega (arith, ints));
      apart = level_apart (a.x *ℤ (n *ℤ m.w) -ℤ l.x) (a.x *ℤ (n *ℤ m.w) -ℤ o.x) (b.y -ℤ a.y) (above a l) (above a o) (b.x -ℤ a.x) d (omega (arith, ints)) (omega (arith, ints)) (λ z. (let c = ap (λ t. xa *ℤ t) z in omega (arith, ints, *ℤ-zero xa)));
      order = record { first = hw; second = w; order = (let e = lower_height n (negsuc 0) m.y m.w in let f = one_time (m.w *ℤ m.w) in let g = mul-pos m.w m.w w w in omega (arith, ints)) };
      flips = below_level a b l m e under_l (yes_under a m (omega (arith, ints))) (elim (signs_of xa xb (b.x -ℤ a.x) ra rb) [
        | inl s ↦ (let u = mul-pos m.w xa w s.0 in let v = mul-pos-neg m.w xb w s.1 in
            let f : int_lt (side l m a) (pos 0) ≡ false = sym (omega (arith, ints)) in
            let g : int_lt (side l m b) (pos 0) ≡ true = sym (omega (arith, ints)) in rw (f, g) refl)
        | inr s ↦ (let u = mul-pos-neg m.w xa w s.0 in let v = mul-pos m.w xb w s.1 in
            let f : int_lt (side l m a) (pos 0) ≡ true = sym (omega (arith, ints)) in
            let g : int_lt (side l m b) (pos 0) ≡ false = sym (omega (arith, ints)) in rw (f, g) refl)
      ]);
      keeps = inr (record { first = w; second = hw; order = (let e = lower_height n (pos 1) m.y m.w in let f = one_time (m.w *ℤ m.w) in let g = mul-pos m.w m.w w w in omega (arith, ints)) }, above_level a b o m e (yes_under a o (omega (arith, ints))) (yes_under a m (omega (arith, ints))));
    }

pub flanks : (a b : Point) (m : Place) (n : ℤ) → pos 0 <ℤ m.w → pos 0 <ℤ n → IsInside a b m → Flanks a b m n
flanks a b m n w h i = by_lt_z a.y b.y
    (λ l. flanks_rising a b m n (omega (arith, ints)) w h i)
    (λ l. by_lt_z b.y a.y
    (λ k. Flanks-reversed b a m n k (flanks_rising b a m n (omega (arith, ints)) w h (IsInside-reversed a b m i)))
    (λ k. flanks_level a b m n (omega (arith, ints)) w h i))
