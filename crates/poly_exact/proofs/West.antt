-- The count at a place strictly inside an edge is that at every other place inside the edge; a place at its left, with nothing of the ring between, has the other parity.
use Rattle.std.proofs.Common.{◌≡◌, ◌≢◌, ℕ, ◌+◌, ◌%◌, ◌<◌, Bool, true, false, cond, List, length, refl, sym, ap, ◌∙◌, arith}
use Rattle.std.specs.Prelude.{int_lt}
use lib.IntN.{ℤ, pos, ◌+ℤ◌, ◌-ℤ◌, ◌*ℤ◌, neg_ℤ, *ℤ-zero, zero-*ℤ}
use lib.Signed.{◌<ℤ◌, ◌≤ℤ◌}
use borrow.Author.Differences.{ints}
use Rattle.std.proofs.lemmas.Int.{by_lt_z}
use Rattle.poly_exact.specs.declared.points.Point.{Point}
use Rattle.poly_exact.specs.Places.{Place, above, turn, IsOnEdge, IsInside, IsClear, is_under, counted, between}
use Rattle.poly_exact.specs.Rings.{vertex, next, crossings, IsSimple}
use Rattle.poly_exact.proofs.Whole.{weak, mul-pos, zero-of-mul, pos-of-mul, neg-mul}
use Rattle.poly_exact.proofs.Crossings.{side, plane_first, IsOnEdge-reversed}
use Rattle.poly_exact.proofs.EdgeLaw.{AreOrdered, count_of, inside, inside_of, edge_law}
use Rattle.poly_exact.proofs.RingLaw.{one_law}
use Rattle.poly_exact.proofs.Boxes.{moved}
use Rattle.poly_exact.proofs.Local.{mixed_weight}
use Rattle.poly_exact.proofs.Inner.{IsOnEdge-between, reach-between}
use Rattle.poly_exact.proofs.Flips.{Law, left_rising, inside_first, inside_second}
use Rattle.poly_exact.proofs.Shifts.{IsInside-reversed, Law-reversed, level_height}
use Rattle.poly_exact.proofs.Sides.{alone}

-- ---- an edge that both places are on counts for neither

no_right : (t : Bool) → cond t false false ≡ false
no_right true = refl
no_right false = refl

pub no_count : (ua ub : Bool) → count_of ua ub false ≡ 0
no_count true true = refl
no_count true false = refl
no_count false true = refl
no_count false false = refl

no_inside : (up uq : Bool) → inside_of up uq false ≡ 0
no_inside true uq = refl
no_inside false true = refl
no_inside false false = refl

pub counted-line : (a b : Point) (p : Place) → turn a b p ≡ pos 0 → counted a b p ≡ 0
counted-line a b p e = rw (e, no_right (int_lt a.y b.y)) (no_count (is_under a p) (is_under b p))

inside-side : (p q : Place) (v : Point) → side p q v ≡ pos 0 → inside p q v ≡ 0
inside-side p q v e = rw e (no_inside (is_under v p) (is_under v q))

side_zero : (a b : Point) (p q : Place) → IsOnEdge a b p → IsOnEdge a b q → side p q a ≡ pos 0
side_zero a b p q o r =
    let f = plane_first a b p q in
    let z : (b.y -ℤ a.y) *ℤ side p q a ≡ pos 0 = sym f ∙ (λ i. r.line i *ℤ above a p -ℤ o.line i *ℤ above a q) ∙ omega (arith, ints, zero-*ℤ (above a p), zero-*ℤ (above a q)) in
    by_lt_z a.y b.y
    (λ l. zero-of-mul (b.y -ℤ a.y) (side p q a) (omega (arith, ints)) z)
    (λ l. by_lt_z b.y a.y
    (λ k. zero-of-mul (neg_ℤ (b.y -ℤ a.y)) (side p q a) (omega (arith, ints)) (neg-mul (b.y -ℤ a.y) (side p q a) ∙ ap neg_ℤ z))
    (λ k. let e : b.y ≡ a.y = omega (arith, ints) in
    let u = level_height a b p e o in
    let v = level_height a b q e r in
    rw (u, v) (omega (arith, ints, *ℤ-zero (p.x -ℤ a.x *ℤ p.w), zero-*ℤ (q.x -ℤ a.x *ℤ q.w)))))

line_law : (a b : Point) (p q : Place) → IsOnEdge a b p → IsOnEdge a b q → Law a b p q 0
line_law a b p q o r =
    let e = counted-line a b p o.line in
    let f = counted-line a b q r.line in
    let g = inside-side p q a (side_zero a b p q o r) in
    let h = inside-side p q b (side_zero b a p q (IsOnEdge-reversed a b p o) (IsOnEdge-reversed a b q r)) in
    omega arith

pub IsInside-between : (a b : Point) (s t : ℤ) (p q : Place) → pos 0 ≤ℤ s → pos 0 ≤ℤ t → pos 0 <ℤ (s +ℤ t) → pos 0 <ℤ p.w → pos 0 <ℤ q.w → IsInside a b p → IsInside a b q → IsInside a b (between s t p q)
IsInside-between a b s t p q h k l x y i j = record {
  on = IsOnEdge-between a b s t p q h k x y i.on j.on;
  from_first = rw (reach-between a b s t p q) (mixed_weight s t _ _ h k l i.from_first j.from_first);
  from_second = rw (reach-between b a s t p q) (mixed_weight s t _ _ h k l i.from_second j.from_second);
}

module _ (vs : List Point) (simple : IsSimple vs) (e : ℕ) (b : e < length vs) where
  ordered : (p q : Place) → pos 0 <ℤ p.w → pos 0 <ℤ q.w → IsInside (vertex vs e) (vertex vs (next vs e)) p → IsInside (vertex vs e) (vertex vs (next vs e)) q → AreOrdered p q → (crossings vs p (length vs) + crossings vs q (length vs)) % 2 ≡ 0
  ordered p q x y i j o =
      let r = one_law vs p q e 0 b (λ k h n. edge_law _ _ p q o (record {
        none = λ s t u v w g.
            alone vs simple e b (between s t p q) (mixed_weight s t p.w q.w u v w x y) (IsInside-between _ _ s t p q u v w x y i j) k h n g;
      }))
      (line_law _ _ p q i.on j.on) in
      omega arith

  pub along_law : (p q : Place) → pos 0 <ℤ p.w → pos 0 <ℤ q.w → IsInside (vertex vs e) (vertex vs (next vs e)) p → IsInside (vertex vs e) (vertex vs (next vs e)) q → (crossings vs p (length vs) + crossings vs q (length vs)) % 2 ≡ 0
  along_law p q x y i j = by_lt_z (q.y *ℤ p.w) (p.y *ℤ q.w)
      (λ l. let r = ordered q p y x j i (record { first = y; second = x; order = weak l }) in omega arith)
      (λ l. ordered p q x y i j (record { first = x; second = y; order = l }))

-- ---- a place at the left

pub left_turn : (a b : Point) (p m : Place) → pos 0 <ℤ (b.y -ℤ a.y) → pos 0 <ℤ m.w → turn a b m ≡ pos 0 → p.y *ℤ m.w ≡ m.y *ℤ p.w → (p.x *ℤ m.w) <ℤ (m.x *ℤ p.w) → pos 0 <ℤ turn a b p
left_turn a b p m rise w line height left =
    let f = moved (b.x -ℤ a.x) (b.y -ℤ a.y) a m p in
    let z : p.y *ℤ m.w -ℤ m.y *ℤ p.w ≡ pos 0 = omega (arith, ints) in
    let y : (b.x -ℤ a.x) *ℤ (p.y *ℤ m.w -ℤ m.y *ℤ p.w) ≡ pos 0 = rw z (*ℤ-zero (b.x -ℤ a.x)) in
    let x : p.w *ℤ turn a b m ≡ pos 0 = rw line (*ℤ-zero p.w) in
    let g = mul-pos (b.y -ℤ a.y) (m.x *ℤ p.w -ℤ p.x *ℤ m.w) rise (omega (arith, ints)) in
    pos-of-mul m.w (turn a b p) (weak w) (omega (arith, ints))

pub ray_edge : (a b : Point) (p m : Place) → a.y ≢ b.y → pos 0 <ℤ p.w → pos 0 <ℤ m.w → IsInside a b m → p.y *ℤ m.w ≡ m.y *ℤ p.w → (p.x *ℤ m.w) <ℤ (m.x *ℤ p.w) → Law a b p m 1
ray_edge a b p m n pw mw i height left = by_lt_z a.y b.y
    (λ l. let rise : pos 0 <ℤ (b.y -ℤ a.y) = omega (arith, ints) in
    left_rising a b p m pw mw height rise i.on.line (inside_first a b m rise mw i) (inside_second a b m rise mw i) (left_turn a b p m rise mw i.on.line height left))
    (λ l. by_lt_z b.y a.y
    (λ k. let rise : pos 0 <ℤ (a.y -ℤ b.y) = omega (arith, ints) in let j = IsInside-reversed a b m i in
    Law-reversed b a p m 1 k (left_rising b a p m pw mw height rise j.on.line (inside_first b a m rise mw j) (inside_second b a m rise mw j) (left_turn b a p m rise mw j.on.line height left)))
    (λ k. absurd (n (omega (arith, ints)))))

-- all other edges of the ring are clear of the way from p to m
pub ray_law : (vs : List Point) (e : ℕ) (p m : Place) → e < length vs → (vertex vs e).y ≢ (vertex vs (next vs e)).y → pos 0 <ℤ p.w → pos 0 <ℤ m.w → IsInside (vertex vs e) (vertex vs (next vs e)) m
    → p.y *ℤ m.w ≡ m.y *ℤ p.w → (p.x *ℤ m.w) <ℤ (m.x *ℤ p.w) → ((k : ℕ) → k < length vs → k ≢ e → IsClear p m (vertex vs k) (vertex vs (next vs k))) → (crossings vs p (length vs) + crossings vs m (length vs)) % 2 ≡ 1
ray_law vs e p m b n pw mw i height left clear =
    let r = one_law vs p m e 1 b (λ k h d. edge_law _ _ p m (record { first = pw; second = mw; order = omega (arith, ints) }) (clear k h d)) (ray_edge _ _ p m n pw mw i height left) in
    omega arith

-- the count may be taken at any place strictly inside the edge, as its middle
pub count_along : (vs : List Point) → IsSimple vs → (e : ℕ) → e < length vs → (m n : Place) → pos 0 <ℤ m.w → pos 0 <ℤ n.w
    → IsInside (vertex vs e) (vertex vs (next vs e)) m → IsInside (vertex vs e) (vertex vs (next vs e)) n → crossings vs m (length vs) % 2 ≡ crossings vs n (length vs) % 2
count_along vs s e b m n x y i j = let l = along_law vs s e b m n x y i j in omega arith
