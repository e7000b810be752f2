-- Near a place strictly inside an edge, all places at one side of the edge lie alike to the ring, and those at the other side otherwise.
use Rattle.std.proofs.Common.{◌≡◌, ◌≢◌, ℕ, ◌+◌, ◌%◌, ◌<◌, List, length, subst, arith, inl, inr}
use lib.IntN.{ℤ, pos, ◌+ℤ◌, ◌*ℤ◌}
use lib.Signed.{◌<ℤ◌, ◌≤ℤ◌}
use borrow.Author.Differences.{ints}
use Rattle.std.proofs.lemmas.Int.{by_lt_z}
use Rattle.std.proofs.lemmas.Bool.{cases_eq}
use Rattle.poly_exact.specs.declared.points.Point.{Point}
use Rattle.poly_exact.specs.Places.{Place, turn, IsOnEdge, IsInside, IsNear, Near, between}
use Rattle.poly_exact.specs.Rings.{vertex, next, crossings, IsSimple}
use Rattle.poly_exact.proofs.Whole.{weak, mul-pn, mul-pos-neg}
use Rattle.poly_exact.proofs.Crossings.{turn-between}
use Rattle.poly_exact.proofs.EdgeLaw.{edge_law}
use Rattle.poly_exact.proofs.RingLaw.{IsClearOf, segment_law, one_law, IsClear-swapped}
use Rattle.poly_exact.proofs.Local.{near_clear, IsNear-between, mixed_weight}
use Rattle.poly_exact.proofs.Sides.{others}
use Rattle.poly_exact.proofs.Shifts.{Flanks, flanks}

-- signs along a segment
mixed_pos : (s t u v : ℤ) → pos 0 ≤ℤ s → pos 0 ≤ℤ t → pos 0 <ℤ (s +ℤ t) → pos 0 <ℤ u → pos 0 <ℤ v → pos 0 <ℤ (s *ℤ u +ℤ t *ℤ v)
mixed_pos s t u v h k l x y = mixed_weight s t u v h k l x y

mixed_neg : (s t u v : ℤ) → pos 0 ≤ℤ s → pos 0 ≤ℤ t → pos 0 <ℤ (s +ℤ t) → u <ℤ pos 0 → v <ℤ pos 0 → (s *ℤ u +ℤ t *ℤ v) <ℤ pos 0
mixed_neg s t u v h k l x y = by_lt_z (pos 0) s
    (λ m. omega (arith, ints, mul-pos-neg s u m x, mul-pn t v k (weak y)))
    (λ m. omega (arith, ints, mul-pn s u h (weak x), mul-pos-neg t v (omega (arith, ints)) y))

module _ (vs : List Point) (simple : IsSimple vs) (e : ℕ) (b : e < length vs) (m : Place) (w : pos 0 <ℤ m.w) (i : IsInside (vertex vs e) (vertex vs (next vs e)) m) where
  pub box : Near m (λ p. (k : ℕ) → k < length vs → k ≢ e → IsOnEdge (vertex vs k) (vertex vs (next vs k)) p → ⊥)
  box = others vs simple e b m w i

  clear_of : (u v : Place) → IsNear box.n m u → IsNear box.n m v → ((s t : ℤ) → pos 0 ≤ℤ s → pos 0 ≤ℤ t → pos 0 <ℤ (s +ℤ t) → turn (vertex vs e) (vertex vs (next vs e)) (between s t u v) ≡ pos 0 → ⊥) → IsClearOf vs u v
  clear_of u v p q off = record {
    each = λ k h. record {
      none = λ s t x y z o. elim (cases_eq k e) [
        | inl r ↦ off s t x y z (subst (λ j. turn (vertex vs j) (vertex vs (next vs j)) (between s t u v) ≡ pos 0) r o.line)
        | inr r ↦ box.each (between s t u v) (IsNear-between box.n s t m u v x y z p q) k h r o
      ];
    };
  }

  pub left_alike : (u v : Place) → IsNear box.n m u → IsNear box.n m v → pos 0 <ℤ turn (vertex vs e) (vertex vs (next vs e)) u → pos 0 <ℤ turn (vertex vs e) (vertex vs (next vs e)) v → (crossings vs u (length vs) + crossings vs v (length vs)) % 2 ≡ 0
  left_alike u v p q h k = segment_law vs u v p.weight q.weight (clear_of u v p q (λ s t x y z o.
      (let f = turn-between (vertex vs e) (vertex vs (next vs e)) s t u v in let g = mixed_pos s t _ _ x y z h k in omega (arith, ints))))

  pub right_alike : (u v : Place) → IsNear box.n m u → IsNear box.n m v → turn (vertex vs e) (vertex vs (next vs e)) u <ℤ pos 0 → turn (vertex vs e) (vertex vs (next vs e)) v <ℤ pos 0 → (crossings vs u (length vs) + crossings vs v (length vs)) % 2 ≡ 0
  right_alike u v p q h k = segment_law vs u v p.weight q.weight (clear_of u v p q (λ s t x y z o.
      (let f = turn-between (vertex vs e) (vertex vs (next vs e)) s t u v in let g = mixed_neg s t _ _ x y z h k in omega (arith, ints))))

  -- what the two flanks count
  pub flip_count : (f : Flanks (vertex vs e) (vertex vs (next vs e)) m box.n) → (crossings vs f.p (length vs) + crossings vs m (length vs) + 1) % 2 ≡ 0
  flip_count f = one_law vs f.p m e 1 b (λ j l d. edge_law _ _ f.p m f.order (near_clear box.n _ _ m f.p (λ q y. box.each q y j l d) w f.near_p)) f.flips

  pub keep_count : (f : Flanks (vertex vs e) (vertex vs (next vs e)) m box.n) → (crossings vs f.q (length vs) + crossings vs m (length vs)) % 2 ≡ 0
  keep_count f = elim f.keeps [
    | inl t ↦ (let r = one_law vs f.q m e 0 b (λ j l d. edge_law _ _ f.q m t.0 (near_clear box.n _ _ m f.q (λ q y. box.each q y j l d) w f.near_q)) t.1 in omega arith)
    | inr t ↦ (let r = one_law vs m f.q e 0 b (λ j l d. edge_law _ _ m f.q t.0 (IsClear-swapped f.q m _ _ (near_clear box.n _ _ m f.q (λ q y. box.each q y j l d) w f.near_q))) t.1 in omega arith)
  ]

  pub opposite : (u v : Place) → IsNear box.n m u → IsNear box.n m v → pos 0 <ℤ turn (vertex vs e) (vertex vs (next vs e)) u → turn (vertex vs e) (vertex vs (next vs e)) v <ℤ pos 0 → (crossings vs u (length vs) + crossings vs v (length vs)) % 2 ≡ 1
  opposite u v p q h k =
      let f = flanks (vertex vs e) (vertex vs (next vs e)) m box.n w box.some i in
      let x = flip_count f in
      let y = keep_count f in
      elim f.apart [
        | inl t ↦ (let l = left_alike u f.p p f.near_p h t.0 in let r = right_alike v f.q q f.near_q k t.1 in omega arith)
        | inr t ↦ (let l = left_alike u f.q p f.near_q h t.1 in let r = right_alike v f.p q f.near_p k t.0 in omega arith)
      ]
