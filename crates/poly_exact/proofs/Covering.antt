-- A rectangle that covers the ends of the edges read so far; what lies off it.
use Rattle.std.proofs.Common.{◌≡◌, refl, sym, ap, ◌∙◌, subst, arith, inl, inr, ℕ, ◌+◌, ◌*◌, ◌<◌, ◌≤◌, List, [], ◌∷◌, ◌++◌, length}
use Rattle.std.proofs.Common.{w64, to_z, of_z, true}
use lib.IntN.{ℤ, pos, ◌*ℤ◌}
use lib.Signed.{lt_z}
use borrow.Author.Differences.{ints}
use Rattle.std.proofs.lemmas.Bool.{cases_lt}
use Rattle.std.proofs.lemmas.Int.{clamps}
use Rattle.std.proofs.lemmas.List.{get_or_push, get_or_append_left, length-append}
use Rattle.poly_exact.specs.declared.points.Point.{Point}
use Rattle.poly_exact.specs.declared.points.HalfPoint.{HalfPoint}
use Rattle.poly_exact.specs.declared.rects.Rect.{Rect}
use Rattle.poly_exact.specs.declared.rects.TheConstants.{BLOCK}
use Rattle.poly_exact.specs.Rings.{vertex, next}
use Rattle.poly_exact.specs.Small.{IsSmall, IsSmallHalfPoint}
use Rattle.poly_exact.specs.Located.{AreSmall}
use Rattle.poly_exact.specs.Met.{AreApart}
use Rattle.poly_exact.specs.Rects.{Covers, grown, CoversEdges, CoversAll, AreBlocks, AreBlocksTo, IsOff, IsRayOff, block_end}
use Rattle.poly_exact.proofs.Meets.{apart_across, apart_along}
use Rattle.poly_exact.proofs.Lines.{less_yes}
use Rattle.poly_exact.proofs.Judged.{read_spot_x, read_spot_y}
use Rattle.poly_exact.proofs.Sums.{read_twice}

-- ---- growing

Covers-grown : (r : Rect) (p q : Point) → Covers r q → Covers (grown r p) q
Covers-grown r p q h =
    let a = h.left in let b = h.right in let c = h.under in let d = h.over in
    record { left = omega (arith, ints, clamps); right = omega (arith, ints, clamps); under = omega (arith, ints, clamps); over = omega (arith, ints, clamps) }

Covers-new : (r : Rect) (p : Point) → Covers (grown r p) p
Covers-new r p = record { left = omega (arith, ints, clamps); right = omega (arith, ints, clamps); under = omega (arith, ints, clamps); over = omega (arith, ints, clamps) }

low-grown : (r : Rect) (p : Point) → IsSmall r.low → IsSmall p → IsSmall (grown r p).low
low-grown r p h k =
    let a = h.left in let b = h.right in let c = h.low in let d = h.high in
    let e = k.left in let f = k.right in let g = k.low in let i = k.high in
    record { left = omega (arith, ints, clamps); right = omega (arith, ints, clamps); low = omega (arith, ints, clamps); high = omega (arith, ints, clamps) }

high-grown : (r : Rect) (p : Point) → IsSmall r.high → IsSmall p → IsSmall (grown r p).high
high-grown r p h k =
    let a = h.left in let b = h.right in let c = h.low in let d = h.high in
    let e = k.left in let f = k.right in let g = k.low in let i = k.high in
    record { left = omega (arith, ints, clamps); right = omega (arith, ints, clamps); low = omega (arith, ints, clamps); high = omega (arith, ints, clamps) }

pub covers_none : (r : Rect) (vs : List Point) (from : ℕ) → IsSmall r.low → IsSmall r.high → CoversEdges r vs from from
covers_none r vs from l h = record { low = l; high = h; first = λ e a b. absurd (omega arith); second = λ e a b. absurd (omega arith) }

pub covers_more : (r s t : Rect) (vs : List Point) (from k n : ℕ) → AreSmall vs → k < length vs → n < length vs → n ≡ next vs k
    → s ≡ grown r (vertex vs k) → t ≡ grown s (vertex vs n) → CoversEdges r vs from k → CoversEdges t vs from (k + 1)
covers_more r s t vs from k n small kb nb ne es et h =
    let p = vertex vs k in let q = vertex vs n in
    let on : (u : Point) → Covers r u → Covers (grown (grown r p) q) u = λ u c. Covers-grown (grown r p) q u (Covers-grown r p u c) in
    subst (λ x. CoversEdges x vs from (k + 1)) (sym (et ∙ ap (λ z. grown z q) es)) (record {
      low = low-grown (grown r p) q (low-grown r p h.low (small.each k kb)) (small.each n nb);
      high = high-grown (grown r p) q (high-grown r p h.high (small.each k kb)) (small.each n nb);
      first = λ e a b. elim (cases_lt e k) [
        | inl x ↦ on (vertex vs e) (h.first e a x)
        | inr x ↦ (let i : e ≡ k = omega arith in subst (λ j. Covers (grown (grown r p) q) (vertex vs j)) (sym i) (Covers-grown (grown r p) q p (Covers-new r p)))
      ];
      second = λ e a b. elim (cases_lt e k) [
        | inl x ↦ on (vertex vs (next vs e)) (h.second e a x)
        | inr x ↦ (let i : e ≡ k = omega arith in subst (λ j. Covers (grown (grown r p) q) (vertex vs j)) (ne ∙ ap (next vs) (sym i)) (Covers-new (grown r p) q))
      ];
    })

pub covers_end : (r : Rect) (vs : List Point) (from to k : ℕ) → to ≤ k → CoversEdges r vs from k → CoversEdges r vs from to
covers_end r vs from to k l h = record { low = h.low; high = h.high; first = λ e a b. h.first e a (omega arith); second = λ e a b. h.second e a (omega arith) }

pub covers_all : (r : Rect) (vs : List Point) → CoversEdges r vs 0 (length vs) → CoversAll r vs
covers_all r vs h = record { each = λ k b. h.first k (omega arith) b }

-- ---- the rectangles of the blocks

pub blocks_none : (vs : List Point) (rs : List Rect) → rs ≡ [] → AreBlocksTo rs vs 0
blocks_none vs rs e = record { many = ap length e; each = λ b h. absurd (omega arith) }

pub blocks_more : (vs : List Point) (rs ss : List Rect) (n : ℕ) (r : Rect) → ss ≡ rs ++ r ∷ [] → CoversEdges r vs (n * BLOCK) (block_end vs n) → AreBlocksTo rs vs n → AreBlocksTo ss vs (n + 1)
blocks_more vs rs ss n r e c h = subst (λ z. AreBlocksTo z vs (n + 1)) (sym e) (record {
  many = (let m = h.many in let l = length-append rs (r ∷ []) in let o : length (r ∷ []) ≡ 1 = refl in omega arith);
  each = λ i b. elim (cases_lt i n) [
    | inl x ↦ (let m = h.many in subst (λ u. CoversEdges u vs (i * BLOCK) (block_end vs i)) (sym (get_or_append_left rs (r ∷ []) _ i (omega arith))) (h.each i x))
    | inr x ↦ (let m = h.many in let q : i ≡ n = omega arith in
        subst (λ u. CoversEdges u vs (i * BLOCK) (block_end vs i)) (sym (get_or_push rs r _ i (m ∙ sym q))) (subst (λ j. CoversEdges r vs (j * BLOCK) (block_end vs j)) (sym q) c))
  ];
})

pub covers_block : (r : Rect) (vs : List Point) (b to : ℕ) → to ≡ block_end vs b → CoversEdges r vs (b * BLOCK) to → CoversEdges r vs (b * BLOCK) (block_end vs b)
covers_block r vs b to e h = subst (CoversEdges r vs (b * BLOCK)) e h

pub blocks_end : (vs : List Point) (rs : List Rect) (n : ℕ) → length vs ≤ n * BLOCK → n * BLOCK < length vs + BLOCK → AreBlocksTo rs vs n → AreBlocks rs vs
blocks_end vs rs n a b h = let m = h.many in record { enough = omega arith; fitting = omega arith; each = λ i l. h.each i (omega arith) }

-- ---- what lies off a rectangle

pub off_apart : (a b c d : Point) (r : Rect) → Covers r c → Covers r d → IsOff a b r → AreApart a b c d
off_apart a b c d r p q o =
    let pl = p.left in let pr = p.right in let pu = p.under in let po = p.over in
    let ql = q.left in let qr = q.right in let qu = q.under in let qo = q.over in
    elim o [
      | inl h ↦ (let x = h.0 in let y = h.1 in apart_across a b c d (inl ((omega (arith, ints), omega (arith, ints)), (omega (arith, ints), omega (arith, ints)))))
      | inr o1 ↦ elim o1 [
        | inl h ↦ (let x = h.0 in let y = h.1 in apart_across a b c d (inr ((omega (arith, ints), omega (arith, ints)), (omega (arith, ints), omega (arith, ints)))))
        | inr o2 ↦ elim o2 [
          | inl h ↦ (let x = h.0 in let y = h.1 in apart_along a b c d (inl ((omega (arith, ints), omega (arith, ints)), (omega (arith, ints), omega (arith, ints)))))
          | inr h ↦ (let x = h.0 in let y = h.1 in apart_along a b c d (inr ((omega (arith, ints), omega (arith, ints)), (omega (arith, ints), omega (arith, ints)))))
        ]
      ]
    ]

-- the tests of the code as they were read
ray_below : (p : HalfPoint) (r : Rect) (u v : ℤ) → u ≡ p.y → v ≡ r.low.y *ℤ pos 2 → lt_z u v ≡ true → IsRayOff p r
ray_below p r u v e f t = let h = less_yes u v t in inl (omega (arith, ints))

ray_above : (p : HalfPoint) (r : Rect) (u v : ℤ) → u ≡ r.high.y *ℤ pos 2 → v ≡ p.y → lt_z u v ≡ true → IsRayOff p r
ray_above p r u v e f t = let h = less_yes u v t in inr (inl (omega (arith, ints)))

ray_right : (p : HalfPoint) (r : Rect) (u v : ℤ) → u ≡ r.high.x *ℤ pos 2 → v ≡ p.x → lt_z u v ≡ true → IsRayOff p r
ray_right p r u v e f t = let h = less_yes u v t in inr (inr (omega (arith, ints)))

module _ (p : HalfPoint) (r : Rect) (spot : IsSmallHalfPoint p) (low : IsSmall r.low) (high : IsSmall r.high) where
  pub read_below : lt_z (to_z w64 (of_z w64 p.y)) (to_z w64 (of_z w64 (to_z w64 (of_z w64 r.low.y) *ℤ pos 2))) ≡ true → IsRayOff p r
  read_below = ray_below p r _ _ (read_spot_y p spot) (read_twice r.low.y low.low low.high)

  pub read_above : lt_z (to_z w64 (of_z w64 (to_z w64 (of_z w64 r.high.y) *ℤ pos 2))) (to_z w64 (of_z w64 p.y)) ≡ true → IsRayOff p r
  read_above = ray_above p r _ _ (read_twice r.high.y high.low high.high) (read_spot_y p spot)

  pub read_right : lt_z (to_z w64 (of_z w64 (to_z w64 (of_z w64 r.high.x) *ℤ pos 2))) (to_z w64 (of_z w64 p.x)) ≡ true → IsRayOff p r
  read_right = ray_right p r _ _ (read_twice r.high.x high.left high.right) (read_spot_x p spot)
