-- A ray that passes the rectangle round a block crosses none of its edges.
use Rattle.std.proofs.Common.{◌≡◌, refl, sym, ap, ◌∙◌, arith, inl, inr, ℕ, ◌+◌, ◌*◌, ◌<◌, ◌≤◌, List, length, Bool, true, false}
use lib.IntN.{pos}
use lib.Signed.{◌<ℤ◌}
use borrow.Author.Differences.{ints}
use Rattle.std.proofs.lemmas.Int.{clamps}
use Rattle.poly_exact.specs.declared.points.Point.{Point}
use Rattle.poly_exact.specs.declared.points.HalfPoint.{HalfPoint}
use Rattle.poly_exact.specs.declared.rects.Rect.{Rect}
use Rattle.poly_exact.specs.declared.rects.TheConstants.{BLOCK}
use Rattle.poly_exact.specs.Places.{Place, IsOnEdge, is_under, counted, bit}
use Rattle.poly_exact.specs.Small.{place}
use Rattle.poly_exact.specs.Rings.{vertex, next, IsInRing, IsOutOfRing}
use Rattle.poly_exact.specs.Located.{IsPassed, IsPassedBy}
use Rattle.poly_exact.specs.Rects.{Covers, AreBlocks, IsRayOff, rect_at, block_start}
use Rattle.poly_exact.proofs.Apart.{count_right}
use Rattle.poly_exact.proofs.Judged.{passed_miss}
use Rattle.poly_exact.proofs.Blocks.{skip_block, last_block}

counted-none : (a b : Point) (p : Place) (t : Bool) → is_under a p ≡ t → is_under b p ≡ t → counted a b p ≡ 0
counted-none a b p true e f = rw (e, f) refl
counted-none a b p false e f = rw (e, f) refl

module _ (a b : Point) (p : HalfPoint) (r : Rect) (ca : Covers r a) (cb : Covers r b) where
  off_ray : IsRayOff p r → IsOnEdge a b (place p) → ⊥
  off_ray o h =
      let l = h.across.greatest in let m = h.along.least in let n = h.along.greatest in
      let x = ca.right in let y = ca.under in let z = ca.over in let x' = cb.right in let y' = cb.under in let z' = cb.over in
      elim o [ inl t ↦ omega (arith, ints, clamps) | inr s ↦ elim s [ inl t ↦ omega (arith, ints, clamps) | inr t ↦ omega (arith, ints, clamps) ] ]

  counted-ray : IsRayOff p r → counted a b (place p) ≡ 0
  counted-ray o =
      let x = ca.right in let y = ca.under in let z = ca.over in let x' = cb.right in let y' = cb.under in let z' = cb.over in
      let w : pos 0 <ℤ pos 2 = omega (arith, ints) in
      elim o [
        | inl t ↦ counted-none a b (place p) false (sym (omega (arith, ints))) (sym (omega (arith, ints)))
        | inr s ↦ elim s [
          | inl t ↦ counted-none a b (place p) true (sym (omega (arith, ints))) (sym (omega (arith, ints)))
          | inr t ↦ count_right a b (place p) w (omega (arith, ints)) (omega (arith, ints))
        ]
      ]

  pub IsPassed-ray : IsRayOff p r → IsPassed a b (place p) 0
  IsPassed-ray o = record { off = off_ray o; counts = counted-ray o }

pub passed_skip : (vs : List Point) (rs : List Rect) (p : HalfPoint) (b : ℕ) (odd : Bool) → AreBlocks rs vs → b < length rs → IsRayOff p (rect_at rs b) → IsPassedBy vs (place p) (block_start vs b) odd → IsPassedBy vs (place p) (block_start vs (b + 1)) odd
passed_skip vs rs p b odd blocks below o h =
    let f = blocks.fitting in
    let c = blocks.each b below in
    skip_block vs (λ k. IsPassedBy vs (place p) k odd) b (omega arith)
    (λ k x y i. passed_miss vs (place p) k (next vs k) odd refl i (IsPassed-ray (vertex vs k) (vertex vs (next vs k)) p (rect_at rs b) (c.first k x y) (c.second k x y) o)) h

pub block_below : (vs : List Point) (rs : List Rect) (b : ℕ) → AreBlocks rs vs → b < length rs → b * BLOCK < length vs
block_below vs rs b blocks below = let f = blocks.fitting in omega arith

module _ (vs : List Point) (rs : List Rect) (p : Place) (b : ℕ) (odd : Bool) (blocks : AreBlocks rs vs) (end : length rs ≤ b) where
  whole : IsPassedBy vs p (block_start vs b) odd → IsPassedBy vs p (length vs) odd
  whole h = last_block vs (λ k. IsPassedBy vs p k odd) (length rs) b blocks.enough end h

  pub passed_in : odd ≡ true → IsPassedBy vs p (block_start vs b) odd → IsInRing vs p
  passed_in e h = let g = whole h in record { off = λ o. g.off o.edge o.below o.on; odd = g.parity ∙ ap bit e }

  pub passed_out : odd ≡ false → IsPassedBy vs p (block_start vs b) odd → IsOutOfRing vs p
  passed_out e h = let g = whole h in record { off = λ o. g.off o.edge o.below o.on; even = g.parity ∙ ap bit e }
