-- Pairs of edges of one ring, block by block; parities, block by block.
use Rattle.std.proofs.Common.{◌≡◌, refl, subst, arith, ℕ, ◌+◌, ◌/◌, ◌<◌, ◌≤◌, List, length, Bool}
use Rattle.poly_exact.specs.declared.points.Point.{Point}
use Rattle.poly_exact.specs.declared.points.HalfPoint.{HalfPoint}
use Rattle.poly_exact.specs.declared.rects.Rect.{Rect}
use Rattle.poly_exact.specs.declared.rects.TheConstants.{BLOCK}
use Rattle.poly_exact.specs.Small.{place}
use Rattle.poly_exact.specs.Rings.{vertex, next}
use Rattle.poly_exact.specs.Checks.{AreGoodTo, IsParity}
use Rattle.poly_exact.specs.Rects.{AreBlocks, IsOff, IsRayOff, rect_at, block_start}
use Rattle.poly_exact.proofs.Checked.{good_apart, good_more, parity_past}
use Rattle.poly_exact.proofs.Covering.{off_apart}
use Rattle.poly_exact.proofs.Rays.{IsPassed-ray}
use Rattle.poly_exact.proofs.Blocks.{skip_block}

-- no edge up to number e comes after it
pub good_before : (vs : List Point) (e k : ℕ) → k ≤ e + 1 → AreGoodTo vs e k
good_before vs e k l = record { each = λ f a b. absurd (omega arith) }

pub good_start : (vs : List Point) (e : ℕ) → AreGoodTo vs e (block_start vs (e / BLOCK))
good_start vs e = good_before vs e (block_start vs (e / BLOCK)) (omega arith)

pub good_skip : (vs : List Point) (rs : List Rect) (e n b : ℕ) → AreBlocks rs vs → b < length rs → n ≡ next vs e → IsOff (vertex vs e) (vertex vs n) (rect_at rs b)
    → AreGoodTo vs e (block_start vs b) → AreGoodTo vs e (block_start vs (b + 1))
good_skip vs rs e n b blocks below en o h =
    let f = blocks.fitting in
    let c = blocks.each b below in
    let o' = subst (λ i. IsOff (vertex vs e) (vertex vs i) (rect_at rs b)) en o in
    skip_block vs (λ k. AreGoodTo vs e k) b (omega arith)
    (λ k x y i. good_more vs e k (good_apart vs e k (off_apart (vertex vs e) (vertex vs (next vs e)) (vertex vs k) (vertex vs (next vs k)) (rect_at rs b) (c.first k x y) (c.second k x y) o')) i) h

pub parity_skip : (vs : List Point) (rs : List Rect) (p : HalfPoint) (b : ℕ) (odd : Bool) → AreBlocks rs vs → b < length rs → IsRayOff p (rect_at rs b)
    → IsParity vs (place p) (block_start vs b) odd → IsParity vs (place p) (block_start vs (b + 1)) odd
parity_skip vs rs p b odd blocks below o h =
    let f = blocks.fitting in
    let c = blocks.each b below in
    skip_block vs (λ k. IsParity vs (place p) k odd) b (omega arith)
    (λ k x y i. parity_past vs (place p) k (next vs k) odd refl (IsPassed-ray (vertex vs k) (vertex vs (next vs k)) p (rect_at rs b) (c.first k x y) (c.second k x y) o) i) h
