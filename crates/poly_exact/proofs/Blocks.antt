-- Loops over the blocks of a ring's edges: what holds of the first edges, block by block.
use Rattle.std.proofs.Common.{◌≡◌, subst, arith, ℕ, zero, suc, ◌+◌, ◌-◌, ◌*◌, ◌<◌, ◌≤◌, List, length}
use Rattle.poly_exact.specs.declared.points.Point.{Point}
use Rattle.poly_exact.specs.declared.rects.TheConstants.{BLOCK}
use Rattle.poly_exact.specs.Rects.{block_start, block_end}

module _ (vs : List Point) (q : ℕ → Type 0) where
  pub first_block : q 0 → q (block_start vs 0)
  first_block h = let e : 0 ≡ block_start vs 0 = omega arith in subst q e h

  pub in_block : (b : ℕ) → b * BLOCK < length vs → q (block_start vs b) → q (b * BLOCK)
  in_block b l h = let e : block_start vs b ≡ b * BLOCK = omega arith in subst q e h

  pub after_block : (b : ℕ) → q (block_end vs b) → q (block_start vs (b + 1))
  after_block b h = let e : block_end vs b ≡ block_start vs (b + 1) = omega arith in subst q e h

  pub last_block : (m b : ℕ) → length vs ≤ m * BLOCK → m ≤ b → q (block_start vs b) → q (length vs)
  last_block m b l k h = let e : block_start vs b ≡ length vs = omega arith in subst q e h

  pub end_block : (b k : ℕ) → b * BLOCK < length vs → block_end vs b ≤ k → k ≤ block_end vs b → q k → q (block_end vs b)
  end_block b k i x y h = let e : k ≡ block_end vs b = omega arith in subst q e h

  from_block : (b : ℕ) → ((k : ℕ) → b * BLOCK ≤ k → k < block_end vs b → q k → q (k + 1)) → q (b * BLOCK) → (j : ℕ) → b * BLOCK + j ≤ block_end vs b → q (b * BLOCK + j)
  from_block b f h zero l = let e : b * BLOCK ≡ b * BLOCK + zero = omega arith in subst q e h
  from_block b f h (suc j) l =
      let e : b * BLOCK + j + 1 ≡ b * BLOCK + suc j = omega arith in
      subst q e (f (b * BLOCK + j) (omega arith) (omega arith) (from_block b f h j (omega arith)))

  -- each edge of the block by itself
  pub skip_block : (b : ℕ) → b * BLOCK < length vs → ((k : ℕ) → b * BLOCK ≤ k → k < block_end vs b → q k → q (k + 1)) → q (block_start vs b) → q (block_start vs (b + 1))
  skip_block b l f h =
      let e : b * BLOCK + (block_end vs b - b * BLOCK) ≡ block_end vs b = omega arith in
      after_block b (subst q e (from_block b f (in_block b l h) (block_end vs b - b * BLOCK) (omega arith)))
