use Rattle.std.proofs.Common.{◌≡◌, ◌+◌, suc, ℕ, refl, ap, ◌∙◌, arith, length, bit_and, bit_or}
use Rattle.std.specs.Prelude.{slice_index}
use Rattle.calculus_table.specs.Composition.{union_below, if_has}
use Rattle.compose_fast.proofs.LaneLemmas.{two-unions}
use Rattle.compose_fast.proofs.kernels.or_rows.Goals as goal

none : (f : ℕ → ℕ) → 0 ≡ union_below 0 f
unfolding union_below
none f = refl

more : (n k : ℕ) (f : ℕ → ℕ) → n ≡ k + 1 → bit_or (union_below k f) (f k) ≡ union_below n f
unfolding union_below
more n k f e = let s : n ≡ suc k = omega arith in rw s refl

pub loop-i-init : goal.loop-i-init
loop-i-init c = record { lanes = refl; inside = omega arith; union = none _ }

pub loop-i-preserved : goal.loop-i-preserved
loop-i-preserved c =
    let f = λ (r : ℕ). if_has c.args.mask r (slice_index c.args.rows.now r) in
    let i = c.loop-i.i in
    let at : i + 0 ≡ i = omega arith in
    let all = c.loop-i.all in
    let even : slice_index c.add_two-all.result 0 ≡ bit_or (slice_index all 0) (f i) = c.add_two-all.ensures.each 0 (omega arith) ∙ ap (λ r. bit_or (slice_index all 0) (f r)) at in
    let odd : slice_index c.add_two-all.result 1 ≡ bit_or (slice_index all 1) (f (i + 1)) = c.add_two-all.ensures.each 1 (omega arith) in
    record {
      lanes = c.add_two-all.ensures.long;
      inside = omega arith;
      union =
          ap (λ x. bit_or x (slice_index c.add_two-all.result 1)) even ∙ ap (bit_or (bit_or (slice_index all 0) (f i))) odd
          ∙ two-unions (slice_index all 0) (slice_index all 1) (f i) (f (i + 1))
          ∙ ap (λ x. bit_or (bit_or x (f i)) (f (i + 1))) c.loop-i.invariant.union
          ∙ ap (λ x. bit_or x (f (i + 1))) (more (i + 1) i f refl) ∙ more (i + 2) (i + 1) f (omega arith);
    }

pub returns-then-i-rows : goal.returns-then-i-rows
returns-then-i-rows c =
    let f = λ (r : ℕ). if_has c.args.mask r (slice_index c.args.rows.now r) in
    let i = c.loop-i.i in
    ap (λ x. bit_or x (bit_and (slice_index c.args.rows.now i) c.chosen.result)) c.loop-i.invariant.union
    ∙ ap (bit_or (union_below i f)) (c.chosen.ensures (slice_index c.args.rows.now i) (c.type_inv.rows i).fits)
    ∙ more (length c.args.rows.now) i f (omega arith)

pub returns-else-i-rows : goal.returns-else-i-rows
returns-else-i-rows c =
    let f = λ (r : ℕ). if_has c.args.mask r (slice_index c.args.rows.now r) in
    let same : c.loop-i.i ≡ length c.args.rows.now = omega arith in
    c.loop-i.invariant.union ∙ ap (λ n. union_below n f) same
