use Rattle.std.proofs.Common.{◌+◌, ℕ, ap, ◌∙◌, take, drop, get_or, arith, cond}
use Rattle.std.specs.Prelude.{slice_index}
use Rattle.std.proofs.lemmas.Simd.{length-chunk, get_or-chunk}
use Rattle.compose_fast.proofs.LaneLemmas.{differ, bit_of_compared, compared-below, differ_at}
use Rattle.compose_fast.proofs.kernels.differing_at.Goals as goal

pub returns-clause-lanes : goal.returns-clause-lanes
returns-clause-lanes c = λ k l.
    let a = take 4 (drop c.args.i c.args.a.now) in
    let b = take 4 (drop c.args.i c.args.b.now) in
    let x = get_or-chunk c.args.i 4 c.args.a.now k 0 l in
    let y = get_or-chunk c.args.i 4 c.args.b.now k 0 l in
    differ_at (slice_index c.args.a.now (c.args.i + k)) (slice_index c.args.b.now (c.args.i + k)) _
    (bit_of_compared differ a b 4 (length-chunk c.args.i 4 c.args.a.now c.requires.first) (length-chunk c.args.i 4 c.args.b.now c.requires.second) (omega arith) k l
    ∙ ap (λ (z : ℕ). cond (differ z (get_or b k 0)) 1 0) x ∙ ap (λ (z : ℕ). cond (differ (slice_index c.args.a.now (c.args.i + k)) z) 1 0) y)

pub returns-clause-below : goal.returns-clause-below
returns-clause-below c =
    compared-below differ (take 4 (drop c.args.i c.args.a.now)) (take 4 (drop c.args.i c.args.b.now)) 4 (length-chunk c.args.i 4 c.args.a.now c.requires.first) (length-chunk c.args.i 4 c.args.b.now c.requires.second) (omega arith)
