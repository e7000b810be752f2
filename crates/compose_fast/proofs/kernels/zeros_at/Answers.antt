use Rattle.std.proofs.Common.{◌≡◌, ◌+◌, ℕ, List, ap, ◌∙◌, take, drop, get_or, replicate, arith, refl, cond, eqb}
use Rattle.std.specs.Prelude.{slice_index}
use Rattle.std.proofs.lemmas.Simd.{length-chunk, get_or-chunk, get_or-replicate}
use Rattle.compose_fast.proofs.LaneLemmas.{bit_of_compared, compared-below, equal_at}
use Rattle.compose_fast.proofs.kernels.zeros_at.Goals as goal

pub returns-clause-lanes : goal.returns-clause-lanes
returns-clause-lanes c = λ k l.
    let a = take 4 (drop c.args.i c.args.a.now) in
    let b : List ℕ = replicate 4 0 in
    let x = get_or-chunk c.args.i 4 c.args.a.now k 0 l in
    let y : get_or b k 0 ≡ 0 = get_or-replicate 4 k 0 0 l in
    equal_at (slice_index c.args.a.now (c.args.i + k)) 0 _
    (bit_of_compared eqb a b 4 (length-chunk c.args.i 4 c.args.a.now c.requires) refl (omega arith) k l
    ∙ ap (λ (z : ℕ). cond (eqb z (get_or b k 0)) 1 0) x ∙ ap (λ (z : ℕ). cond (eqb (slice_index c.args.a.now (c.args.i + k)) z) 1 0) y)

pub returns-clause-below : goal.returns-clause-below
returns-clause-below c =
    compared-below eqb (take 4 (drop c.args.i c.args.a.now)) (replicate 4 0) 4 (length-chunk c.args.i 4 c.args.a.now c.requires) refl (omega arith)
