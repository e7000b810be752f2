use Rattle.std.proofs.Common.{◌≡◌, ◌+◌, ◌*◌, refl, ap, ◌∙◌, arith}
use Rattle.std.specs.Prelude.{slice_index, bit_or}
use Rattle.compose_fast.proofs.Stores.{IsPlaneBelow-none, IsPlaneBelow-step}
use Rattle.compose_fast.proofs.tables.add_plane.Goals as goal

pub loop-u-init : goal.loop-u-init
loop-u-init g c = IsPlaneBelow-none c.args.set.now _ c.args.p

pub loop-u-preserved : goal.loop-u-preserved
loop-u-preserved g c =
    let old = c.args.set.now in
    let bases = c.args.bases.now in
    let at = 256 * c.args.p + 16 * c.loop-u.u in
    let next : 16 * (c.loop-u.u + 1) ≡ 16 * c.loop-u.u + 16 = omega arith in
    rw (c.store.ensures, next)
    (IsPlaneBelow-step old c.loop-u.set c.either-sum.result (λ e. bit_or (slice_index old (256 * c.args.p + e)) (slice_index bases (2048 * c.args.r + 256 * c.args.p + e)))
    (λ k. bit_or (slice_index c.load.result k) (slice_index c.load-in-loop-u.result k)) c.args.p (16 * c.loop-u.u) at refl c.loop-u.invariant c.either-sum.ensures (omega arith)
    (λ k l same.
    let here : slice_index c.load.result k ≡ slice_index old (256 * c.args.p + (16 * c.loop-u.u + k)) = c.load.ensures.each k l ∙ same ∙ ap (slice_index old) (omega arith) in
    let base : slice_index c.load-in-loop-u.result k ≡ slice_index bases (2048 * c.args.r + 256 * c.args.p + (16 * c.loop-u.u + k)) = c.load-in-loop-u.ensures.each k l ∙ ap (slice_index bases) (omega arith) in
    ap (λ x. bit_or x (slice_index c.load-in-loop-u.result k)) here ∙ ap (bit_or (slice_index old (256 * c.args.p + (16 * c.loop-u.u + k)))) base))

pub returns-clause-here : goal.returns-clause-here
returns-clause-here g c = λ d l. c.loop-u.invariant.here d (omega arith)

pub returns-clause-before : goal.returns-clause-before
returns-clause-before g c = λ e l. c.loop-u.invariant.before e l

pub returns-clause-after : goal.returns-clause-after
returns-clause-after g c = λ e l. c.loop-u.invariant.after e (omega arith)
