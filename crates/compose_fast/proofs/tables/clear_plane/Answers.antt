use Rattle.std.proofs.Common.{◌≡◌, ◌+◌, ◌*◌, refl, arith}
use Rattle.compose_fast.proofs.Stores.{IsPlaneBelow-none, IsPlaneBelow-step}
use Rattle.compose_fast.proofs.LaneLemmas.{HasLanes-zeros}
use Rattle.compose_fast.proofs.tables.clear_plane.Goals as goal

pub loop-u-init : goal.loop-u-init
loop-u-init g c = IsPlaneBelow-none c.args.set.now (λ _. 0) c.args.p

pub loop-u-preserved : goal.loop-u-preserved
loop-u-preserved g c =
    let next : 16 * (c.loop-u.u + 1) ≡ 16 * c.loop-u.u + 16 = omega arith in
    rw (c.store.ensures, next)
    (IsPlaneBelow-step c.args.set.now c.loop-u.set _ (λ _. 0) (λ _. 0) c.args.p (16 * c.loop-u.u) _ refl c.loop-u.invariant HasLanes-zeros (omega arith) (λ k l same. refl))

pub returns-clause-here : goal.returns-clause-here
returns-clause-here g c = λ d l. c.loop-u.invariant.here d (omega arith)

pub returns-clause-before : goal.returns-clause-before
returns-clause-before g c = λ e l. c.loop-u.invariant.before e l
