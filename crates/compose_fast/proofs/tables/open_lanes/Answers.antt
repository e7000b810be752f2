use Rattle.std.proofs.Common.{◌+◌, ◌*◌, ◌<◌, ap, ◌∙◌, arith}
use Rattle.std.specs.Prelude.{slice_index}
use Rattle.compose_fast.specs.Planes.{along_at}
use Rattle.compose_fast.proofs.PlaneLemmas.{AreGapsBelow-none, AreGapsBelow-step}
use Rattle.compose_fast.proofs.tables.open_lanes.Goals as goal

pub loop-p-init : goal.loop-p-init
loop-p-init g c = AreGapsBelow-none _ _

pub loop-p-preserved : goal.loop-p-preserved
loop-p-preserved g c =
    AreGapsBelow-step (λ p k. slice_index c.args.bytes.now (256 * p + (c.args.here + k))) (λ p k. along_at c.args.set.now c.args.bytes.now g.row.P p (c.args.there + k))
    c.load-v.result c.along_plane.result c.both.result c.loop-p.gaps c.differing-gaps.result c.loop-p.p (c.loop-p.p + 1) c.args.here c.args.bytes.now (omega arith) c.loop-p.invariant
    (record { long = c.load-v.ensures.long; each = λ k l. c.load-v.ensures.each k l ∙ ap (slice_index c.args.bytes.now) (omega arith) }) c.along_plane.ensures c.both.ensures c.differing-gaps.ensures.lanes c.differing-gaps.ensures.below

pub returns-clause-clear : goal.returns-clause-clear
returns-clause-clear g c = λ k l none p b. c.loop-p.invariant.clear k l none p (omega arith)

pub returns-clause-gap : goal.returns-clause-gap
returns-clause-gap g c = λ k l has within. let w = c.loop-p.invariant.gap k has in let below : w.0 < g.row.P = omega arith in w.2 (within w.0 below)

pub returns-clause-below : goal.returns-clause-below
returns-clause-below g c = λ k has. c.loop-p.invariant.below k has
