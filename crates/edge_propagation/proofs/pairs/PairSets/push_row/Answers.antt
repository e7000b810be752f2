use Rattle.std.proofs.Common.{rules, ◌+◌, ap, arith}
use Rattle.edge_propagation.specs.Worklist.{Worklist}
use Rattle.edge_propagation.proofs.Starts.{IsRowBegun, IsRowBegun-skip, IsRowBegun-push}
use Rattle.edge_propagation.proofs.pairs.PairSets.push_row.Goals as goal
use Rattle.edge_propagation.proofs.pairs.PairSets.push_row.Goals.{then-ne, else-ne}

pub loop-j-preserved : goal.loop-j-preserved
loop-j-preserved c =
    let old = c.args.self.now in
    let now = c.loop-j.self in
    let full = c.args.full in
    let i = c.args.i in
    let j = c.loop-j.j in
    let nodes = ap (λ (y : Worklist). y.nodes) c.loop-j.invariant.rest in
    elim c.if-ne.branch as (λ _. IsRowBegun old c.if-ne.self full i (j + 1)) [
      | then-ne w ↦ rw (w.self-is, w.push.ensures.value)
          (IsRowBegun-push old now full i j w.push.ensures.sized (omega (arith, c.loop-j.auto.j)) (omega (arith, c.loop-j-test.true, c.nodes-nodes.ensures.value, nodes)) c.loop-j.invariant)
      | else-ne w ↦ rw w.self-is (IsRowBegun-skip old now full i j (search rules) c.loop-j.invariant)
    ]
