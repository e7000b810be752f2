use Rattle.std.proofs.lemmas.Result.{on_ok_weaker}
use Rattle.edge_propagation.proofs.Steps.{IsStep-trans, EmptiesNone-trans}
use Rattle.edge_propagation.proofs.Settled.{IsSettled-propagated}
use Rattle.edge_propagation.proofs.propagation.propagate.Goals as goal

pub returns-clause-settled : goal.returns-clause-settled
returns-clause-settled g c =
    let one = c.in_ok-propagate_from.ensures in
    on_ok_weaker c.propagate_from-2.result
    (λ second. IsSettled-propagated (g.C.Compose.algebra c.args.c.now) c.args.rows c.args.work.now c.propagate_from.new.work c.propagate_from-2.new.work c.args.i c.args.j
    c.requires.ready.calculus c.nodes-nodes.ensures.sized c.requires.proper c.requires.settled one.step one.settled c.propagate_from-2.ensures.step second)
    c.propagate_from-2.ensures.settled

pub returns-clause-step : goal.returns-clause-step
returns-clause-step g c = IsStep-trans _ _ _ _ c.in_ok-propagate_from.ensures.step c.propagate_from-2.ensures.step

pub returns-clause-none : goal.returns-clause-none
returns-clause-none g c =
    let one = c.in_ok-propagate_from.ensures in
    on_ok_weaker c.propagate_from-2.result
    (EmptiesNone-trans (g.C.Compose.algebra c.args.c.now) c.args.work.now c.propagate_from.new.work c.propagate_from-2.new.work one.step one.none)
    c.propagate_from-2.ensures.none
