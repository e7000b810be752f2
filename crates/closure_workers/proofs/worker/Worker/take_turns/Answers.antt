use Rattle.std.proofs.Common.{refl, inr}
use Rattle.closure_workers.proofs.Working.{WorksOn-trans}
use Rattle.closure_workers.proofs.worker.Worker.take_turns.Goals as goal

pub loop-turn-preserved : goal.loop-turn-preserved
loop-turn-preserved g c = record {
  works_on = WorksOn-trans c.args.site.now.table.now _ _ _ c.loop-turn.invariant.works_on c.take_turn.ensures.works_on;
  settled = c.in-More.ensures.comes_to.settled (inr refl);
}
