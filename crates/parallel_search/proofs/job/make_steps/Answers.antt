use Rattle.parallel_search.proofs.Walking.{walk-kept}
use Rattle.parallel_search.proofs.job.make_steps.Goals as goal

pub loop-step-preserved : goal.loop-step-preserved
loop-step-preserved g c =
    walk-kept (g.C.Compose.algebra c.args.site.now.c.now) c.args.site.now.nodes c.args.site.now.class.now
    c.loop-step.walk c.step.new.self
    c.loop-step.invariant c.in_ok-step.ensures.walk c.in_ok-step.ensures.task
