use Rattle.std.proofs.Common.{refl, sym, ◌+◌, take, length, ◌<◌, ◌∙◌, subst, arith}
use Rattle.std.proofs.lemmas.List.{length-set, drop-set-lt}
use Rattle.calculus_table.specs.Composition.{full_of}
use Rattle.session_phase.specs.declared.steps.Step.{Step}
use Rattle.session_phase.specs.Phase.{IsStepFor, asked_by}
use Rattle.session_phase.proofs.Taken.{untaken, AreTaken-none, AreTaken-more, AreTaken-all, AreTaken-network}
use Rattle.session_phase.proofs.steps.take_steps.Goals as goal

pub loop-step-init : goal.loop-step-init
loop-step-init g c = record {
  pass = c.requires.pass;
  taken = AreTaken-none (g.C.Compose.algebra c.args.c.now) c.args.table.now.opening.nodes c.args.pass.now.actor;
  size = refl;
  rest = refl;
}

pub take_step-requires-clause-network : goal.take_step-requires-clause-network
take_step-requires-clause-network g c =
    let k = c.loop-step.step-index in
    AreTaken-network (g.C.Compose.algebra c.args.c.now) c.args.table.now.opening.nodes (asked_by (take k c.args.steps.now)) c.args.pass.now.actor c.loop-step.pass.actor (take k c.loop-step.steps)
    c.requires.network c.loop-step.invariant.taken

pub take_step-requires-clause-step : goal.take_step-requires-clause-step
take_step-requires-clause-step g c =
    let h = c.loop-step.invariant in
    let old = c.args.steps.now in
    let now = c.loop-step.steps in
    let k = c.loop-step.step-index in
    let d = c.step-item.result in
    let below : k < length now = (let t = c.loop-step-test.true in let l = h.size in omega arith) in
    subst (λ (s : Step). IsStepFor (full_of (g.C.Compose.algebra c.args.c.now)) c.args.table.now.opening.nodes s) (sym (untaken old now k d below h.size h.rest).0)
    (c.requires.steps k d c.loop-step-test.true)

pub loop-step-preserved : goal.loop-step-preserved
loop-step-preserved g c =
    let h = c.loop-step.invariant in
    let old = c.args.steps.now in
    let now = c.loop-step.steps in
    let k = c.loop-step.step-index in
    let d = c.step-item.result in
    let below : k < length now = (let t = c.loop-step-test.true in let l = h.size in omega arith) in
    record {
      pass = c.take_step.ensures.pass;
      taken = AreTaken-more (g.C.Compose.algebra c.args.c.now) c.args.table.now.opening.nodes old now k d c.take_step.result c.args.pass.now.actor c.loop-step.pass.actor c.take_step.new.pass.actor below
          h.size h.rest h.taken c.take_step.ensures.taken;
      size = length-set now k c.take_step.result ∙ h.size;
      rest = drop-set-lt (k + 1) now k c.take_step.result (omega arith) ∙ (untaken old now k d below h.size h.rest).1;
    }

pub returns-clause-taken : goal.returns-clause-taken
returns-clause-taken g c =
    let h = c.loop-step.invariant in
    AreTaken-all (g.C.Compose.algebra c.args.c.now) c.args.table.now.opening.nodes c.args.steps.now c.loop-step.steps c.loop-step.step-index c.args.pass.now.actor c.loop-step.pass.actor c.loop-step-test.false
    h.size h.taken
