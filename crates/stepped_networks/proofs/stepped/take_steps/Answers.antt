use Rattle.std.proofs.Common.{◌≡◌, ◌+◌, ◌∷◌, drop, get_or, sym, ap, ◌∙◌, add-one, arith}
use Rattle.std.proofs.Math.Seq.{drop-cons}
use Rattle.network_words.specs.Network.{Network}
use Rattle.split_trees.specs.declared.tree.Step.{Step}
use Rattle.split_trees.specs.Refutes.{after_step, after_steps}
use Rattle.stepped_networks.proofs.Worked.{after_step-network}
use Rattle.stepped_networks.proofs.Trails.{KeepsTrail-then, KeepsTrail-nodes, words-then}
use Rattle.stepped_networks.proofs.stepped.take_steps.Goals as goal

pub loop-step-preserved : goal.loop-step-preserved
loop-step-preserved g c =
    let m = g.C.Compose.algebra c.args.c.now in
    let old = c.args.net.now in
    let net = c.loop-step.net in
    let new = c.take_step.new.net in
    let at = c.loop-step.step-index in
    let step : Step = get_or c.args.steps.now at (record { i = 0; j = 0; k = 0 }) in
    let inv = c.loop-step.invariant in
    let taken = c.take_step.ensures in
    let words = ap (λ (y : Network). y.words) taken.words in
    let nodes : net.nodes ≡ old.nodes = ap (λ (y : Network). y.nodes) inv.rest in
    let here : drop at c.args.steps.now ≡ step ∷ drop (at + 1) c.args.steps.now =
    drop-cons c.args.steps.now at (record { i = 0; j = 0; k = 0 }) (omega arith) ∙ ap (λ k. step ∷ drop k c.args.steps.now) (sym (add-one at)) in
    record {
      network = rw (taken.nodes, words) (after_step-network m net.nodes net.words step inv.network);
      rest = words-then old net new (after_step m net.nodes net.words step) inv.rest taken.words;
      left = rw (taken.nodes, words) (ap (after_steps m net.nodes net.words) (sym here) ∙ inv.left);
      room = omega (arith, inv.room, taken.len, taken.capacity);
      trail = KeepsTrail-then old.nodes old.words net.words new.words c.reserve.new.self.items c.loop-step.trail.items c.take_step.new.trail.items
          inv.trail (KeepsTrail-nodes net.nodes old.nodes net.words new.words c.loop-step.trail.items c.take_step.new.trail.items nodes taken.trail);
    }

pub returns-clause-trail : goal.returns-clause-trail
returns-clause-trail g c = rw c.reserve.ensures.items at c.loop-step.invariant.trail
