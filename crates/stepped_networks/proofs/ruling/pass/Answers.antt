use Rattle.std.proofs.Common.{◌≡◌, suc, rules, [], ◌∷◌, ◌++◌, take, drop, get_or, sym, ap, ◌∙◌, subst, arith}
use Rattle.std.proofs.Math.Seq.{drop-cons}
use Rattle.std.proofs.lemmas.List.{take_more, take-append-drop}
use Rattle.network_words.specs.Network.{Network, IsNetwork}
use Rattle.split_trees.specs.declared.tree.Step.{Step}
use Rattle.stepped_networks.specs.Passes.{GoesThrough, EndsAmong}
use Rattle.stepped_networks.proofs.Trails.{KeepsTrail-then, KeepsTrail-nodes, words-then}
use Rattle.stepped_networks.proofs.Passes.{goes-more, goes-none, ends-more}
use Rattle.stepped_networks.proofs.ruling.pass.Goals as goal

abbrev unset : Step
unset = record { i = 0; j = 0; k = 0 }

pub loop-step-init : goal.loop-step-init
loop-step-init c = record {
  going = goes-none c.args.c.now c.args.net.now.nodes c.args.cut c.args.made.now.items c.args.net.now.words;
  network = c.requires.network;
  rest = search rules;
  trail = search rules;
}

pub loop-step-preserved : goal.loop-step-preserved
loop-step-preserved c =
    let m = c.args.c.now in
    let old = c.args.net.now in
    let net = c.loop-step.net in
    let new = c.look_at.new.net in
    let at = c.loop-step.step-index in
    let all = c.args.all.now in
    let step : Step = get_or all at unset in
    let inv = c.loop-step.invariant in
    let looked = c.in_ok-look_at.ensures in
    let nodes : net.nodes ≡ old.nodes = ap (λ (y : Network). y.nodes) inv.rest in
    let one = subst (λ k. GoesThrough m k c.args.cut (step ∷ []) c.loop-step.made.items net.words c.look_at.new.made.items new.words) nodes (looked.going c.if-branch.false) in
    record {
      going = subst (λ ss. GoesThrough m old.nodes c.args.cut ss c.args.made.now.items old.words c.look_at.new.made.items new.words) (sym (take_more all at unset (omega arith)))
          (goes-more m old.nodes c.args.cut (take at all) step c.args.made.now.items c.loop-step.made.items c.look_at.new.made.items old.words net.words new.words inv.going one);
      network = subst (λ k. IsNetwork m k new.words) nodes looked.network;
      rest = words-then old net new new.words inv.rest looked.rest;
      trail = KeepsTrail-then old.nodes old.words net.words new.words c.args.trail.now.items c.loop-step.trail.items c.look_at.new.trail.items
          inv.trail (KeepsTrail-nodes net.nodes old.nodes net.words new.words c.loop-step.trail.items c.look_at.new.trail.items nodes looked.trail);
    }

pub returns-then-branch-clause-trail : goal.returns-then-branch-clause-trail
returns-then-branch-clause-trail c =
    let old = c.args.net.now in
    let net = c.loop-step.net in
    let inv = c.loop-step.invariant in
    let nodes : net.nodes ≡ old.nodes = ap (λ (y : Network). y.nodes) inv.rest in
    KeepsTrail-then old.nodes old.words net.words c.look_at.new.net.words c.args.trail.now.items c.loop-step.trail.items c.look_at.new.trail.items
    inv.trail (KeepsTrail-nodes net.nodes old.nodes net.words c.look_at.new.net.words c.loop-step.trail.items c.look_at.new.trail.items nodes c.in_ok-look_at.ensures.trail)

pub returns-then-branch-clause-ended : goal.returns-then-branch-clause-ended
returns-then-branch-clause-ended c =
    let m = c.args.c.now in
    let old = c.args.net.now in
    let net = c.loop-step.net in
    let new = c.look_at.new.net in
    let at = c.loop-step.step-index in
    let all = c.args.all.now in
    let step : Step = get_or all at unset in
    let inv = c.loop-step.invariant in
    let nodes : net.nodes ≡ old.nodes = ap (λ (y : Network). y.nodes) inv.rest in
    let ended = c.in_ok-look_at.ensures.ended c.if-branch.true in
    let one = subst (λ k. EndsAmong m k c.args.cut (step ∷ []) c.loop-step.made.items net.words c.look_at.new.made.items new.words) nodes ended.1 in
    let whole : take at all ++ (step ∷ drop (suc at) all) ≡ all = ap (λ ss. take at all ++ ss) (sym (drop-cons all at unset (omega arith))) ∙ take-append-drop at all in
    λ _. (
      ended.0,
      subst (λ ss. EndsAmong m old.nodes c.args.cut ss c.args.made.now.items old.words c.look_at.new.made.items new.words) whole
          (ends-more m old.nodes c.args.cut (take at all) (drop (suc at) all) step c.args.made.now.items c.loop-step.made.items c.look_at.new.made.items old.words net.words new.words inv.going one),
    )
