use Rattle.std.proofs.Common.{◌≡◌, true, false, length, sym, ap, ◌∙◌, subst, Contains, rules}
use Rattle.std.specs.Prelude.{All}
use Rattle.network_words.specs.Network.{Network, IsNetwork}
use Rattle.stepped_networks.specs.RuledSteps.{AreCutSteps}
use Rattle.stepped_networks.specs.Passes.{GoesThrough, EndsAmong, AreStepsOf}
use Rattle.stepped_networks.proofs.Trails.{KeepsTrail-then, KeepsTrail-nodes, words-then}
use Rattle.stepped_networks.proofs.RuledSteps.{IsProperStep, all_steps-proper}
use Rattle.stepped_networks.proofs.Passes.{AreAtPass, at_pass-first, at_pass-next, cut-first, pass-less, steps-done, words-done, steps-ended, words-ended}
use Rattle.stepped_networks.proofs.ruling.rule.Goals as goal
use Rattle.stepped_networks.proofs.ruling.rule.Goals.{else-cut-via-then-cut+else-has_empty_set, else-cut-via-else-cut}

pub returns-then-has_empty_set-clause-steps : goal.returns-then-has_empty_set-clause-steps
returns-then-has_empty_set-clause-steps c =
    let net = c.args.net.now in
    subst (λ b. AreStepsOf b c.args.c.now net.nodes net.words c.new-made.result.items) (sym c.if-cut.true)
    (subst (AreCutSteps c.args.c.now net.nodes net.words) (sym c.new-made.ensures.items) (cut-first c.args.c.now net.nodes net.words (c.has_empty_set.ensures.0 c.if-has_empty_set.true)))

pub loop-made-init : goal.loop-made-init
loop-made-init c =
    let net = c.args.net.now in
    let none : c.args.cut ≡ true → ¬ Contains net.words 0 = elim c.else-cut.branch [
      | else-cut-via-then-cut+else-has_empty_set w ↦ λ _ empty. absurd (let bad : true ≡ false = sym (w.has_empty_set.ensures.1 empty) ∙ w.if-has_empty_set.false in cc)
      | else-cut-via-else-cut w ↦ λ cut. absurd (let bad : true ≡ false = sym cut ∙ w.if-cut.false in cc)
    ] in
    record {
      at = subst (λ ss. AreAtPass c.args.c.now net.nodes c.args.cut net.words ss net.words) (sym c.new-made.ensures.items) (at_pass-first c.args.c.now net.nodes c.args.cut net.words none);
      network = c.requires.network;
      rest = search rules;
      trail = search rules;
    }

pub pass-requires-clause-proper : goal.pass-requires-clause-proper
pass-requires-clause-proper c =
    let nodes : c.loop-made.net.nodes ≡ c.args.net.now.nodes = ap (λ (y : Network). y.nodes) c.loop-made.invariant.rest in
    subst (λ k. All (IsProperStep k) c.args.all.now) (sym nodes) (subst (All (IsProperStep c.args.net.now.nodes)) (sym c.requires.all) (all_steps-proper c.args.net.now.nodes))

pub returns-then-branch-clause-steps : goal.returns-then-branch-clause-steps
returns-then-branch-clause-steps c =
    let m = c.args.c.now in
    let old = c.args.net.now in
    let net = c.loop-made.net in
    let new = c.pass.new.net in
    let inv = c.loop-made.invariant in
    let nodes : net.nodes ≡ old.nodes = ap (λ (y : Network). y.nodes) inv.rest in
    let ended = c.in_ok-pass.ensures.ended c.if-branch.true in
    let one = subst (λ ss. EndsAmong m old.nodes c.args.cut ss c.loop-made.made.items net.words c.pass.new.made.items new.words) c.requires.all
    (subst (λ k. EndsAmong m k c.args.cut c.args.all.now c.loop-made.made.items net.words c.pass.new.made.items new.words) nodes ended.1) in
    steps-ended m old.nodes c.args.cut old.words c.loop-made.made.items c.pass.new.made.items net.words new.words inv.at ended.0 one

pub returns-then-branch-clause-words : goal.returns-then-branch-clause-words
returns-then-branch-clause-words c =
    let m = c.args.c.now in
    let old = c.args.net.now in
    let net = c.loop-made.net in
    let new = c.pass.new.net in
    let inv = c.loop-made.invariant in
    let nodes : net.nodes ≡ old.nodes = ap (λ (y : Network). y.nodes) inv.rest in
    let ended = c.in_ok-pass.ensures.ended c.if-branch.true in
    let one = subst (λ ss. EndsAmong m old.nodes c.args.cut ss c.loop-made.made.items net.words c.pass.new.made.items new.words) c.requires.all
    (subst (λ k. EndsAmong m k c.args.cut c.args.all.now c.loop-made.made.items net.words c.pass.new.made.items new.words) nodes ended.1) in
    words-then old net new new.words inv.rest c.in_ok-pass.ensures.rest
    ∙ ap (λ ws. record old { words = ws }) (words-ended m old.nodes c.args.cut old.words c.loop-made.made.items c.pass.new.made.items net.words new.words inv.at one)

pub returns-then-branch-clause-trail : goal.returns-then-branch-clause-trail
returns-then-branch-clause-trail c =
    let old = c.args.net.now in
    let net = c.loop-made.net in
    let inv = c.loop-made.invariant in
    let nodes : net.nodes ≡ old.nodes = ap (λ (y : Network). y.nodes) inv.rest in
    KeepsTrail-then old.nodes old.words net.words c.pass.new.net.words c.args.trail.now.items c.loop-made.trail.items c.pass.new.trail.items
    inv.trail (KeepsTrail-nodes net.nodes old.nodes net.words c.pass.new.net.words c.loop-made.trail.items c.pass.new.trail.items nodes c.in_ok-pass.ensures.trail)

pub returns-then-len-before-clause-trail : goal.returns-then-len-before-clause-trail
returns-then-len-before-clause-trail c =
    let old = c.args.net.now in
    let net = c.loop-made.net in
    let inv = c.loop-made.invariant in
    let nodes : net.nodes ≡ old.nodes = ap (λ (y : Network). y.nodes) inv.rest in
    KeepsTrail-then old.nodes old.words net.words c.pass.new.net.words c.args.trail.now.items c.loop-made.trail.items c.pass.new.trail.items
    inv.trail (KeepsTrail-nodes net.nodes old.nodes net.words c.pass.new.net.words c.loop-made.trail.items c.pass.new.trail.items nodes c.in_ok-pass.ensures.trail)

pub returns-then-len-before-clause-steps : goal.returns-then-len-before-clause-steps
returns-then-len-before-clause-steps c =
    let m = c.args.c.now in
    let old = c.args.net.now in
    let net = c.loop-made.net in
    let new = c.pass.new.net in
    let inv = c.loop-made.invariant in
    let nodes : net.nodes ≡ old.nodes = ap (λ (y : Network). y.nodes) inv.rest in
    let goes = subst (λ ss. GoesThrough m old.nodes c.args.cut ss c.loop-made.made.items net.words c.pass.new.made.items new.words) c.requires.all
    (subst (λ k. GoesThrough m k c.args.cut c.args.all.now c.loop-made.made.items net.words c.pass.new.made.items new.words) nodes (c.in_ok-pass.ensures.going c.if-branch.false)) in
    let same : length c.pass.new.made.items ≡ length c.loop-made.made.items =
    sym (c.len.ensures ∙ c.pass.new.made.ok.0) ∙ c.if-len-before.true ∙ c.len-before.ensures ∙ c.loop-made.made.ok.0 in
    steps-done m old.nodes c.args.cut old.words c.loop-made.made.items c.pass.new.made.items net.words new.words inv.at goes same

pub returns-then-len-before-clause-words : goal.returns-then-len-before-clause-words
returns-then-len-before-clause-words c =
    let m = c.args.c.now in
    let old = c.args.net.now in
    let net = c.loop-made.net in
    let new = c.pass.new.net in
    let inv = c.loop-made.invariant in
    let nodes : net.nodes ≡ old.nodes = ap (λ (y : Network). y.nodes) inv.rest in
    let goes = subst (λ ss. GoesThrough m old.nodes c.args.cut ss c.loop-made.made.items net.words c.pass.new.made.items new.words) c.requires.all
    (subst (λ k. GoesThrough m k c.args.cut c.args.all.now c.loop-made.made.items net.words c.pass.new.made.items new.words) nodes (c.in_ok-pass.ensures.going c.if-branch.false)) in
    words-then old net new new.words inv.rest c.in_ok-pass.ensures.rest
    ∙ ap (λ ws. record old { words = ws }) (words-done m old.nodes c.args.cut old.words c.loop-made.made.items c.pass.new.made.items net.words new.words inv.at goes)

pub loop-made-smaller : goal.loop-made-smaller
loop-made-smaller c =
    let m = c.args.c.now in
    let old = c.args.net.now in
    let net = c.loop-made.net in
    let new = c.pass.new.net in
    let inv = c.loop-made.invariant in
    let nodes : net.nodes ≡ old.nodes = ap (λ (y : Network). y.nodes) inv.rest in
    let goes = subst (λ ss. GoesThrough m old.nodes c.args.cut ss c.loop-made.made.items net.words c.pass.new.made.items new.words) c.requires.all
    (subst (λ k. GoesThrough m k c.args.cut c.args.all.now c.loop-made.made.items net.words c.pass.new.made.items new.words) nodes (c.in_ok-pass.ensures.going c.if-branch.false)) in
    pass-less m old.nodes c.args.cut old.words c.loop-made.made.items c.pass.new.made.items net.words new.words inv.at goes
    (λ same. c.if-len-before.false (c.len.ensures ∙ c.pass.new.made.ok.0 ∙ same ∙ sym (c.len-before.ensures ∙ c.loop-made.made.ok.0)))

pub loop-made-preserved : goal.loop-made-preserved
loop-made-preserved c =
    let m = c.args.c.now in
    let old = c.args.net.now in
    let net = c.loop-made.net in
    let new = c.pass.new.net in
    let inv = c.loop-made.invariant in
    let passed = c.in_ok-pass.ensures in
    let nodes : net.nodes ≡ old.nodes = ap (λ (y : Network). y.nodes) inv.rest in
    let goes = subst (λ ss. GoesThrough m old.nodes c.args.cut ss c.loop-made.made.items net.words c.pass.new.made.items new.words) c.requires.all
    (subst (λ k. GoesThrough m k c.args.cut c.args.all.now c.loop-made.made.items net.words c.pass.new.made.items new.words) nodes (passed.going c.if-branch.false)) in
    record {
      at = at_pass-next m old.nodes c.args.cut old.words c.loop-made.made.items c.pass.new.made.items net.words new.words inv.at goes;
      network = subst (λ k. IsNetwork m k new.words) nodes passed.network;
      rest = words-then old net new new.words inv.rest passed.rest;
      trail = KeepsTrail-then old.nodes old.words net.words new.words c.args.trail.now.items c.loop-made.trail.items c.pass.new.trail.items
          inv.trail (KeepsTrail-nodes net.nodes old.nodes net.words new.words c.loop-made.trail.items c.pass.new.trail.items nodes passed.trail);
    }
