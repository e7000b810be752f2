use Rattle.std.proofs.Common.{◌≡◌, ◌∷◌, reverse, refl, ap, ◌∙◌}
use Rattle.refutation.specs.declared.walking.Entered.{Entered}
use Rattle.stepped_networks.specs.Networks.{NetworkStack}
use Rattle.refutation.specs.Ways.{IsFinished}
use Rattle.refutation.proofs.Ways.{reverse-front, reverse-push, same-node, stack-left}
use Rattle.refutation.proofs.Tracings.{tracing-last, tracing-before, tracing-under, tracing-network, tracing-visited}
use Rattle.refutation.proofs.tracing.trace_next.Goals as goal

pub is_finished-requires : goal.is_finished-requires
is_finished-requires c =
    let s = c.loop-way.networks in
    rw c.deref.ensures.value (tracing-last c.args.networks.now.algebra c.args.net.now.nodes c.args.net.now.words c.args.nodes.now c.args.x c.args.traced.now.items (reverse c.loop-way.way.items) (s.top ∷ s.under) c.requires.below c.loop-way.invariant.tracing)

pub leave-requires : goal.leave-requires
leave-requires c =
    let s = c.loop-way.networks in
    let f : IsFinished c.args.nodes.now (reverse c.loop-way.way.items) = rw c.deref.ensures.value at (c.is_finished.ensures.finished c.loop-way-test.true) in
    tracing-under c.args.networks.now.algebra c.args.net.now.nodes c.args.net.now.words c.args.nodes.now c.args.x c.args.traced.now.items (reverse c.loop-way.way.items) s.top s.under c.loop-way.invariant.tracing f c.requires.below

pub loop-way-preserved : goal.loop-way-preserved
loop-way-preserved c =
    let s = c.loop-way.networks in
    let new = c.leave.new.self in
    let m = c.args.networks.now.algebra in
    let net = c.args.net.now in
    let nodes = c.args.nodes.now in
    let xs = c.loop-way.way.items in
    let f : IsFinished nodes (reverse xs) = rw c.deref.ensures.value at (c.is_finished.ensures.finished c.loop-way-test.true) in
    let before : reverse c.pop-last.new.self.items ≡ f.before = ap reverse c.pop-last.ensures.rest ∙ reverse-front xs f.before f.at f.way_is _ c.loop-way.way.ok.0 in
    let under : s.under ≡ new.top ∷ new.under = ap (λ (y : NetworkStack). y.under) c.leave.ensures in
    record {
      tracing = rw (before, ← under) (tracing-before m net.nodes net.words nodes c.args.x c.args.traced.now.items (reverse xs) s.top s.under c.loop-way.invariant.tracing f);
      rest = stack-left c.args.networks.now s new c.loop-way.invariant.rest c.leave.ensures;
    }

pub enter_child-requires-clause-network : goal.enter_child-requires-clause-network
enter_child-requires-clause-network c =
    let s = c.loop-way.networks in
    let inv = c.loop-way.invariant in
    let algebra : s.algebra ≡ c.args.networks.now.algebra = ap (λ (y : NetworkStack). y.algebra) inv.rest in
    rw algebra (tracing-network c.args.networks.now.algebra c.args.net.now.nodes c.args.net.now.words c.args.nodes.now c.args.x c.args.traced.now.items (reverse c.loop-way.way.items) s.top s.under inv.tracing)

pub returns-clause-tracing : goal.returns-clause-tracing
returns-clause-tracing c =
    let m = c.args.networks.now.algebra in
    let net = c.args.net.now in
    let nodes = c.args.nodes.now in
    let s = c.loop-way.networks in
    let inv = c.loop-way.invariant in
    let new = c.enter_child.new.networks in
    let algebra : s.algebra ≡ m = ap (λ (y : NetworkStack). y.algebra) inv.rest in
    let made = c.args.traced.now.items in
    let a = rw algebra at c.in_ok-steps.ensures.ruled made inv.tracing in
    let same : a.node ≡ c.index-nodes-x.result = same-node nodes c.args.x a.node c.index-nodes-x.result a.is_there c.index-nodes-x.is in
    let entered : Entered = record { node = c.args.x; next = 0 } in
    let way = ap reverse c.in_ok-push_traced.ensures.way ∙ reverse-push c.enter_child.new.way.items entered in
    rw (way, c.in_ok-push_traced.ensures.traced, ← same)
    (tracing-visited m net.nodes net.words nodes c.args.x made a.node a.is_there a.network c.in_ok-steps.steps.items new.top a.are_steps a.worked_is
    (reverse c.enter_child.new.way.items) new.under entered refl refl a.is_network a.tracing)
