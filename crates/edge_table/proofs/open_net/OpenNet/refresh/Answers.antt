use Rattle.std.proofs.Common.{◌≡◌, ℕ, ◌<◌, ◌≤◌, ◌∙◌, List, length, sym, ap, subst, arith}
use Rattle.network_words.specs.Edge.{edge_count}
use Rattle.network_words.specs.Network.{IsNetwork}
use Rattle.network_words.proofs.Refinements.{IsNetwork-refines}
use Rattle.edge_table.specs.Opening.{OpenState, PassState, algebra_of}
use Rattle.edge_table.proofs.Passes.{seen-network, ReadsSome-same, IsRefreshed-none, IsRefreshed-more, IsRefreshed-all}
use Rattle.edge_table.proofs.open_net.OpenNet.refresh.Goals as goal

pub loop-edge-init : goal.loop-edge-init
loop-edge-init c = record { pass = c.requires.pass; sofar = IsRefreshed-none c.args.pass.now c.args.snap.now (edge_count c.args.self.now.opening.nodes) c.requires.snap }

pub loop-edge-preserved : goal.loop-edge-preserved
loop-edge-preserved c =
    let nodes = c.self.invariant.nodes_are ∙ ap (λ (t : OpenState). t.opening.nodes) c.self.view_is in
    let below : c.loop-edge.edge < edge_count c.args.self.now.opening.nodes = subst (λ n. c.loop-edge.edge < edge_count n) nodes c.loop-edge-test.true in
    record {
      pass = c.load-word.ensures.pass;
      sofar = IsRefreshed-more c.args.pass.now c.loop-edge.pass c.load-word.new.pass c.loop-edge.snap c.take.new.self (edge_count c.args.self.now.opening.nodes) c.loop-edge.edge c.load-word.result
          c.loop-edge.invariant.sofar c.load-word.ensures.sees c.load-word.ensures.shown c.take.ensures.words below;
    }

pub returns-clause-reads : goal.returns-clause-reads
returns-clause-reads c =
    let h = c.loop-edge.invariant.sofar in
    let nodes = c.self.invariant.nodes_are ∙ ap (λ (t : OpenState). t.opening.nodes) c.self.view_is in
    let end : edge_count c.args.self.now.opening.nodes ≤ c.loop-edge.edge = subst (λ x. edge_count x ≤ c.loop-edge.edge) nodes c.loop-edge-test.false in
    let all : c.loop-edge.edge ≡ edge_count c.args.self.now.opening.nodes = omega (arith, end, h.bounded) in
    ReadsSome-same c.loop-edge.edge (edge_count c.args.pass.now.nodes) c.args.pass.now c.loop-edge.pass (all ∙ ap edge_count (sym c.requires.pass.nodes)) h.reads

pub returns-clause-snap : goal.returns-clause-snap
returns-clause-snap c =
    let n = c.args.self.now.opening.nodes in
    let nodes = c.self.invariant.nodes_are ∙ ap (λ (t : OpenState). t.opening.nodes) c.self.view_is in
    let end : edge_count n ≤ c.loop-edge.edge = subst (λ x. edge_count x ≤ c.loop-edge.edge) nodes c.loop-edge-test.false in
    let own = rw (← c.pass.view_is) at c.requires.pass in
    let size : length c.args.pass.now.actor.seen ≡ edge_count n =
    subst (λ (p : PassState). length p.actor.seen ≡ edge_count n) c.pass.view_is (c.pass.invariant.proper.seen.length_is ∙ ap (λ x. edge_count x) own.nodes) in
    IsRefreshed-all c.args.pass.now c.loop-edge.pass c.loop-edge.snap (edge_count n) c.loop-edge.edge c.loop-edge.invariant.sofar end size

pub returns-clause-network : goal.returns-clause-network
returns-clause-network c =
    let m = algebra_of c.args.self.now.opening in
    let h = c.loop-edge.invariant.sofar in
    let n = c.args.self.now.opening.nodes in
    let nodes = c.self.invariant.nodes_are ∙ ap (λ (t : OpenState). t.opening.nodes) c.self.view_is in
    let end : edge_count n ≤ c.loop-edge.edge = subst (λ x. edge_count x ≤ c.loop-edge.edge) nodes c.loop-edge-test.false in
    let own = rw (← c.pass.view_is) at c.requires.pass in
    let net : IsNetwork m c.args.pass.now.nodes c.args.pass.now.actor.seen = subst (λ (p : PassState). IsNetwork m p.nodes p.actor.seen) c.pass.view_is
    (seen-network m c.pass.inside.nodes c.pass.inside.full c.pass.inside.seat.me.0.actor own.full c.pass.invariant.proper) in
    let seen = IsNetwork-refines m n c.loop-edge.pass.actor.seen c.args.pass.now.actor.seen (subst (λ k. IsNetwork m k c.args.pass.now.actor.seen) c.requires.pass.nodes net) h.reads.length_is h.reads.within in
    let size : length c.args.pass.now.actor.seen ≡ edge_count n = net.length_is ∙ ap (λ x. edge_count x) c.requires.pass.nodes in
    subst (λ (ws : List ℕ). IsNetwork m n ws) (sym (IsRefreshed-all c.args.pass.now c.loop-edge.pass c.loop-edge.snap (edge_count n) c.loop-edge.edge h end size)) seen
