use Rattle.std.proofs.Common.{◌≡◌, ◌<◌, ◌≤◌, ◌∙◌, ℕ, List, sym, ap, subst, arith}
use Rattle.network_words.specs.Edge.{edge_count}
use Rattle.network_words.specs.Network.{IsNetwork}
use Rattle.network_words.proofs.Refinements.{IsNetwork-refines}
use Rattle.edge_table.specs.Opening.{OpenState, PassState, algebra_of}
use Rattle.edge_table.proofs.Passes.{seen-network, ReadsSome-same, IsReadAgain-none, IsReadAgain-more, IsReadAgain-differs}
use Rattle.edge_table.proofs.open_net.OpenNet.refresh_again.Goals as goal

pub loop-edge-init : goal.loop-edge-init
loop-edge-init c = record { pass = c.requires.pass; sofar = IsReadAgain-none c.args.pass.now c.args.snap.now c.requires.snap; bounded = omega arith }

pub loop-edge-preserved : goal.loop-edge-preserved
loop-edge-preserved c =
    let nodes = c.self.invariant.nodes_are ∙ ap (λ (t : OpenState). t.opening.nodes) c.self.view_is in
    let below : c.loop-edge.edge < edge_count c.args.self.now.opening.nodes = subst (λ n. c.loop-edge.edge < edge_count n) nodes c.loop-edge-test.true in
    record {
      pass = c.load-word.ensures.pass;
      sofar = IsReadAgain-more c.loop-edge.edge c.args.pass.now c.loop-edge.pass c.load-word.new.pass c.loop-edge.snap c.take-less.new.self c.loop-edge.edge c.load-word.result c.loop-edge.less
          c.take-less.result c.loop-edge.invariant.sofar c.load-word.ensures.sees c.load-word.ensures.shown c.take-less.ensures.words c.take-less.ensures.changed;
      bounded = omega (arith, below);
    }

pub returns-clause-reads : goal.returns-clause-reads
returns-clause-reads c =
    let h = c.loop-edge.invariant in
    let nodes = c.self.invariant.nodes_are ∙ ap (λ (t : OpenState). t.opening.nodes) c.self.view_is in
    let end : edge_count c.args.self.now.opening.nodes ≤ c.loop-edge.edge = subst (λ x. edge_count x ≤ c.loop-edge.edge) nodes c.loop-edge-test.false in
    let all : c.loop-edge.edge ≡ edge_count c.args.self.now.opening.nodes = omega (arith, end, h.bounded) in
    ReadsSome-same c.loop-edge.edge (edge_count c.args.pass.now.nodes) c.args.pass.now c.loop-edge.pass (all ∙ ap edge_count (sym c.requires.pass.nodes)) h.sofar.reads

pub returns-clause-less : goal.returns-clause-less
returns-clause-less c = IsReadAgain-differs c.loop-edge.edge c.args.pass.now c.loop-edge.pass c.loop-edge.snap c.loop-edge.less c.loop-edge.invariant.sofar

pub returns-clause-network : goal.returns-clause-network
returns-clause-network c =
    let m = algebra_of c.args.self.now.opening in
    let h = c.loop-edge.invariant.sofar in
    let n = c.args.self.now.opening.nodes in
    let own = rw (← c.pass.view_is) at c.requires.pass in
    let net : IsNetwork m c.args.pass.now.nodes c.args.pass.now.actor.seen = subst (λ (p : PassState). IsNetwork m p.nodes p.actor.seen) c.pass.view_is
    (seen-network m c.pass.inside.nodes c.pass.inside.full c.pass.inside.seat.me.0.actor own.full c.pass.invariant.proper) in
    let seen = IsNetwork-refines m n c.loop-edge.pass.actor.seen c.args.pass.now.actor.seen (subst (λ k. IsNetwork m k c.args.pass.now.actor.seen) c.requires.pass.nodes net) h.reads.length_is h.reads.within in
    subst (λ (ws : List ℕ). IsNetwork m n ws) (sym h.snap_is) seen
