use Rattle.std.proofs.Common.{◌≡◌, ◌∷◌, ◌++◌, [], refl, rules}
use Rattle.geo_facts.proofs.Drawings.{state-four, state-none, AreDemoRings-none, AreDemoRings-more}
use Rattle.geo_facts.proofs.demo.draw_rings.Goals as goal

pub loop-node-init : goal.loop-node-init
loop-node-init c =
    let seed = c.args.draws.now.state in
    record { rings = AreDemoRings-none seed c.new-rings.result.items c.new-rings.ensures.items; state_is = state-none seed 0 refl }

pub loop-node-preserved : goal.loop-node-preserved
loop-node-preserved c =
    let seed = c.args.draws.now.state in
    let node = c.loop-node.node in
    let ring = c.in_ok-ring.ring in
    let x = c.loop-node.draws.state in
    let more : c.push.new.self.items ≡ c.loop-node.rings.items ++ ring ∷ [] = search rules in
    record {
      rings = AreDemoRings-more seed node x c.loop-node.rings.items c.push.new.self.items ring c.loop-node.invariant.rings c.loop-node.invariant.state_is c.in_ok-ring.ensures.ring more;
      state_is = state-four seed node x c.draw_ring.new.draws.state c.loop-node.invariant.state_is c.draw_ring.ensures.state;
    }
