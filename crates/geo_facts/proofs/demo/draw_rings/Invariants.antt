use Rattle.std.proofs.Common.{◌≡◌, ◌*◌}
use Rattle.geo_facts.specs.Demo.{state, AreDemoRings}
use Rattle.geo_facts.proofs.demo.draw_rings.Given as goal

abbrev pub invariant-loop-node : goal.invariant-loop-node
invariant-loop-node l = record {
  rings : AreDemoRings l.fn.draws.state l.node l.rings.items;
  state_is : l.draws.state ≡ state l.fn.draws.state (4 * l.node);
}
