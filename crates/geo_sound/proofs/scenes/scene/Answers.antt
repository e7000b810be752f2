use Rattle.std.proofs.Common.{length, replicate, sym, ap, subst, ◌∙◌}
use Rattle.calculus_table.specs.Composition.{full_of}
use Rattle.calculus_builtin.specs.Rcc8.{rcc8_algebra}
use Rattle.network_words.specs.Edge.{edge_count}
use Rattle.network_words.specs.Network.{Network}
use Rattle.network_words.specs.Closure.{IsClosed}
use Rattle.network_words.specs.Scenario.{as_network}
use Rattle.geo_sound.proofs.DrawnNetworks.{is_scene, scenario-closed}
use Rattle.geo_sound.proofs.scenes.scene.Goals as goal

pub returns-clause-scene : goal.returns-clause-scene
returns-clause-scene g c =
    let relations = c.in_ok-scenario.scenario in
    is_scene c.args.polygons.now c.make_atomic.new.net relations c.in_ok-scenario.ensures.relations
    (c.make_atomic.ensures ∙ ap (λ (n : Network). record n { words = as_network relations }) c.in_ok-net.ensures)

pub returns-clause-closed : goal.returns-clause-closed
returns-clause-closed g c =
    let relations = c.in_ok-scenario.scenario in
    let same = c.make_atomic.ensures ∙ ap (λ (n : Network). record n { words = as_network relations })
    c.in_ok-net.ensures in
    let all = replicate (edge_count (length c.args.polygons.now)) (full_of rcc8_algebra) in
    subst (λ (n : Network). IsClosed rcc8_algebra n.nodes n.words) (sym same)
    (scenario-closed (length c.args.polygons.now) all relations c.in_ok-scenario.ensures.scenario)
