use Rattle.std.proofs.Common.{rules, ◌≡◌, ℕ, List, sym, ap, ◌∙◌, subst, arith, refl}
use Rattle.network_words.specs.Network.{Refines}
use Rattle.edge_propagation.specs.Worklist.{Worklist, Room}
use Rattle.edge_propagation.specs.Propagation.{IsInStep, IsPlanes}
use Rattle.edge_propagation.proofs.Loads.{IsInStep-queue, AreConverses-in_step}
use Rattle.edge_propagation.proofs.PlaneCounts.{planes-le}
use Rattle.closure_seq.proofs.closing.close_within.Goals as goal

pub close_loaded-requires-clause-within : goal.close_loaded-requires-clause-within
close_loaded-requires-clause-within g c =
    let m = g.C.Compose.algebra c.args.c.now in
    let n = c.args.net.now.nodes in
    let closed = c.args.closed.now in
    let work = c.load_planes.new.work in
    let nodes : c.work.inside.pairs.nodes ≡ n = ap (λ (r : Room). r.nodes) c.work.view_is ∙ c.requires.nodes in
    let loaded : IsInStep m n closed work = subst (λ k. IsInStep m k closed work) nodes c.load_planes.ensures.in_step in
    let within : Refines c.words.result.now closed = search rules in
    record {
      larger = closed;
      closed = c.requires.closed;
      in_step = IsInStep-queue m n closed work c.clear.new.self c.clear.ensures.rest loaded;
      within = subst (λ (ws : List ℕ). Refines ws closed) c.words.ensures.value within;
    }

pub close_loaded-requires-clause-ready : goal.close_loaded-requires-clause-ready
close_loaded-requires-clause-ready g c =
    let m = g.C.Compose.algebra c.args.c.now in
    let loaded = c.load_planes.ensures in
    let w = close_loaded-requires-clause-within g c in
    let work = c.clear.new.self in
    let same = ap (λ (y : Worklist). y.planes) c.clear.ensures.rest in
    let planes : IsPlanes work.planes = subst IsPlanes (sym same) loaded.planes in
    record {
      calculus = loaded.calculus;
      few = planes-le work.planes planes;
      enough = omega (arith, loaded.enough, same);
      planes_are = refl;
      sets = AreConverses-in_step m c.args.net.now.nodes w.larger work loaded.calculus w.closed.network w.in_step;
    }
