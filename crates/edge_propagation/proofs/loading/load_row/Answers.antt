use Rattle.std.proofs.Common.{◌<◌, ◌≤◌, refl, ◌∙◌, ap, arith}
use Rattle.network_words.specs.Network.{relation_between}
use Rattle.edge_propagation.specs.Worklist.{Worklist}
use Rattle.edge_propagation.proofs.Loads.{IsLoaded-diagonal, IsRowLoaded-pair, IsLoaded-row}
use Rattle.edge_propagation.proofs.Planes.{set-fits}
use Rattle.edge_propagation.proofs.loading.load_row.Goals as goal

pub put-requires-clause-fits : goal.put-requires-clause-fits
put-requires-clause-fits g c = set-fits (g.C.Compose.algebra c.args.c.now) c.identity_of.result g.row.P c.identity_of.ensures c.requires.enough

pub loop-j-init : goal.loop-j-init
loop-j-init g c = record {
  planes = refl;
  loaded = rw c.put.ensures.value (IsLoaded-diagonal (g.C.Compose.algebra c.args.c.now) c.args.work.now.nodes c.args.words.now c.args.work.now c.args.i c.identity_of.result c.put.ensures.sized c.requires.below refl c.requires.before);
}

pub loop-j-preserved : goal.loop-j-preserved
loop-j-preserved g c =
    let m = g.C.Compose.algebra c.args.c.now in
    let p = c.loop-j.invariant in
    let nodes = ap (λ (y : Worklist). y.nodes) c.put.ensures.value in
    let below : c.loop-j.j < c.args.work.now.nodes = omega (arith, c.loop-j-test.true, c.nodes-nodes.ensures.value, nodes) in
    record {
      planes = ap (λ (y : Worklist). y.planes) c.load_pair.ensures.value ∙ p.planes;
      loaded = rw c.load_pair.ensures.value
          (IsRowLoaded-pair (g.C.Compose.algebra c.args.c.now) c.args.work.now.nodes c.args.words.now c.loop-j.work c.args.i c.loop-j.j _ _ c.load_pair.ensures.sized (omega (arith, c.loop-j.auto.j)) below
          (ap (λ n. relation_between m n c.args.words.now c.args.i c.loop-j.j) p.loaded.nodes) (ap (λ n. relation_between m n c.args.words.now c.loop-j.j c.args.i) p.loaded.nodes) p.loaded);
    }

pub returns-clause-loaded : goal.returns-clause-loaded
returns-clause-loaded g c =
    let p = c.loop-j.invariant.loaded in
    let nodes = ap (λ (y : Worklist). y.nodes) c.put.ensures.value in
    let all : c.args.work.now.nodes ≤ c.loop-j.j = omega (arith, c.loop-j-test.false, c.nodes-nodes.ensures.value, nodes) in
    IsLoaded-row (g.C.Compose.algebra c.args.c.now) c.args.work.now.nodes c.args.words.now c.loop-j.work c.args.i
    (record { nodes = p.nodes; before = p.before; row = λ q l h. p.row q l (omega arith) })
