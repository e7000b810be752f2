use Rattle.std.proofs.Common.{◌≡◌, ◌↔◌, IsTrue, subst, arith, rules, inl, inr}
use Rattle.std.proofs.lemmas.Bool.{cases_lt}
use Rattle.scenario.specs.ScenarioFault.{ComposesAt}
use Rattle.scenario.proofs.LookUps.{next-lt, outer-lt, entry-lt, ComposesAt-read}
use Rattle.scenario.proofs.triples.first_broken_third.Goals as goal

pub bounds-bases-next : goal.bounds-bases-next
bounds-bases-next g c =
    let m = g.C.Compose.algebra c.args.c.now in
    let n = c.args.net.now.nodes in
    let k = c.loop-k.k in
    next-lt m n c.args.bases.now c.args.i c.args.j k c.edge-pair.result c.edge-next.result c.requires.shape c.requires.order (omega arith) (omega arith) c.edge-pair.ensures.value c.edge-next.ensures.value

pub bounds-bases-pair-in-loop-k : goal.bounds-bases-pair-in-loop-k
bounds-bases-pair-in-loop-k g c =
    let m = g.C.Compose.algebra c.args.c.now in
    let n = c.args.net.now.nodes in
    let k = c.loop-k.k in
    outer-lt m n c.args.bases.now c.args.i c.args.j k c.edge-pair.result c.edge-next.result c.requires.shape c.requires.order (omega arith) (omega arith) c.edge-pair.ensures.value c.edge-next.ensures.value

pub bounds-entries-row : goal.bounds-entries-row
bounds-entries-row g c =
    let m = g.C.Compose.algebra c.args.c.now in
    let n = c.args.net.now.nodes in
    let k = c.loop-k.k in
    entry-lt m n c.args.bases.now c.args.i c.args.j k c.edge-pair.result c.edge-next.result c.requires.shape c.requires.order (omega arith) (omega arith) c.edge-pair.ensures.value c.edge-next.ensures.value
    c.args.entries.now c.size.result c.from.result c.from-second.result c.requires.entries c.size.ensures.value c.from.ensures c.from-second.ensures

pub returns-then-not-has : goal.returns-then-not-has
returns-then-not-has g c =
    let m = g.C.Compose.algebra c.args.c.now in
    let n = c.args.net.now.nodes in
    let k = c.loop-k.k in
    let read : IsTrue c.has.result ↔ ComposesAt m n c.args.bases.now c.args.i c.args.j k =
    ComposesAt-read m n c.args.bases.now c.args.i c.args.j k c.edge-pair.result c.edge-next.result c.requires.shape c.requires.order (omega arith) (omega arith) c.edge-pair.ensures.value c.edge-next.ensures.value
    c.args.entries.now c.size.result c.from.result c.from-second.result c.requires.entries c.size.ensures.value c.from.ensures c.from-second.ensures
    c.index-entries-row.result c.from-whole.result c.has.result c.index-entries-row.is c.from-whole.ensures c.has.ensures in
    record {
      above = omega arith;
      below = omega arith;
      here = λ h. (let yes = read.1 h in search rules);
      before = c.loop-k.invariant;
    }

pub loop-k-preserved : goal.loop-k-preserved
loop-k-preserved g c =
    let m = g.C.Compose.algebra c.args.c.now in
    let n = c.args.net.now.nodes in
    let k = c.loop-k.k in
    let read : IsTrue c.has.result ↔ ComposesAt m n c.args.bases.now c.args.i c.args.j k =
    ComposesAt-read m n c.args.bases.now c.args.i c.args.j k c.edge-pair.result c.edge-next.result c.requires.shape c.requires.order (omega arith) (omega arith) c.edge-pair.ensures.value c.edge-next.ensures.value
    c.args.entries.now c.size.result c.from.result c.from-second.result c.requires.entries c.size.ensures.value c.from.ensures c.from-second.ensures
    c.index-entries-row.result c.from-whole.result c.has.result c.index-entries-row.is c.from-whole.ensures c.has.ensures in
    let here : ComposesAt m n c.args.bases.now c.args.i c.args.j k = read.0 (search rules) in
    λ q above below. elim (cases_lt q k) [
      | inl less ↦ c.loop-k.invariant q above less
      | inr more ↦ (let e : k ≡ q = omega arith in subst (ComposesAt m n c.args.bases.now c.args.i c.args.j) e here)
    ]
