use Rattle.std.proofs.Common.{◌+◌, ◌*◌, ◌<◌, sym, ◌∙◌, ap, arith}
use Rattle.edge_propagation.specs.Worklist.{set_of_bytes}
use Rattle.edge_propagation.proofs.Planes.{sets_in-at}
use Rattle.edge_propagation.proofs.pairs.PairSets.set.Goals as goal

pub returns : goal.returns
returns c =
    let n = c.self.inside.nodes in
    let p = c.self.inside.planes in
    let bytes = c.self.inside.bytes.items in
    let i = c.args.i in
    let j = c.args.j in
    let few = c.self.invariant.0.bounded in
    let ib : i < n = rw (← c.self.view_is) at c.requires.first in
    let jb : j < n = rw (← c.self.view_is) at c.requires.second in
    rw (← c.self.view_is)
    (c.read_set.ensures ∙ ap (λ xs. set_of_bytes xs p (256 * (p * i) + j)) c.deref.ensures.value ∙ sym (sets_in-at bytes p n i j ib (omega (arith, jb, few))))
