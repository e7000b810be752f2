use Rattle.std.proofs.Common.{◌≡◌, ◌+◌, ◌*◌, ◌<◌, sym, ◌∙◌, ap, arith}
use Rattle.edge_propagation.specs.Worklist.{set_of_bytes}
use Rattle.edge_propagation.proofs.Planes.{sets_in-at}
use Rattle.edge_propagation.proofs.pairs.PairSets.get.Goals as goal

pub returns : goal.returns
returns g c =
    let n = c.self.inside.nodes in
    let p = c.self.inside.planes in
    let bytes = c.self.inside.bytes.items in
    let i = c.args.i in
    let j = c.args.j in
    let few = c.self.invariant.0.bounded in
    let ib : i < n = rw (← c.self.view_is) at c.requires.first in
    let jb : j < n = rw (← c.self.view_is) at c.requires.second in
    let planes : p ≡ g.row.P = rw (← c.self.view_is) at c.requires.planes in
    let at : c.byte_place.result ≡ 256 * (p * i) + j = c.byte_place.ensures ∙ ap (λ q. 256 * (q * i) + j) (sym planes) in
    rw (← c.self.view_is)
    (c.join_bytes.ensures ∙ ap (λ xs. set_of_bytes xs g.row.P c.byte_place.result) c.deref.ensures.value ∙ ap (λ q. set_of_bytes bytes q c.byte_place.result) (sym planes) ∙ ap (set_of_bytes bytes p) at
    ∙ sym (sets_in-at bytes p n i j ib (omega (arith, jb, few))))
