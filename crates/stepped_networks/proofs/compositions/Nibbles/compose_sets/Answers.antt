use Rattle.stepped_networks.proofs.Halves.{composition-halves_l}
use Rattle.stepped_networks.proofs.compositions.Nibbles.compose_sets.Goals as goal

pub returns-clause-value : goal.returns-clause-value
returns-clause-value c =
    let m = c.args.self.now in
    let a = c.args.a in
    let p = rw c.self.view_is at c.self.invariant in
    let table = rw c.self.view_is at c.lawful.ensures.table in
    rw (c.union.ensures, c.compose_place-low.ensures, c.compose_place-high.ensures, c.place_of.ensures.value, c.place_of-2.ensures.value)
    (composition-halves_l m p.few a c.requires.first c.args.b table)
