use Rattle.std.proofs.Common.{◌≡◌, ◌<◌, sym, subst, ◌∙◌, arith}
use Rattle.std.proofs.lemmas.List.{get_or_read}
use Rattle.network_words.specs.Edge.{edge_at, edge_count}
use Rattle.network_words.proofs.Edges.{edge_at-lt}
use Rattle.stepped_networks.specs.Rows.{AreShifts, row_shift}
use Rattle.stepped_networks.proofs.rows.Rows.edge_at.Goals as goal

pub returns-clause-value : goal.returns-clause-value
unfolding edge_at
returns-clause-value c =
    let shifts : AreShifts c.args.self.now c.self.inside.shifts.items = rw c.self.view_is at c.self.invariant in
    let items = c.self.inside.shifts.items in
    let row : c.index.result.now ≡ row_shift c.args.self.now c.args.i =
    get_or_read items _ _ (omega (arith, shifts.length_is, c.requires.order, c.requires.below)) c.index.ensures 0
    ∙ shifts.each c.args.i (omega (arith, c.requires.order, c.requires.below)) in
    omega (arith, row, shifts.few, c.requires.order, c.requires.below)

pub returns-clause-below : goal.returns-clause-below
returns-clause-below c =
    subst (λ e. e < edge_count c.args.self.now) (sym (returns-clause-value c)) (edge_at-lt c.args.self.now c.args.i c.args.j c.requires.order c.requires.below)
