use Rattle.std.proofs.Common.{sym, subst}
use Rattle.slice_copy.specs.Copies.{CopyState, IsSweptCopy}
use Rattle.slice_copy.proofs.Copies.{IsSweptCopy-rows}
use Rattle.slice_copy.proofs.copy.SliceCopy.sweep_rows.Goals as goal

pub returns-clause-swept : goal.returns-clause-swept
returns-clause-swept g c = λ going whole before.
    let m = g.C.Compose.algebra c.args.c.now in
    let own = c.self.inside in
    let work = c.sweep_planes.new.pairs in
    let w = c.sweep_planes.ensures in
    let copy : CopyState = record { slice = record { nodes = own.pairs.nodes; from = own.from; to = own.to }; rows = own.rows; work = own.pairs; bases = own.tables.bases } in
    let bases = c.sweep_planes.new.tables.bases in
    subst (λ n. IsSweptCopy m (record { slice = record { nodes = n; from = own.from; to = own.to }; rows = own.rows; work = work; bases = bases }) c.args.end)
    (sym w.step.nodes)
    (IsSweptCopy-rows m copy work bases c.args.first c.args.end w.step w.tables (w.settled going whole)
    (subst (λ (y : CopyState). IsSweptCopy m y c.args.first) (sym c.self.view_is) before))
