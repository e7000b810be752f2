use Rattle.std.proofs.Common.{ℕ, sym, subst}
use Rattle.edge_propagation.specs.Worklist.{IsBegun}
use Rattle.slice_copy.specs.Copies.{CopyState, IsCopyOf}
use Rattle.slice_copy.proofs.Copies.{IsCopyOf-queue, IsSettledCopy-begun}
use Rattle.slice_copy.proofs.copy.SliceCopy.begin.Goals as goal

pub returns-clause-settled : goal.returns-clause-settled
returns-clause-settled g c =
    let m = g.C.Compose.algebra c.args.c.now in
    let own = c.self.inside in
    let copy : CopyState = record { slice = record { nodes = own.pairs.nodes; from = own.from; to = own.to }; rows = own.rows; work = own.pairs; bases = own.tables.bases } in
    let work = c.push_lesser.new.self in
    IsSettledCopy-begun m c.args.words.now copy work (subst (IsCopyOf m c.args.words.now) (sym c.self.view_is) c.take_over.ensures.copy) c.push_lesser.ensures.rest
    (subst (λ (full : ℕ). IsBegun work full work.nodes) c.full.ensures c.push_lesser.ensures.begun)

pub returns-clause-copy : goal.returns-clause-copy
returns-clause-copy g c =
    let m = g.C.Compose.algebra c.args.c.now in
    let own = c.self.inside in
    let copy : CopyState = record { slice = record { nodes = own.pairs.nodes; from = own.from; to = own.to }; rows = own.rows; work = own.pairs; bases = own.tables.bases } in
    IsCopyOf-queue m c.args.words.now copy c.push_lesser.new.self (subst (IsCopyOf m c.args.words.now) (sym c.self.view_is) c.take_over.ensures.copy) c.push_lesser.ensures.rest
