use Rattle.std.proofs.Common.{ap, sym, ◌∙◌, subst}
use Rattle.network_words.specs.Closure.{IsClosed}
use Rattle.slice_copy.specs.Copies.{Slice, CopyState, IsCopyOf}
use Rattle.slice_copy.proofs.Copies.{IsCopyOf-queue, IsSettledCopy-closed}
use Rattle.slice_copy.proofs.copy.SliceCopy.begin_closed.Goals as goal

pub returns-clause-settled : goal.returns-clause-settled
returns-clause-settled g c =
    let m = g.C.Compose.algebra c.args.c.now in
    let own = c.self.inside in
    let copy : CopyState = record { slice = record { nodes = own.pairs.nodes; from = own.from; to = own.to }; rows = own.rows; work = own.pairs; bases = own.tables.bases } in
    let nodes = ap (λ (y : CopyState). y.slice.nodes) c.self.view_is ∙ ap (λ (s : Slice). s.nodes) c.take_over.ensures.slice in
    IsSettledCopy-closed m c.args.words.now copy c.clear.new.self (subst (IsCopyOf m c.args.words.now) (sym c.self.view_is) c.take_over.ensures.copy) c.clear.ensures.rest
    (subst (λ n. IsClosed m n c.args.words.now) (sym nodes) c.requires.closed)

pub returns-clause-copy : goal.returns-clause-copy
returns-clause-copy g c =
    let m = g.C.Compose.algebra c.args.c.now in
    let own = c.self.inside in
    let copy : CopyState = record { slice = record { nodes = own.pairs.nodes; from = own.from; to = own.to }; rows = own.rows; work = own.pairs; bases = own.tables.bases } in
    IsCopyOf-queue m c.args.words.now copy c.clear.new.self (subst (IsCopyOf m c.args.words.now) (sym c.self.view_is) c.take_over.ensures.copy) c.clear.ensures.rest
