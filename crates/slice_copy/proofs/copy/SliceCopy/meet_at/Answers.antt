use Rattle.std.proofs.Common.{sym, subst}
use Rattle.slice_copy.specs.Copies.{CopyState, IsOpenCopy, TakesOver}
use Rattle.slice_copy.proofs.Copies.{TakesOver-met}
use Rattle.slice_copy.proofs.copy.SliceCopy.meet_at.Goals as goal

pub returns-clause-copy : goal.returns-clause-copy
returns-clause-copy g c =
    let m = g.C.Compose.algebra c.args.c.now in
    let own = c.self.inside in
    let work = c.meet_pair_planes.new.pairs in
    let copy : CopyState = record { slice = record { nodes = own.pairs.nodes; from = own.from; to = own.to }; rows = own.rows; work = own.pairs; bases = own.tables.bases } in
    let after : CopyState = record copy { slice = record copy.slice { nodes = work.nodes }; work = work } in
    subst (λ (y : CopyState). TakesOver m y after) c.self.view_is
    (TakesOver-met m copy work c.meet_pair_planes.ensures.met (subst (IsOpenCopy m) (sym c.self.view_is) c.requires.is_open))
