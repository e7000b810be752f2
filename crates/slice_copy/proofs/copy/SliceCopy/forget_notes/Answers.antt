use Rattle.std.proofs.Common.{sym, subst}
use Rattle.slice_copy.specs.Copies.{CopyState, IsOpenCopy, TakesOver}
use Rattle.slice_copy.proofs.Copies.{TakesOver-room}
use Rattle.slice_copy.proofs.copy.SliceCopy.forget_notes.Goals as goal

pub returns-clause-copy : goal.returns-clause-copy
returns-clause-copy c = λ m s.
    let own = c.self.inside in
    let work = c.forget_notes.new.self in
    let copy : CopyState = record { slice = record { nodes = own.pairs.nodes; from = own.from; to = own.to }; rows = own.rows; work = own.pairs; bases = own.tables.bases } in
    let after : CopyState = record copy { slice = record copy.slice { nodes = work.nodes }; work = work } in
    subst (λ (y : CopyState). TakesOver m y after) c.self.view_is
    (TakesOver-room m copy work c.forget_notes.ensures.rest (subst (IsOpenCopy m) (sym c.self.view_is) s))
