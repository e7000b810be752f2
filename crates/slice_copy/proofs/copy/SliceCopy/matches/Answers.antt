use Rattle.std.proofs.Common.{sym, subst}
use Rattle.network_words.specs.Closure.{IsRangeClosed}
use Rattle.slice_copy.specs.Copies.{CopyState, IsSettledCopy, IsIdleCopy, AreWordsOf}
use Rattle.slice_copy.proofs.Copies.{IsRangeClosed-copy}
use Rattle.slice_copy.proofs.copy.SliceCopy.matches.Goals as goal

pub returns-then-is_idle-clause-same : goal.returns-then-is_idle-clause-same
returns-then-is_idle-clause-same g c =
    let words = c.args.words.now in (
      λ h. (c.is_idle.ensures.0 c.if-is_idle.true, subst (λ (y : CopyState). AreWordsOf words y) c.self.view_is (c.is_stored.ensures.0 h)),
      λ p. c.is_stored.ensures.1 (subst (λ (y : CopyState). AreWordsOf words y) (sym c.self.view_is) p.1),
    )

pub returns-then-is_idle-clause-closed : goal.returns-then-is_idle-clause-closed
returns-then-is_idle-clause-closed g c = λ h.
    let m = g.C.Compose.algebra c.args.c.now in
    let words = c.args.words.now in
    let own = c.self.inside in
    let copy : CopyState = record { slice = record { nodes = own.pairs.nodes; from = own.from; to = own.to }; rows = own.rows; work = own.pairs; bases = own.tables.bases } in
    subst (λ (y : CopyState). IsRangeClosed m y.slice.nodes words y.slice.from y.slice.to) c.self.view_is
    (IsRangeClosed-copy m copy words (subst (IsSettledCopy m) (sym c.self.view_is) c.requires.settled)
    (subst (λ (y : CopyState). IsIdleCopy y) (sym c.self.view_is) (c.is_idle.ensures.0 c.if-is_idle.true)) (c.is_stored.ensures.0 h))
