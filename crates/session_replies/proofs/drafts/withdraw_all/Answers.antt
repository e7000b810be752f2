use Rattle.std.proofs.Common.{◌≤◌, length, arith}
use Rattle.session_replies.proofs.FactsOfLines.{LosesFacts-looped}
use Rattle.session_replies.proofs.drafts.withdraw_all.Goals as goal

pub returns-clause-loses : goal.returns-clause-loses
returns-clause-loses c =
    let batch = c.args.batch.now in
    let ended : length batch.lines ≤ c.loop-line.line-index = rw (← c.batch.view_is, ← c.deref-line-items.ensures.value) (omega arith) in
    LosesFacts-looped batch.sessions batch.lines c.loop-line.line-index c.args.draft.now c.loop-line.draft ended c.loop-line.invariant.draft
