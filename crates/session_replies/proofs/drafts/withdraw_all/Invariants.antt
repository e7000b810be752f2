use Rattle.std.proofs.Common.{◌≡◌, ◌++◌, drop}
use Rattle.session_replies.specs.Replies.{after_withdrawals, withdrawal_faults}
use Rattle.session_replies.proofs.drafts.withdraw_all.Given as goal

abbrev pub invariant-loop-line : goal.invariant-loop-line
invariant-loop-line l = record {
  draft : after_withdrawals l.batch.sessions (drop l.line-index l.batch.lines) l.draft ≡ after_withdrawals l.batch.sessions l.batch.lines l.fn.draft;
  faults :
      l.faults.items ++ withdrawal_faults l.batch.sessions (drop l.line-index l.batch.lines) l.draft ≡ withdrawal_faults l.batch.sessions l.batch.lines l.fn.draft;
}
