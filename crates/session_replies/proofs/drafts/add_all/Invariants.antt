use Rattle.std.proofs.Common.{◌≡◌, ◌+◌, ◌≤◌, drop}
use Rattle.session_replies.specs.Replies.{after_facts}
use Rattle.session_replies.proofs.drafts.add_all.Given as goal

abbrev pub invariant-loop-line : goal.invariant-loop-line
invariant-loop-line l = record {
  draft : after_facts l.batch.sessions (drop l.line-index l.batch.lines) l.draft ≡ after_facts l.batch.sessions l.batch.lines l.fn.draft;
  next : l.draft.next ≤ l.fn.draft.next + l.line-index;
}
