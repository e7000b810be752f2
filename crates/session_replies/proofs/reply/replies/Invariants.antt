use Rattle.std.proofs.Common.{◌≡◌, ◌+◌, ◌≤◌, ◌++◌, take, drop}
use Rattle.std.specs.List.{zip}
use Rattle.std.specs.String.{string_bytes}
use Rattle.session_versions.specs.Drafts.{DraftState}
use Rattle.session_versions.specs.Stores.{committing}
use Rattle.session_replies.specs.Replies.{draft_of, after_withdrawals, replies}
use Rattle.session_replies.proofs.reply.replies.Given as goal

abbrev pub invariant-loop-place : goal.invariant-loop-place
invariant-loop-place g l = record {
  sets : l.sets ≡ l.names;
  next : l.next ≤ l.store.next_fact + l.place;
  text : (draft : DraftState) →
      string_bytes l.text
      ++ replies l.names l.batch.sessions (committing draft l.net l.store) (after_withdrawals l.batch.sessions (take l.place l.batch.lines) (draft_of l.store)) l.next
      (zip (drop l.place l.batch.lines) (drop l.place l.shown))
      ≡ replies l.names l.batch.sessions (committing draft l.net l.store) (draft_of l.store) l.store.next_fact (zip l.batch.lines l.shown);
}
