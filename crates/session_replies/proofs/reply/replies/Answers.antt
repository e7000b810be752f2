use Rattle.std.proofs.Common.{◌≡◌, ◌+◌, ◌<◌, ◌≤◌, ◌++◌, length, get_or, take, sym, ◌∙◌, ap, refl, arith}
use Rattle.std.specs.String.{string_bytes}
use Rattle.session_versions.specs.Stores.{committing}
use Rattle.session_scripts.specs.Batches.{session_name}
use Rattle.session_replies.specs.Replies.{draft_of, after_withdrawals, reply_to, reply_line}
use Rattle.session_replies.proofs.RepliesOfLines.{length-withdrawal_faults, fault-at, replies-appended, replies-ended}
use Rattle.session_replies.proofs.reply.replies.Goals as goal

pub bounds-faults-place : goal.bounds-faults-place
bounds-faults-place g c =
    let batch = c.args.batch.now in
    let items : c.deref-line-items.result.now ≡ batch.lines = c.deref-line-items.ensures.value ∙ ap (λ b. b.lines) c.batch.view_is in
    let there : c.loop-place.place < length batch.lines = rw (← items) (omega arith) in
    let long : length c.args.faults.now ≡ length batch.lines = ap length c.requires.faults ∙ length-withdrawal_faults batch.sessions batch.lines (draft_of c.args.store.now) in
    omega (arith, there, long)

pub loop-place-preserved : goal.loop-place-preserved
loop-place-preserved g c =
    let batch = c.args.batch.now in
    let names = c.args.names.now in
    let shown = c.args.shown.now in
    let s = c.args.store.now in
    let place = c.loop-place.place in
    let line = c.line-item.result in
    let set = c.index-shown-place.result in
    let items : c.deref-line-items.result.now ≡ batch.lines = c.deref-line-items.ensures.value ∙ ap (λ b. b.lines) c.batch.view_is in
    let there : place < length batch.lines = rw (← items) (omega arith) in
    let is_line : line ≡ get_or batch.lines place line = c.line-item.is ∙ ap (λ xs. get_or xs place line) items in
    let now = after_withdrawals batch.sessions (take place batch.lines) (draft_of s) in
    let name = session_name batch.sessions line.session in
    record {
      sets = c.push_reply.ensures.sets ∙ c.loop-place.invariant.sets;
      next = omega (arith, c.next_after-next.ensures.few, c.loop-place.invariant.next);
      text = λ draft.
          let after = committing draft c.args.net.now s in
          let reply : c.reply_to-reply.result ≡ reply_to s.calculus after now c.loop-place.next name line.what set =
          c.reply_to-reply.ensures draft now name (fault-at batch.sessions batch.lines c.args.faults.now place line _ (draft_of s) there is_line c.requires.faults) in
          let written : reply_line c.loop-place.sets c.session.result.now line.at c.reply_to-reply.result ≡ reply_line names name line.at (reply_to names.algebra after now c.loop-place.next name line.what set) =
          ap (λ x. reply_line x c.session.result.now line.at c.reply_to-reply.result) c.loop-place.invariant.sets
          ∙ ap (λ x. reply_line names x line.at c.reply_to-reply.result) c.session.ensures
          ∙ ap (reply_line names name line.at) (reply ∙ ap (λ m. reply_to m after now c.loop-place.next name line.what set) (sym c.requires.names)) in
          replies-appended names batch.sessions after batch.lines shown (draft_of s) c.loop-place.next c.next_after-next.result place line set (string_bytes c.loop-place.text)
          (string_bytes c.push_reply.new.text) _ there (rw c.requires.shown there) is_line c.index-shown-place.is c.next_after-next.ensures.value
          (c.in_ok-push_reply.ensures.text ∙ ap (λ x. string_bytes c.loop-place.text ++ x) written) (c.loop-place.invariant.text draft);
    }

pub returns : goal.returns
returns g c = λ draft.
    let batch = c.args.batch.now in
    let s = c.args.store.now in
    let place = c.loop-place.place in
    let after = committing draft c.args.net.now s in
    let items : c.deref-line-items.result.now ≡ batch.lines = c.deref-line-items.ensures.value ∙ ap (λ b. b.lines) c.batch.view_is in
    let ended : length batch.lines ≤ place = rw (← items) (omega arith) in
    replies-ended c.args.names.now batch.sessions after batch.lines c.args.shown.now (after_withdrawals batch.sessions (take place batch.lines) (draft_of s)) c.loop-place.next place
    (string_bytes c.loop-place.text) (string_bytes c.push_version.new.text) _ ended
    (c.in_ok-push_version.ensures after.newest (ap (λ n. n + 1) (sym c.newest.ensures.value)) refl) (c.loop-place.invariant.text draft)
