use Rattle.std.proofs.Common.{◌≡◌, ◌≢◌, ◌+◌, ◌<◌, ◌≤◌, Result, Ok, Err, inl, inr, refl, ap, ◌∙◌, arith}
use Rattle.std.proofs.lemmas.Bool.{cases_lt}
use Rattle.network_words.specs.Network.{relation_between}
use Rattle.session_versions.specs.declared.store.AskFault.TheVariants.{NotYet, VersionGone}
use Rattle.session_replies.specs.declared.reply.Reply.TheVariants.{AtVersion}
use Rattle.session_replies.proofs.KeptAfter.{ask_reply-newest, ask_reply-gone, ask_reply-older}
use Rattle.session_replies.proofs.reply.ask_reply.Goals as goal
use Rattle.session_replies.proofs.reply.ask_reply.Goals.{else-version-newest-2-via-then-version-newest-2+else-newest-version-eq-KEPT_VERSIONS, else-version-newest-2-via-else-version-newest-2}

pub returns-then-version-newest : goal.returns-then-version-newest
returns-then-version-newest g c = λ draft.
    let s = c.args.store.now in
    let net = c.args.net.now in
    let set : c.get-set.result ≡ relation_between s.calculus s.nodes net.words c.args.i c.args.j =
    rw (c.requires.calculus, c.requires.commits.nodes) at c.get-set.ensures.value in
    ap (AtVersion c.args.version) set
    ∙ ask_reply-newest s draft net c.args.version c.args.i c.args.j c.newest-newest.ensures.store c.requires.commits.nodes (omega (arith, c.newest-newest.ensures.value, c.if-version-newest.true))

pub returns-then-newest-version-eq-KEPT_VERSIONS :
    goal.returns-then-newest-version-eq-KEPT_VERSIONS
returns-then-newest-version-eq-KEPT_VERSIONS g c = λ draft.
    ask_reply-gone c.args.store.now draft c.args.net.now c.args.version c.args.i c.args.j c.newest-newest.ensures.store
    (omega (arith, c.newest-newest.ensures.value, c.if-version-newest-2.true, c.if-newest-version-eq-KEPT_VERSIONS.true))

ok_or_err : {A E : Type 0} (r : Result A E) (x : A) (y : E) → r ≡ Ok x → r ≡ Err y → ⊥
ok_or_err r x y p q = cc

pub returns-in-Ok : goal.returns-in-Ok
returns-in-Ok g c = λ draft.
    let s = c.args.store.now in
    let version = c.args.version in
    let up : version ≤ s.newest.number = elim (cases_lt s.newest.number version) [ inl b ↦ absurd (ok_or_err (Ok c.in-Ok.set) c.in-Ok.set NotYet refl (c.in-Ok.ensures.not_yet.1 b)) | inr b ↦ b ] in
    let kept : s.newest.number < version + 16 = elim (cases_lt s.newest.number (version + 16)) [ inl b ↦ b | inr b ↦ absurd (ok_or_err (Ok c.in-Ok.set) c.in-Ok.set VersionGone refl (c.in-Ok.ensures.gone.1 b)) ] in
    let other : s.newest.number + 1 ≢ version + 16 =
    elim c.else-version-newest-2.branch [
      | else-version-newest-2-via-then-version-newest-2+else-newest-version-eq-KEPT_VERSIONS w ↦
          λ e. omega (arith, e, w.if-newest-version-eq-KEPT_VERSIONS.false, c.newest-newest.ensures.value)
      | else-version-newest-2-via-else-version-newest-2 w ↦ λ e. omega (arith, e, up, w.if-version-newest-2.false, c.newest-newest.ensures.value)
    ] in
    ask_reply-older s draft c.args.net.now version c.args.i c.args.j c.in-Ok.set c.newest-newest.ensures.store up (omega (arith, kept, other)) c.in-Ok.ensures.ok

pub returns-in-Err-VersionGone : goal.returns-in-Err-VersionGone
returns-in-Err-VersionGone g c = λ draft.
    let s = c.args.store.now in
    let gone : c.args.version + 16 ≤ s.newest.number = c.in-Err-VersionGone.ensures.gone.0 (ap Err c.in-Err-VersionGone.field-0-is) in
    ask_reply-gone s draft c.args.net.now c.args.version c.args.i c.args.j c.newest-newest.ensures.store (omega (arith, gone))
