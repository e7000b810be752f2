-- One line more is dealt.
use Rattle.std.proofs.Common.{◌≡◌, ◌+◌, ◌<◌, ◌≤◌, List, length, take, get_or, ap, ◌∙◌, subst, sym, arith, Vec}
use Rattle.std.specs.Global.{Global}
use Rattle.session_scripts.specs.declared.batch.Line.{Line}
use Rattle.session_scripts.specs.Batches.{BatchState}
use Rattle.session_phase.specs.declared.steps.Step.{Step}
use Rattle.session_phase.specs.Phase.{asked_of, steps_of}
use Rattle.session_run.specs.Steps.{AreDealt}
use Rattle.session_run.proofs.Dealt.{AreDealt-own, AreDealt-passed, asked_of-more, length-asked_of}
use Rattle.session_run.proofs.dealing.deal.Goals as goal
use Rattle.session_run.proofs.dealing.deal.Goals.{then-session-len+in_ok-give, else-session-len}

pub loop-place-preserved : goal.loop-place-preserved
loop-place-preserved c =
    let sessions = c.args.batch.now.sessions in
    let lines = c.args.batch.now.lines in
    let place = c.loop-place.place in
    let lists = c.loop-place.sessions.items in
    let l = c.line-item.result in
    let lines_are : c.deref-line-items.result.now ≡ lines = c.deref-line-items.ensures.value ∙ ap (λ (b : BatchState). b.lines) c.batch.view_is in
    let here : place < length lines = subst (λ (ls : List Line). place < length ls) lines_are c.loop-place-test.true in
    let there : l ≡ get_or lines place l = subst (λ (ls : List Line). l ≡ get_or ls place l) lines_are c.line-item.is in
    elim c.if-session-len.branch [
      | then-session-len+in_ok-give w ↦
          (let below : l.session < length lists = omega arith in
          let asked_below : l.session < length (asked_of (steps_of lists)) = omega (arith, length-asked_of lists) in
          subst (λ (v : Vec (Vec Step Global) Global). AreDealt (record { sessions = sessions; lines = take (place + 1) lines }) (asked_of (steps_of v.items))) (sym w.sessions-is)
          (rw (asked_of-more lists l.session place l.what w.index_mut.result.now w.give.new.steps below w.index_mut.ensures.value w.in_ok-give.ensures)
          (AreDealt-own sessions lines place l (asked_of (steps_of lists)) here there asked_below c.loop-place.invariant)))
      | else-session-len w ↦
          (let past : length lists ≤ l.session = omega arith in
          let asked_past : length (asked_of (steps_of lists)) ≤ l.session = omega (arith, length-asked_of lists) in
          subst (λ (v : Vec (Vec Step Global) Global). AreDealt (record { sessions = sessions; lines = take (place + 1) lines }) (asked_of (steps_of v.items))) (sym w.sessions-is)
          (AreDealt-passed sessions lines place l (asked_of (steps_of lists)) here there asked_past c.loop-place.invariant))
    ]
