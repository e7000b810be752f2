use Rattle.std.proofs.Common.{◌≡◌, ℕ, ◌<◌, ◌+◌, Bool, true, false, refl, subst, arith, inl, inr}
use Rattle.std.specs.Prelude.{sum, if◌then◌else◌}
use Rattle.std.proofs.lemmas.Bool.{true≢false}
use Rattle.calculus_table.specs.Calculus.{IsCalculus}
use Rattle.closure_workers.proofs.OneRound.{HaveGoneOn-first, HaveGoneOn-next, HaveClosed-gone, sum-next}
use Rattle.closure_workers.proofs.rounds.rounds.Goals as goal

-- a number that is 0 once it is done is less
less-unless : (done before : Bool) (x y : ℕ) → before ≡ false → (done ≡ false → x < y) → (if done then 0 else (x + 1)) < (if before then 0 else (y + 1))
less-unless done true x y b h = absurd (true≢false b)
less-unless true false x y b h = omega arith
less-unless false false x y b h = let l = h refl in omega arith

pub loop-is_done-init : goal.loop-is_done-init
loop-is_done-init g c = record {
  gone = HaveGoneOn-first c.args.table.now c.args.workers c.refresh.new.pass c.refresh.new.snap c.requires.worked c.refresh.ensures.pass c.refresh.ensures.reads c.refresh.ensures.snap
      c.refresh.ensures.network;
  done = λ t. rw (c.nodes.ensures.value, c.words.ensures, c.deref.ensures.value) at (c.are_done-is_done.ensures.done t);
}

pub loop-is_done-preserved : goal.loop-is_done-preserved
loop-is_done-preserved g c = record {
  gone = HaveGoneOn-next c.args.table.now c.args.workers c.loop-is_done.workers c.in_ok-workers.workers c.refresh-in-loop-is_done.new.pass c.loop-is_done.snap c.refresh-in-loop-is_done.new.snap
      c.loop-is_done.invariant.gone c.in_ok-workers.ensures c.refresh-in-loop-is_done.ensures.pass c.refresh-in-loop-is_done.ensures.reads c.refresh-in-loop-is_done.ensures.snap
      c.refresh-in-loop-is_done.ensures.network;
  done = λ t. rw (c.nodes-in-loop-is_done.ensures.value, c.words-in-loop-is_done.ensures, c.deref-in-loop-is_done.ensures.value) at (c.are_done-is_done-in-loop-is_done.ensures.done t);
}

pub loop-is_done-smaller : goal.loop-is_done-smaller
loop-is_done-smaller g c =
    less-unless c.are_done-is_done-in-loop-is_done.result c.loop-is_done.is_done (sum c.refresh-in-loop-is_done.new.pass.actor.seen) (sum c.loop-is_done.workers.home.actor.seen) c.loop-is_done-test.true
    (λ f. sum-next c.args.table.now c.args.workers c.loop-is_done.workers c.in_ok-workers.workers c.refresh-in-loop-is_done.new.pass c.loop-is_done.snap c.refresh-in-loop-is_done.new.snap
    c.loop-is_done.invariant.gone c.in_ok-workers.ensures c.refresh-in-loop-is_done.ensures.reads c.refresh-in-loop-is_done.ensures.snap c.refresh-in-loop-is_done.ensures.network
    (rw (c.words-in-loop-is_done.ensures, c.deref-in-loop-is_done.ensures.value) at (c.are_done-is_done-in-loop-is_done.ensures.more f)))

pub returns : goal.returns
returns g c =
    let calculus = subst IsCalculus c.requires.calculus c.lawful.ensures in
    HaveClosed-gone c.args.table.now c.args.workers c.loop-is_done.workers c.loop-is_done.snap calculus c.loop-is_done.invariant.gone
    (λ none. elim (c.loop-is_done.invariant.done c.loop-is_done-test.false) [ inl clash ↦ absurd (none clash) | inr all ↦ all ])
