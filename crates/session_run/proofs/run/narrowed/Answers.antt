-- The sessions have their lines to do, and show what these show.
use Rattle.std.proofs.Common.{◌≡◌, ℕ, ◌<◌, ◌≤◌, List, [], length, get_or, sym, subst, arith}
use Rattle.std.specs.Prelude.{Vec}
use Rattle.std.specs.Global.{Global}
use Rattle.std.specs.List.{zip}
use Rattle.calculus_table.specs.Composition.{full_of}
use Rattle.closure_seq.specs.Paths.{IsClosedNetwork}
use Rattle.session_phase.specs.declared.steps.Step.{Step}
use Rattle.session_phase.specs.Phase.{steps_of, asked_of, shown_by}
use Rattle.session_replies.specs.Replies.{said_by}
use Rattle.session_run.specs.Steps.{AreDealt}
use Rattle.session_run.proofs.Dealt.{length-asked_of, length-steps_of, steps-asked}
use Rattle.session_run.proofs.Made.{IsClosureWithin-lines, ArePeeks-dealt}
use Rattle.session_run.proofs.run.narrowed.Goals as goal

pub narrow_together-requires-clause-can : goal.narrow_together-requires-clause-can
narrow_together-requires-clause-can g c κs within =
    let m = g.C.Compose.algebra c.args.c.now in
    let net = c.args.net.now in
    let sessions = c.in_ok-sessions.sessions.items in
    let lines = steps_of sessions in
    let count = c.in_ok-sessions.ensures.count in
    let few : length c.args.batch.now.sessions ≤ 64 = c.limited.ensures.sessions in
    let closed : IsClosedNetwork m net.nodes c.args.closed.now.words =
    record { network = c.requires.closed_network; closed = c.requires.closed } in
    record {
      network = c.requires.network;
      closed_network = subst (IsClosedNetwork m net.nodes) (sym c.words.ensures.value) closed;
      asked = steps-asked (full_of m) net.nodes c.args.batch.now lines c.requires.batch c.in_ok-sessions.ensures;
      few = omega (arith, few, length-asked_of sessions, length-steps_of sessions, count);
    }

pub returns-clause-closure : goal.returns-clause-closure
returns-clause-closure g c =
    let net = c.args.net.now in
    IsClosureWithin-lines (g.C.Compose.algebra c.args.c.now) net.nodes c.args.batch.now (asked_of (steps_of c.in_ok-sessions.sessions.items)) net.words c.narrow_together.new.net.words
    c.requires.batch c.in_ok-sessions.ensures c.in_ok-done.ensures.narrowed.closure

pub returns-clause-peeks : goal.returns-clause-peeks
returns-clause-peeks g c =
    let m = g.C.Compose.algebra c.args.c.now in
    let net = c.args.net.now in
    let batch = c.args.batch.now in
    let done = c.in_ok-done.done.items in
    let shown = c.in_ok-shown.shown.items in
    ArePeeks-dealt m net.nodes (full_of m) net.nodes c.narrow_together.new.net.words net.words batch shown done c.requires.batch
    (subst (AreDealt batch) (sym c.in_ok-done.ensures.narrowed.asked) c.in_ok-sessions.ensures) c.in_ok-done.ensures.narrowed.shown
    (subst (λ (lists : List (Vec Step Global)). (k : ℕ) → k < length lists → said_by k (zip batch.lines shown) ≡ shown_by (get_or (steps_of lists) k [])) c.deref.ensures.value
    c.in_ok-shown.ensures.shown)
