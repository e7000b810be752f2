use Rattle.std.proofs.Common.{◌≡◌, ℕ, ◌∙◌, List, length, ap, sym, subst, arith}
use Rattle.std.specs.List.{All}
use Rattle.std.proofs.lemmas.Grind.{common_steps}
use Rattle.network_words.specs.Edge.{edge_count}
use Rattle.narrow_core.specs.Actor.{ActorState}
use Rattle.edge_table.specs.Opening.{PassState, algebra_of}
use Rattle.edge_table.specs.declared.rule.Opening.{Opening}
use Rattle.closure_workers.specs.declared.rounds.Workers.{Workers}
use Rattle.closure_workers.specs.Workers.{HasEnded, AreDealt, slices_of}
use Rattle.closure_workers.specs.Rounds.{IsClosureWithin}
use Rattle.closure_workers.proofs.OneRound.{AllEnded, HaveAllWorked-gathered}
use Rattle.session_phase.specs.Phase.{steps_of, AreShownAbove}
use Rattle.session_phase.proofs.SessionLists.{HaveRun-count, HaveNarrowed-closed}
use Rattle.session_phase.proofs.phase.narrow_at_once.Goals as goal

pub gather-requires-clause-workers : goal.gather-requires-clause-workers
gather-requires-clause-workers g c =
    let table = c.in_ok-table.table in
    let dealt = c.in_ok-home.ensures in
    let seen : c.in_ok-home.home.actor.seen ≡ c.in_ok-rest.rest.actor.seen = ap (λ (p : PassState). p.actor.seen) dealt.rest in
    subst (λ (ws : List ℕ). All (HasEnded table ws) c.run_at_once-sessions.result.1.items) (sym seen)
    (AllEnded table c.in_ok-rest.rest.actor.seen c.in_ok-home.hands.items c.run_at_once-sessions.result.1.items dealt.workers c.run_at_once-sessions.ensures.worked)

pub gather_sessions-requires-clause-nothing : goal.gather_sessions-requires-clause-nothing
gather_sessions-requires-clause-nothing g c =
    c.in_ok-home-2.ensures.facts ∙ ap (λ (p : PassState). p.actor.mine) c.in_ok-home.ensures.rest ∙ ap (λ (a : ActorState). a.mine) c.in_ok-rest.ensures.actor

pub close_table-requires-clause-worked : goal.close_table-requires-clause-worked
close_table-requires-clause-worked g c κs within =
    let m = g.C.Compose.algebra c.args.c.now in
    let table = c.in_ok-table.table in
    let o = table.opening in
    let w : Workers = record { home = c.in_ok-home-3.home; desks = c.in_ok-home-2.desks } in
    let dealt = c.in_ok-home.ensures in
    let h = c.in_ok-home-2.ensures in
    let worked = c.run_at_once-sessions.ensures.worked in
    let sessions = c.run_at_once-sessions in
    let ran : length sessions.result.0.items ≡ length c.args.lines.items =
    HaveRun-count m table c.in_ok-rest.sessions.items sessions.result.0.items sessions.ensures.run
    ∙ c.in_ok-rest.ensures.count in
    let opening = ap (λ (p : Opening). p.weight) c.in_ok-table.ensures.table in
    let nodes = ap (λ (p : Opening). p.nodes) c.in_ok-table.ensures.table in
    let same : c.nodes.result ≡ o.nodes = c.nodes.ensures.value ∙ sym nodes in
    let left = ap (λ (p : PassState). p.actor.weight) dealt.rest in
    let given = ap (λ (a : ActorState). a.weight) c.in_ok-rest.ensures.actor in
    let whole : w.home.actor.weight ≡ o.weight = grind (arith, common_steps) in
    HaveAllWorked-gathered table c.in_ok-desks.desks.items c.in_ok-home.hands.items c.run_at_once-sessions.result.1.items w c.in_ok-home-2.home.actor.seen c.in_ok-home.home.actor.seen
    c.in_ok-home-3.ensures.pass whole (grind (arith, common_steps)) (grind (arith, common_steps)) (grind (arith, common_steps))
    (subst (λ (n : ℕ). AreDealt (slices_of c.in_ok-desks.desks.items) (edge_count n)) same c.in_ok-desks.ensures.dealt) dealt.count dealt.dealt worked h.desks h.dealt h.count

pub returns-clause-narrowed : goal.returns-clause-narrowed
returns-clause-narrowed g c =
    let m = g.C.Compose.algebra c.args.c.now in
    let new = c.close_table.new.net in
    let home = c.in_ok-home-3.home.actor in
    let done = c.in_ok-home-3.ensures in
    let lists = steps_of c.in_ok-home-3.done.items in
    let closed = c.in_ok-close_table.ensures in
    let table = c.in_ok-table.ensures.table in
    let asked = done.asked ∙ c.run_at_once-sessions.ensures.run.asked ∙ c.in_ok-rest.ensures.asked in
    HaveNarrowed-closed m c.args.net.now new (steps_of c.args.lines.items) lists home.mine home.seen closed.rest
    done.facts asked
    (subst (λ (o : Opening). IsClosureWithin m o.nodes o.words home.mine new.words) table closed.closure) closed.seen
    (subst (λ (o : Opening). All (AreShownAbove (algebra_of o) o.nodes o.words home.seen) lists) table done.shown)
