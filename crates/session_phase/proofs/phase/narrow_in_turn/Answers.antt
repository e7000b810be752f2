use Rattle.std.proofs.Common.{◌≡◌, ◌∙◌, length, ap, sym, subst, arith}
use Rattle.std.specs.List.{All}
use Rattle.std.proofs.lemmas.Grind.{common_steps}
use Rattle.network_words.specs.Network.{Network, IsNetwork}
use Rattle.network_words.specs.Closure.{IsClosure}
use Rattle.network_words.proofs.Networks.{Refines-trans}
use Rattle.narrow_core.specs.Actor.{ActorState}
use Rattle.edge_table.specs.Opening.{algebra_of}
use Rattle.edge_table.specs.declared.rule.Opening.{Opening}
use Rattle.edge_propagation.proofs.Loads.{rest-words}
use Rattle.closure_seq.specs.Paths.{IsClosedNetwork}
use Rattle.closure_workers.specs.Rounds.{IsClosureWithin}
use Rattle.closure_workers.proofs.OneRound.{IsClosureWithin-closure}
use Rattle.session_phase.specs.Phase.{steps_of, AreShownAbove}
use Rattle.session_phase.proofs.SessionLists.{HaveRun-count, HaveNarrowed-closed}
use Rattle.session_phase.proofs.phase.narrow_in_turn.Goals as goal

pub gather_sessions-requires-clause-nothing : goal.gather_sessions-requires-clause-nothing
gather_sessions-requires-clause-nothing g c = ap (λ (a : ActorState). a.mine) c.in_ok-rest.ensures.actor

pub close-table-requires-clause-whole : goal.close-table-requires-clause-whole
close-table-requires-clause-whole g c =
    let m = g.C.Compose.algebra c.args.c.now in
    let sessions = c.run_sessions-sessions in
    let ran : length sessions.result.items ≡ length c.args.lines.items =
    HaveRun-count m c.in_ok-table.table c.in_ok-rest.sessions.items sessions.result.items sessions.ensures
    ∙ c.in_ok-rest.ensures.count in
    let opening = ap (λ (p : Opening). p.weight) c.in_ok-table.ensures.table in
    let given = ap (λ (a : ActorState). a.weight) c.in_ok-rest.ensures.actor in
    grind (arith, common_steps)

pub close_within-requires-clause-nodes : goal.close_within-requires-clause-nodes
close_within-requires-clause-nodes g c =
    c.in_ok-room.ensures ∙ c.nodes.ensures.value ∙ sym (ap (λ (y : Network). y.nodes) c.close-table.ensures.rest)

pub close_within-requires-clause-network : goal.close_within-requires-clause-network
close_within-requires-clause-network g c =
    let m = g.C.Compose.algebra c.args.c.now in
    let into = c.close-table.new.into in
    let nodes = ap (λ (y : Network). y.nodes) c.close-table.ensures.rest in
    subst (λ n. IsNetwork m n into.words) (sym nodes)
    (subst (λ (o : Opening). IsNetwork (algebra_of o) o.nodes into.words) c.in_ok-table.ensures.table
    c.close-table.ensures.words.network)

pub close_within-requires-clause-closed : goal.close_within-requires-clause-closed
close_within-requires-clause-closed g c =
    let m = g.C.Compose.algebra c.args.c.now in
    let nodes = ap (λ (y : Network). y.nodes) c.close-table.ensures.rest in
    subst (λ n. IsClosedNetwork m n c.args.closed.now) (sym nodes) c.requires.can.closed_network

pub returns-clause-narrowed : goal.returns-clause-narrowed
returns-clause-narrowed g c =
    let m = g.C.Compose.algebra c.args.c.now in
    let net = c.args.net.now in
    let home = c.in_ok-home.home.actor in
    let done = c.in_ok-home.ensures in
    let lists = steps_of c.in_ok-home.done.items in
    let left = c.close-table.new.into in
    let kept = c.close-table.ensures in
    let final = c.close_within.new.net in
    let closed = c.close_within.ensures in
    let table = c.in_ok-table.ensures.table in
    let nodes = ap (λ (y : Network). y.nodes) kept.rest in
    let closure : IsClosure m net.nodes left.words final.words =
    subst (λ n. IsClosure m n left.words final.words) nodes closed.closure in
    let within : IsClosureWithin m net.nodes net.words home.mine final.words =
    subst (λ (o : Opening). IsClosure (algebra_of o) o.nodes left.words final.words
    → IsClosureWithin (algebra_of o) o.nodes o.words home.mine final.words) table
    (IsClosureWithin-closure c.in_ok-table.table.opening home left.words final.words kept.words) closure in
    let asked = done.asked ∙ c.run_sessions-sessions.ensures.asked ∙ c.in_ok-rest.ensures.asked in
    HaveNarrowed-closed m net final (steps_of c.args.lines.items) lists home.mine home.seen
    (rest-words net left final final.words kept.rest closed.rest) done.facts asked
    within (Refines-trans final.words left.words home.seen closure.within kept.words.seen)
    (subst (λ (o : Opening). All (AreShownAbove (algebra_of o) o.nodes o.words home.seen) lists) table done.shown)
