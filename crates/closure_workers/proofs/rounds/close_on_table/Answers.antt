use Rattle.std.proofs.Common.{◌≡◌, ℕ, ◌+◌, ◌*◌, ◌≤◌, ◌∙◌, [], length, ap, sym, subst, arith}
use Rattle.std.specs.List.{All}
use Rattle.std.proofs.lemmas.Result.{on_ok_weaker, IfOk-weaker}
use Rattle.network_words.specs.Edge.{edge_count}
use Rattle.narrow_core.specs.Actor.{ActorState}
use Rattle.edge_table.specs.Opening.{ClosedState, algebra_of, opening_over}
use Rattle.edge_table.specs.declared.rule.Opening.{Opening}
use Rattle.closure_workers.specs.Workers.{IsDesk, AreDealt, slices_of}
use Rattle.closure_workers.specs.Rounds.{IsClosureWithin, IsClosing}
use Rattle.closure_workers.proofs.OneRound.{HaveAllWorked-round, IsClosure-within_none, IsClosing-less}
use Rattle.closure_workers.proofs.rounds.close_on_table.Goals as goal

pub round-requires-clause-workers : goal.round-requires-clause-workers
round-requires-clause-workers g c κs within =
    let table = c.in_ok-table.table in
    let o = table.opening in
    let opened = c.in_ok-table.ensures.table in
    let count = c.in_ok-desks.ensures.count in
    let weight : o.weight ≡ c.args.count + 1 = ap (λ (p : Opening). p.weight) opened in
    let nodes : c.nodes.result ≡ o.nodes = c.nodes.ensures.value ∙ sym (ap (λ (p : Opening). p.nodes) opened) in
    record {
      pass = c.in_ok-table.ensures.pass;
      whole = ap (λ (a : ActorState). a.weight) c.in_ok-table.ensures.actor ∙ sym weight;
      some = (let s = c.requires.some in omega arith);
      enough = omega arith;
      few = (let f = c.requires.few in omega arith);
      desks = subst (λ (n : ℕ). All (IsDesk (algebra_of o) n) c.in_ok-desks.desks.items) nodes (c.in_ok-desks.ensures.desks (algebra_of o));
      dealt = subst (λ (n : ℕ). AreDealt (slices_of c.in_ok-desks.desks.items) (edge_count n)) nodes c.in_ok-desks.ensures.dealt;
    }

pub close_table-requires-clause-worked : goal.close_table-requires-clause-worked
close_table-requires-clause-worked g c κs within = HaveAllWorked-round _ _ _ c.in_ok-workers.ensures

pub returns-clause-closure : goal.returns-clause-closure
returns-clause-closure g c =
    let m = g.C.Compose.algebra c.args.c.now in
    let net = c.args.net.now in
    let words = c.close_table.new.net.words in
    let none : c.in_ok-workers.workers.home.actor.mine ≡ [] = c.in_ok-workers.ensures.facts ∙ ap (λ (a : ActorState). a.mine) c.in_ok-table.ensures.actor in
    on_ok_weaker c.close_table.result (λ h. IsClosure-within_none m net.nodes net.words words c.in_ok-workers.workers.home.actor.mine c.requires.network none
    (subst (λ (o : Opening). IsClosureWithin m o.nodes o.words c.in_ok-workers.workers.home.actor.mine words) c.in_ok-table.ensures.table h)) c.close_table.ensures.closure

pub returns-clause-table : goal.returns-clause-table
returns-clause-table g c =
    let net = c.args.net.now in
    let m = g.C.Compose.algebra c.args.c.now in
    let words = c.close_table.new.net.words in
    let w = c.in_ok-workers.workers in
    let edges = edge_count net.nodes in
    let nodes : c.in_ok-table.table.opening.nodes ≡ net.nodes = ap (λ (p : Opening). p.nodes) c.in_ok-table.ensures.table in
    let loads : c.in_ok-table.home.loads + length c.in_ok-desks.desks.items * edge_count c.in_ok-table.table.opening.nodes ≤ w.home.loads = c.in_ok-workers.ensures.loads in
    let all : c.args.count * edges ≤ w.home.loads = (let l = rw (c.in_ok-desks.ensures.count, nodes) at loads in omega arith) in
    IfOk-weaker c.close_table.result (λ (closed : ClosedState). IsClosing c.in_ok-table.table.opening w.home.loads words closed)
    (λ (closed : ClosedState). IsClosing (opening_over net (c.args.count + 1) m) (c.args.count * edges) words closed)
    (λ closed h. IsClosing-less (opening_over net (c.args.count + 1) m) w.home.loads (c.args.count * edges) words closed all
    (subst (λ (o : Opening). IsClosing o w.home.loads words closed) c.in_ok-table.ensures.table h)) c.close_table.ensures.table
