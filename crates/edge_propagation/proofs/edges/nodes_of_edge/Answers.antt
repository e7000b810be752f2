use Rattle.std.proofs.Common.{◌≡◌, ◌-◌, ◌≤◌, ◌∙◌, ap, arith}
use Rattle.network_words.specs.Edge.{edge_at}
use Rattle.network_words.proofs.Edges.{edge_of, edge_between-forward}
use Rattle.edge_propagation.proofs.EdgeRows.{row-order, row-later, row-first, row-second}
use Rattle.edge_propagation.proofs.edges.nodes_of_edge.Goals as goal

pub loop-i-init : goal.loop-i-init
loop-i-init c = λ d. omega arith

pub edge_between-requires-clause-proper : goal.edge_between-requires-clause-proper
edge_between-requires-clause-proper c =
    let d = edge_of c.args.nodes c.args.edge c.requires.below in
    let o = row-order c.args.nodes c.args.edge c.loop-i.i d (c.loop-i.invariant d) in
    record { first_below = omega arith; second_below = omega arith; differ = λ h. absurd (omega arith) }

pub overflow_add-i : goal.overflow_add-i
overflow_add-i c =
    let d = edge_of c.args.nodes c.args.edge c.requires.below in
    let o = row-order c.args.nodes c.args.edge c.loop-i.i d (c.loop-i.invariant d) in
    omega (arith, o, c.requires.few)

pub loop-i-smaller : goal.loop-i-smaller
loop-i-smaller c =
    let d = edge_of c.args.nodes c.args.edge c.requires.below in
    let o = row-order c.args.nodes c.args.edge c.loop-i.i d (c.loop-i.invariant d) in
    omega (arith, o)

pub loop-i-preserved : goal.loop-i-preserved
loop-i-preserved c = λ d.
    let n = c.args.nodes in
    let i = c.loop-i.i in
    let at = c.edge_between.ensures.value ∙ edge_between-forward n i (n - 1) (row-order n c.args.edge i d (c.loop-i.invariant d)) in
    row-later n c.args.edge i d (c.loop-i.invariant d) (omega (arith, at, c.loop-i-test.true))

pub edge_between-requires-2-clause-proper : goal.edge_between-requires-2-clause-proper
edge_between-requires-2-clause-proper c =
    let d = edge_of c.args.nodes c.args.edge c.requires.below in
    let o = row-order c.args.nodes c.args.edge c.loop-i.i d (c.loop-i.invariant d) in
    record { first_below = omega arith; second_below = omega arith; differ = λ h. absurd (omega arith) }

pub overflow_sub-result-2 : goal.overflow_sub-result-2
overflow_sub-result-2 c =
    let n = c.args.nodes in
    let i = c.loop-i.i in
    let d = edge_of n c.args.edge c.requires.below in
    let o = row-order n c.args.edge i d (c.loop-i.invariant d) in
    let at = c.edge_between.ensures.value ∙ edge_between-forward n i (n - 1) o in
    let again = c.edge_between-2.ensures.value ∙ edge_between-forward n i (n - 1) o in
    let s = ap (λ y. n - 1 - (y - c.args.edge)) again ∙ row-second n c.args.edge i d (c.loop-i.invariant d) (omega (arith, at, c.loop-i-test.false)) in
    omega (arith, s, d.order)

pub returns-clause-order : goal.returns-clause-order
returns-clause-order c =
    let n = c.args.nodes in
    let i = c.loop-i.i in
    let d = edge_of n c.args.edge c.requires.below in
    let o = row-order n c.args.edge i d (c.loop-i.invariant d) in
    let at = c.edge_between.ensures.value ∙ edge_between-forward n i (n - 1) o in
    let again = c.edge_between-2.ensures.value ∙ edge_between-forward n i (n - 1) o in
    let ge : c.args.edge ≤ edge_at n i (n - 1) = omega (arith, at, c.loop-i-test.false) in
    let s = ap (λ y. n - 1 - (y - c.args.edge)) again ∙ row-second n c.args.edge i d (c.loop-i.invariant d) ge in
    omega (arith, s, d.order, row-first n c.args.edge i d (c.loop-i.invariant d) ge)

pub returns-clause-edge : goal.returns-clause-edge
returns-clause-edge c =
    let n = c.args.nodes in
    let i = c.loop-i.i in
    let d = edge_of n c.args.edge c.requires.below in
    let p = c.loop-i.invariant d in
    let o = row-order n c.args.edge i d p in
    let at = c.edge_between.ensures.value ∙ edge_between-forward n i (n - 1) o in
    let again = c.edge_between-2.ensures.value ∙ edge_between-forward n i (n - 1) o in
    let ge : c.args.edge ≤ edge_at n i (n - 1) = omega (arith, at, c.loop-i-test.false) in
    let s = ap (λ y. n - 1 - (y - c.args.edge)) again ∙ row-second n c.args.edge i d p ge in
    let first : i ≡ d.first = omega (arith, p, row-first n c.args.edge i d p ge) in
    ap (λ k. edge_at n k (n - 1 - (c.edge_between-2.result - c.args.edge))) first ∙ ap (edge_at n d.first) s ∙ d.number
