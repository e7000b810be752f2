use Rattle.std.proofs.Common.{◌≡◌, ◌+◌, ◌-◌, ◌<◌, ◌∙◌, arith}
use Rattle.network_words.specs.Edge.{edge_at}
use Rattle.network_words.proofs.Edges.{edge_at-row, edge_at-lt, edge_between-forward}
use Rattle.closure_workers.proofs.worker.edges_of_row.Goals as goal

-- the edges of a row have one number after another
pub returns-clause-each : goal.returns-clause-each
returns-clause-each c = λ k order inside.
    let n = c.args.nodes in
    let i = c.args.i in
    let first : c.edge_between-first.result ≡ edge_at n i (i + 1) = c.edge_between-first.ensures.value ∙ edge_between-forward n i (i + 1) (omega arith) in
    omega (arith, first, edge_at-row n i (i + 1) (omega (arith, order, inside)), edge_at-row n i k (omega (arith, order, inside)), order)

pub returns-clause-below : goal.returns-clause-below
returns-clause-below c =
    let n = c.args.nodes in
    let i = c.args.i in
    let some : i + 1 < n = omega (arith, c.requires.below, c.if-count-eq0.false) in
    let last : i < n - 1 = omega (arith, some) in
    let first : c.edge_between-first.result ≡ edge_at n i (i + 1) = c.edge_between-first.ensures.value ∙ edge_between-forward n i (i + 1) (omega arith) in
    omega (arith, first, some, edge_at-row n i (i + 1) (omega (arith, some)), edge_at-row n i (n - 1) (omega (arith, some)), edge_at-lt n i (n - 1) last (omega (arith, some)))
