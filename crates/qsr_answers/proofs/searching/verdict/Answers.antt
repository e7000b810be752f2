use Rattle.qsr_inputs.specs.Inputs.{Guided}
use Rattle.qsr_answers.proofs.Verdicts.{closed_network, verdicts_on}
use Rattle.qsr_answers.proofs.searching.verdict.Goals as goal

pub solve_parallel-requires-clause-network : goal.solve_parallel-requires-clause-network
solve_parallel-requires-clause-network g c κs within =
    let g0 : Guided = record { calculus = c.guided.inside.calculus; class = c.guided.inside.class } in
    let network = rw (← c.guided.view_is) at c.requires.network in
    let guides = rw (← c.guided.view_is) at c.requires.guides in
    let closure = rw c.in_ok-fast.ensures at c.in_ok-close_parallel.ensures.closure in
    rw c.in_ok-fast.ensures
    (closed_network g0 c.args.net.now c.close_parallel.new.net c.lawful.ensures network guides
    c.in_ok-close_parallel.ensures.rest closure)

pub solve_parallel-requires-clause-bases : goal.solve_parallel-requires-clause-bases
solve_parallel-requires-clause-bases g c κs within =
    let guides = rw (← c.guided.view_is) at c.requires.guides in
    rw c.in_ok-fast.ensures guides.bases

pub returns-clause-verdict : goal.returns-clause-verdict
returns-clause-verdict g c =
    let g0 : Guided = record { calculus = c.guided.inside.calculus; class = c.guided.inside.class } in
    let network = rw (← c.guided.view_is) at c.requires.network in
    let guides = rw (← c.guided.view_is) at c.requires.guides in
    let closure = rw c.in_ok-fast.ensures at c.in_ok-close_parallel.ensures.closure in
    rw (← c.guided.view_is)
    (verdicts_on g0 c.args.net.now c.close_parallel.new.net c.lawful.ensures network guides
    c.in_ok-close_parallel.ensures.rest closure c.args.budget c.solve_parallel.result
    (rw c.in_ok-fast.ensures at c.solve_parallel.ensures.ruled))
