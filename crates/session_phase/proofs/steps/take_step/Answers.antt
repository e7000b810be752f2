use Rattle.network_words.specs.Edge.{edge_between}
use Rattle.session_phase.proofs.Taken.{IsTaken-asserts, IsTaken-peeks}
use Rattle.session_phase.proofs.steps.take_step.Goals as goal

pub returns-in-Assert-clause-taken : goal.returns-in-Assert-clause-taken
returns-in-Assert-clause-taken g c =
    let h = c.state.ensures in
    IsTaken-asserts (g.C.Compose.algebra c.args.c.now) c.args.table.now.opening.nodes c.in-Assert.fact c.args.step c.args.pass.now c.state.new.pass c.lawful.ensures c.requires.network h.pass.nodes
    c.in-Assert.is h.asserts h.within

pub returns-in-Peek-clause-taken : goal.returns-in-Peek-clause-taken
returns-in-Peek-clause-taken g c =
    let n = c.args.table.now.opening.nodes in
    let i = c.in-Peek.i in
    let j = c.in-Peek.j in
    let h = c.peek-set.ensures in
    IsTaken-peeks (g.C.Compose.algebra c.args.c.now) n (edge_between n i j) i j c.peek-set.result c.args.step c.args.pass.now c.peek-set.new.pass c.lawful.ensures c.requires.network c.requires.pass.nodes
    h.pass.nodes c.in-Peek.is h.reads h.value h.fresh
