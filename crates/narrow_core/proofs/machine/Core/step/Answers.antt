use Rattle.std.proofs.Common.{subst}
use Rattle.narrow_core.specs.declared.event.Event.TheVariants.{Assert, Read, Narrow, Split, Join}
use Rattle.narrow_core.specs.Machine.{IsCore}
use Rattle.narrow_core.proofs.Bounds.{bound-step_at, step_at}
use Rattle.narrow_core.proofs.machine.Core.step.Goals as goal

pub returns-in_ok-assert-in-Assert-clause-stepped : goal.returns-in_ok-assert-in-Assert-clause-stepped
returns-in_ok-assert-in-Assert-clause-stepped g c =
    step_at (g.C.Compose.algebra c.args.c.now) c.args.event.now (Assert c.in-Assert.actor c.in-Assert.fact) c.args.self.now c.assert.new.self c.in-Assert.is c.in_ok-assert-in-Assert.ensures.asserted

pub returns-in_ok-assert-in-Assert-clause-bound : goal.returns-in_ok-assert-in-Assert-clause-bound
returns-in_ok-assert-in-Assert-clause-bound g c =
    bound-step_at (g.C.Compose.algebra c.args.c.now) c.args.event.now (Assert c.in-Assert.actor c.in-Assert.fact) c.args.self.now c.assert.new.self c.in-Assert.is
    c.lawful.ensures c.requires.full (subst IsCore c.self.view_is c.self.invariant.core) c.requires.allowed c.in_ok-assert-in-Assert.ensures.asserted

pub returns-in-Read-clause-stepped : goal.returns-in-Read-clause-stepped
returns-in-Read-clause-stepped g c =
    step_at (g.C.Compose.algebra c.args.c.now) c.args.event.now (Read c.in-Read.actor c.in-Read.edge) c.args.self.now c.read.new.self c.in-Read.is c.read.ensures

pub returns-in-Read-clause-bound : goal.returns-in-Read-clause-bound
returns-in-Read-clause-bound g c =
    bound-step_at (g.C.Compose.algebra c.args.c.now) c.args.event.now (Read c.in-Read.actor c.in-Read.edge) c.args.self.now c.read.new.self c.in-Read.is
    c.lawful.ensures c.requires.full (subst IsCore c.self.view_is c.self.invariant.core) c.requires.allowed c.read.ensures

pub returns-in-Narrow-clause-stepped : goal.returns-in-Narrow-clause-stepped
returns-in-Narrow-clause-stepped g c =
    step_at (g.C.Compose.algebra c.args.c.now) c.args.event.now (Narrow c.in-Narrow.actor c.in-Narrow.i c.in-Narrow.j c.in-Narrow.k) c.args.self.now c.narrow.new.self c.in-Narrow.is c.narrow.ensures

pub returns-in-Narrow-clause-bound : goal.returns-in-Narrow-clause-bound
returns-in-Narrow-clause-bound g c =
    bound-step_at (g.C.Compose.algebra c.args.c.now) c.args.event.now (Narrow c.in-Narrow.actor c.in-Narrow.i c.in-Narrow.j c.in-Narrow.k) c.args.self.now c.narrow.new.self c.in-Narrow.is
    c.lawful.ensures c.requires.full (subst IsCore c.self.view_is c.self.invariant.core) c.requires.allowed c.narrow.ensures

pub returns-in_ok-split-in-Split-clause-stepped : goal.returns-in_ok-split-in-Split-clause-stepped
returns-in_ok-split-in-Split-clause-stepped g c =
    step_at (g.C.Compose.algebra c.args.c.now) c.args.event.now (Split c.in-Split.actor c.in-Split.left) c.args.self.now c.split.new.self c.in-Split.is c.in_ok-split-in-Split.ensures.split

pub returns-in_ok-split-in-Split-clause-bound : goal.returns-in_ok-split-in-Split-clause-bound
returns-in_ok-split-in-Split-clause-bound g c =
    bound-step_at (g.C.Compose.algebra c.args.c.now) c.args.event.now (Split c.in-Split.actor c.in-Split.left) c.args.self.now c.split.new.self c.in-Split.is
    c.lawful.ensures c.requires.full (subst IsCore c.self.view_is c.self.invariant.core) c.requires.allowed c.in_ok-split-in-Split.ensures.split

pub returns-in_ok-join-in-Join-clause-stepped : goal.returns-in_ok-join-in-Join-clause-stepped
returns-in_ok-join-in-Join-clause-stepped g c =
    step_at (g.C.Compose.algebra c.args.c.now) c.args.event.now (Join c.in-Join.actor c.in-Join.other) c.args.self.now c.join.new.self c.in-Join.is c.in_ok-join-in-Join.ensures.joined

pub returns-in_ok-join-in-Join-clause-bound : goal.returns-in_ok-join-in-Join-clause-bound
returns-in_ok-join-in-Join-clause-bound g c =
    bound-step_at (g.C.Compose.algebra c.args.c.now) c.args.event.now (Join c.in-Join.actor c.in-Join.other) c.args.self.now c.join.new.self c.in-Join.is
    c.lawful.ensures c.requires.full (subst IsCore c.self.view_is c.self.invariant.core) c.requires.allowed c.in_ok-join-in-Join.ensures.joined
