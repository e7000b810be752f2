use Rattle.std.proofs.Common.{◌<◌, sym, subst}
use Rattle.calculus_table.specs.Algebra.{converse_at}
use Rattle.calculus_table.specs.Calculus.{IsTable}
use Rattle.calculus_table.specs.TripleLaw.{ObeysAt, ObeyBefore}
use Rattle.calculus_table.proofs.Turned.{cycle-turned, converse-turned}
use Rattle.calculus_table.proofs.table.Table.known_below.Goals as goal

pub returns-then-converse_at-r : goal.returns-then-converse_at-r
returns-then-converse_at-r c = λ t below _.
    let table = c.converse_at.ensures.table in
    let first = subst (λ k. k < c.args.r) c.converse_at.ensures.value c.if-converse_at-r.true in
    let before = subst (λ law. ObeyBefore law c.args.self.now c.args.r) c.in-Converse.is c.requires.before in
    subst (λ law. ObeysAt law c.args.self.now c.args.r c.args.s t) (sym c.in-Converse.is)
    (converse-turned c.args.self.now c.args.r c.args.s t c.requires.involution c.requires.first c.requires.second below
    (before (converse_at c.args.self.now c.args.s) (converse_at c.args.self.now c.args.r) (converse_at c.args.self.now t) first
    (table.converse_below c.args.r c.requires.first) (table.converse_below t below)))

pub returns-in-Cycle : goal.returns-in-Cycle
returns-in-Cycle c = λ t below less.
    let table = subst IsTable c.self.view_is c.self.invariant in
    let before = subst (λ law. ObeyBefore law c.args.self.now c.args.r) c.in-Cycle.is c.requires.before in
    subst (λ law. ObeysAt law c.args.self.now c.args.r c.args.s t) (sym c.in-Cycle.is)
    (cycle-turned c.args.self.now c.args.r c.args.s t c.requires.involution c.requires.second
    (before t (converse_at c.args.self.now c.args.s) c.args.r less (table.converse_below c.args.s c.requires.second) c.requires.first))
