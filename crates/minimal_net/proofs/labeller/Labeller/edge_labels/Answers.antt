use Rattle.std.proofs.Common.{◌+◌, ap, ◌∙◌, sym, subst, arith}
use Rattle.std.specs.Prelude.{slice_index}
use Rattle.std.proofs.lemmas.Bool.{both_ways}
use Rattle.calculus_table.specs.Rel.{Has}
use Rattle.minimal_net.specs.Searching.{Task, task_of, IsIdle, IsOutcomeAt}
use Rattle.minimal_net.proofs.LabelsOfEdges.{AreLabelsBelow, labels-put, labels-skip, labels-all}
use Rattle.minimal_net.proofs.Outcomes.{idle-top, base-below}
use Rattle.minimal_net.proofs.labeller.Labeller.edge_labels.Goals as goal
use Rattle.minimal_net.proofs.labeller.Labeller.edge_labels.Goals.{then-has+in_ok-outcome, else-has}

pub loop-base-preserved : goal.loop-base-preserved
loop-base-preserved c =
    let s = c.args.self.now in
    let t = task_of s in
    let e = c.args.edge in
    let set = slice_index t.words e in
    let base = c.loop-base.base in
    let inv = c.loop-base.invariant in
    let there = ap (λ ws. slice_index ws e) (idle-top s c.requires.idle) ∙ sym c.word-set.ensures in
    elim c.if-has.branch [
      | then-has+in_ok-outcome w ↦ (
          let has : Has set base = subst (λ a. Has a base) (sym there) (c.has.ensures.0 w.if-has.true) in
          let o = w.in_ok-outcome.field-0 in
          let is : IsOutcomeAt t e base o =
          subst (λ (u : Task). IsOutcomeAt u e base o) inv.task w.in_ok-outcome.ensures.outcome in
          record {
            task = ap task_of w.self-is ∙ w.in_ok-outcome.ensures.task ∙ inv.task;
            idle = subst IsIdle (sym w.self-is) w.in_ok-outcome.ensures.idle;
            labels = subst (AreLabelsBelow t.algebra t.nodes t.class t.budget t.words e set (base + 1)) (sym w.labels-is)
                (labels-put t.algebra t.nodes t.class t.budget t.words e set base o c.loop-base.labels w.put.new.self inv.labels
                has is w.put.ensures);
          })
      | else-has w ↦ (
          let none : ¬ Has set base =
          λ has. both_ways c.has.result w.if-has.false (c.has.ensures.1 (subst (λ a. Has a base) there has)) in
          record {
            task = ap task_of w.self-is ∙ inv.task;
            idle = subst IsIdle (sym w.self-is) inv.idle;
            labels = subst (AreLabelsBelow t.algebra t.nodes t.class t.budget t.words e set (base + 1)) (sym w.labels-is)
                (labels-skip t.algebra t.nodes t.class t.budget t.words e set base c.loop-base.labels inv.labels none);
          })
    ]

pub returns-clause-labels : goal.returns-clause-labels
returns-clause-labels c =
    let t = task_of c.args.self.now in
    let e = c.args.edge in
    let set = slice_index t.words e in
    labels-all t.algebra t.nodes t.class t.budget t.words e set c.loop-base.base c.loop-base.labels
    c.loop-base.invariant.labels (λ base has.
    omega (arith, base-below t c.requires.task e base has, c.loop-base-test.false, c.size-base-end.ensures, c.requires.task.size_is))
