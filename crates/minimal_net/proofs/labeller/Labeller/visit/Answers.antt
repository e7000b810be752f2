use Rattle.std.proofs.Common.{◌≡◌, sym, subst}
use Rattle.std.specs.Prelude.{Contains}
use Rattle.std.proofs.lemmas.Bool.{both_ways}
use Rattle.minimal_net.specs.Searching.{Task, task_of, task_on, IsBetween}
use Rattle.minimal_net.proofs.Leading.{tree-few, early-held, single-held, spent-open}
use Rattle.minimal_net.proofs.Steps.{child-above, child-left, left-task, next-undecided}
use Rattle.minimal_net.proofs.labeller.Labeller.visit.Goals as goal

pub returns-then-is_empty-clause-task : goal.returns-then-is_empty-clause-task
returns-then-is_empty-clause-task c =
    let s = c.args.self.now in
    left-task s.path c.leave.new.self s.budget s.is_straight
    (child-above (task_of s) c.requires.task c.requires.child.0 s.open_splits.items s.path.below s.path.top s.count c.requires.child.1)
    c.leave.ensures.left c.leave.ensures.rest

pub returns-then-is_empty-clause-found : goal.returns-then-is_empty-clause-found
returns-then-is_empty-clause-found c = λ o h.
    let s = c.args.self.now in
    let above = child-above (task_of s) c.requires.task o s.open_splits.items s.path.below s.path.top s.count h in
    let same : task_on c.leave.new.self s.budget s.is_straight ≡ task_of s =
    left-task s.path c.leave.new.self s.budget s.is_straight above c.leave.ensures.left c.leave.ensures.rest in
    subst (λ (t : Task). IsBetween t o s.open_splits.items c.leave.new.self.below c.leave.new.self.top s.count) (sym same)
    (child-left (task_of s) c.requires.task o s.open_splits.items s.path.below c.leave.new.self.below s.path.top
    c.leave.new.self.top s.count h (c.is_empty.ensures.0 c.if-is_empty.true) c.leave.ensures.left)

pub can_end_early-requires-clause-count : goal.can_end_early-requires-clause-count
can_end_early-requires-clause-count c =
    let s = c.args.self.now in
    let t = task_of s in
    let h = c.requires.child.1 in
    tree-few t.algebra t.nodes t.class t.budget c.requires.child.0 h.way s.count s.path.top h.tree h.leads

pub returns-then-can_end_early-clause-found : goal.returns-then-can_end_early-clause-found
returns-then-can_end_early-clause-found c = λ o h.
    let s = c.args.self.now in
    let t = task_of s in
    let early = c.can_end_early.ensures c.if-can_end_early.true in
    let known = c.requires.task.straight early.straight in
    let full : ¬ Contains s.path.top 0 =
    λ e. both_ways c.is_empty.result c.if-is_empty.false (c.is_empty.ensures.1 e) in
    early-held t.algebra t.nodes t.class t.budget o c.requires.task.calculus known.0 known.1 h.way s.count s.path.top h.tree
    h.network h.closed full early.members early.room h.leads

pub returns-in_default-clause-found : goal.returns-in_default-clause-found
returns-in_default-clause-found c = λ o h.
    let s = c.args.self.now in
    let t = task_of s in
    let full : ¬ Contains s.path.top 0 =
    λ e. both_ways c.is_empty.result c.if-is_empty.false (c.is_empty.ensures.1 e) in
    single-held t.algebra t.nodes t.class t.budget o h.way s.count s.path.top h.tree full c.in_default.ensures h.leads

pub returns-then-self-clause-found : goal.returns-then-self-clause-found
returns-then-self-clause-found c = λ o h.
    let s = c.args.self.now in
    let t = task_of s in
    let full : ¬ Contains s.path.top 0 =
    λ e. both_ways c.is_empty.result c.if-is_empty.false (c.is_empty.ensures.1 e) in
    let u = next-undecided t c.requires.task s.path.top h.network full c.in-Some.edge c.in-Some.ensures in
    spent-open t.algebra t.nodes t.class t.budget o h.way s.count s.path.top h.tree u c.if-self.true h.leads
