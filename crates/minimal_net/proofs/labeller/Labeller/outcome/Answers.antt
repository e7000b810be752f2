use Rattle.std.proofs.Common.{sym, subst}
use Rattle.std.specs.Prelude.{Contains}
use Rattle.calculus_table.proofs.Singles.{single-within}
use Rattle.minimal_net.specs.Searching.{task_of, IsOutcomeAt}
use Rattle.minimal_net.proofs.Outcomes.{idle-top, idle-has, base-small, base-full, label_child, found-outcome}
use Rattle.minimal_net.proofs.labeller.Labeller.outcome.Goals as goal

pub single-requires : goal.single-requires
single-requires c =
    let s = c.args.self.now in
    base-small (task_of s) c.requires.task c.args.edge c.args.base
    (idle-has s c.requires.idle c.args.edge c.args.base c.requires.base)

pub narrow-requires-clause-full : goal.narrow-requires-clause-full
narrow-requires-clause-full c =
    let s = c.args.self.now in
    subst (λ ws. ¬ Contains ws 0) (idle-top s c.requires.idle)
    (base-full (task_of s) c.requires.task c.args.edge c.args.base
    (idle-has s c.requires.idle c.args.edge c.args.base c.requires.base))

pub narrow-requires-clause-within : goal.narrow-requires-clause-within
narrow-requires-clause-within c =
    rw c.single.ensures (single-within c.args.base _ c.requires.base)

pub search-found-requires-clause-child : goal.search-found-requires-clause-child
search-found-requires-clause-child c =
    let l = label_child c.args.self.now c.requires.task c.requires.idle c.args.edge c.args.base c.single.result
    c.narrow.new.self c.requires.edge c.requires.base c.single.ensures c.in_ok-narrow.ensures.level
    c.in_ok-narrow.ensures.closure in
    (l.outcome, l.at)

pub returns-clause-outcome : goal.returns-clause-outcome
returns-clause-outcome c =
    let l = label_child c.args.self.now c.requires.task c.requires.idle c.args.edge c.args.base c.single.result
    c.narrow.new.self c.requires.edge c.requires.base c.single.ensures c.in_ok-narrow.ensures.level
    c.in_ok-narrow.ensures.closure in
    subst (IsOutcomeAt (task_of c.args.self.now) c.args.edge c.args.base)
    (sym (found-outcome l.outcome c.in_ok-found.field-0 c.unwrap_or.result c.unwrap_or.ensures
    (c.in_ok-found.ensures.found l.outcome l.at))) l.is_outcome
