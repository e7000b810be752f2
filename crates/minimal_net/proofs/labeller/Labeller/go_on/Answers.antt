use Rattle.std.proofs.Common.{◌≡◌, ap, sym, subst, length, arith}
use Rattle.split_search.specs.Candidates.{GuidedLevels}
use Rattle.minimal_net.specs.declared.open_split.OpenSplit.{OpenSplit}
use Rattle.minimal_net.specs.Searching.{Task, task_of, task_on, IsBetween, IsAtChild, children_left}
use Rattle.minimal_net.proofs.Steps.{between-above, between-left, between-narrows, between-child, left-task, pushed-task}
use Rattle.minimal_net.proofs.Steps.{left-last, on-less}
use Rattle.minimal_net.proofs.labeller.Labeller.go_on.Goals as goal

pub returns-in_default-clause-task : goal.returns-in_default-clause-task
returns-in_default-clause-task c =
    let s = c.args.self.now in
    left-task s.path c.leave.new.self s.budget s.is_straight
    (between-above (task_of s) c.requires.task c.requires.between.0 s.open_splits.items c.args.split s.path.below s.path.top s.count
    c.requires.between.1)
    c.leave.ensures.left c.leave.ensures.rest

pub returns-in_default-clause-found : goal.returns-in_default-clause-found
returns-in_default-clause-found c = λ o h.
    let s = c.args.self.now in
    let items = s.open_splits.items in
    let above = between-above (task_of s) c.requires.task o items c.args.split s.path.below s.path.top s.count h in
    let same : task_on c.leave.new.self s.budget s.is_straight ≡ task_of s =
    left-task s.path c.leave.new.self s.budget s.is_straight above c.leave.ensures.left c.leave.ensures.rest in
    subst (λ (t : Task). IsBetween t o items c.leave.new.self.below c.leave.new.self.top s.count) (sym same)
    (between-left (task_of s) c.requires.task o items c.args.split s.path.below c.leave.new.self.below s.path.top
    c.leave.new.self.top s.count h c.in_default.ensures.0 c.leave.ensures.left)

pub narrow-requires-clause-full : goal.narrow-requires-clause-full
narrow-requires-clause-full c =
    let s = c.args.self.now in
    (between-narrows (task_of s) c.requires.task c.requires.between.0 s.open_splits.items c.args.split c.next_part.new.self
    s.path.below s.path.top s.count c.in-Some.part c.requires.between.1 c.in-Some.ensures).full

pub narrow-requires-clause-below : goal.narrow-requires-clause-below
narrow-requires-clause-below c =
    let s = c.args.self.now in
    (between-narrows (task_of s) c.requires.task c.requires.between.0 s.open_splits.items c.args.split c.next_part.new.self
    s.path.below s.path.top s.count c.in-Some.part c.requires.between.1 c.in-Some.ensures).below

pub narrow-requires-clause-within : goal.narrow-requires-clause-within
narrow-requires-clause-within c =
    let s = c.args.self.now in
    (between-narrows (task_of s) c.requires.task c.requires.between.0 s.open_splits.items c.args.split c.next_part.new.self
    s.path.below s.path.top s.count c.in-Some.part c.requires.between.1 c.in-Some.ensures).within

pub visit-requires-clause-child : goal.visit-requires-clause-child
visit-requires-clause-child c =
    let s = c.args.self.now in
    let p = c.narrow.new.self in
    let o = c.requires.between.0 in
    let same : task_on p s.budget s.is_straight ≡ task_of s =
    pushed-task s.path p s.budget s.is_straight c.in_ok-narrow.ensures.level in (
      o,
      subst (λ (t : Task). IsAtChild t o c.push.new.self.items p.below p.top s.count) (sym same)
          (between-child (task_of s) c.requires.task o s.open_splits.items c.push.new.self.items c.args.split c.next_part.new.self
          s.path.below p.below s.path.top p.top s.count c.in-Some.part c.requires.between.1 c.in-Some.ensures c.in-Ok.ensures.items
          (ap (λ (g : GuidedLevels). g.below) c.in_ok-narrow.ensures.level) c.in_ok-narrow.ensures.closure),
    )

pub returns-clause-found : goal.returns-clause-found
returns-clause-found c = λ o h.
    let s = c.args.self.now in
    let p = c.narrow.new.self in
    let same : task_on p s.budget s.is_straight ≡ task_of s =
    pushed-task s.path p s.budget s.is_straight c.in_ok-narrow.ensures.level in
    c.visit.ensures.found o (subst (λ (t : Task). IsAtChild t o c.push.new.self.items p.below p.top s.count) (sym same)
    (between-child (task_of s) c.requires.task o s.open_splits.items c.push.new.self.items c.args.split c.next_part.new.self
    s.path.below p.below s.path.top p.top s.count c.in-Some.part h c.in-Some.ensures c.in-Ok.ensures.items
    (ap (λ (g : GuidedLevels). g.below) c.in_ok-narrow.ensures.level) c.in_ok-narrow.ensures.closure))

pub returns-clause-less : goal.returns-clause-less
returns-clause-less c =
    let next = c.next_part.new.self in
    on-less c.visit.result _ _ _ c.visit.ensures.less (omega (
      arith,
      c.in-Some.ensures.left,
      ap (λ (s : OpenSplit). s.next) c.in-Some.ensures.split_is,
      ap (λ (s : OpenSplit). length s.parts.items) c.in-Some.ensures.split_is,
      left-last c.args.self.now.open_splits.items next,
      ap children_left c.in-Ok.ensures.items,
    ))
