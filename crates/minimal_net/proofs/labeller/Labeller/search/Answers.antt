use Rattle.std.proofs.Common.{◌≡◌, [], ap, subst, arith}
use Rattle.std.proofs.lemmas.List.{nil_from_length}
use Rattle.minimal_net.specs.Searching.{task_of, IsBetween, children_left}
use Rattle.minimal_net.proofs.Steps.{between-end, none-found, some-found, left-last}
use Rattle.minimal_net.proofs.labeller.Labeller.search.Goals as goal

pub returns-in_default-clause-found : goal.returns-in_default-clause-found
returns-in_default-clause-found c = λ o h.
    let s = c.loop-found.self in
    let t = task_of s in
    let none : s.open_splits.items ≡ [] =
    nil_from_length s.open_splits.items (omega (arith, c.in_default.ensures.cases.0, s.open_splits.ok.0)) in
    let on = none-found c.loop-found.found _ _ c.is_none.result c.is_none.ensures c.loop-found-test.true
    (c.loop-found.invariant.found o h) in
    between-end t (rw c.loop-found.invariant.task c.requires.task) o s.path.below s.path.top s.count
    (subst (λ xs. IsBetween t o xs s.path.below s.path.top s.count) none on)

pub loop-found-smaller : goal.loop-found-smaller
loop-found-smaller c = omega (
  arith,
  c.in_ok-found-2.ensures.less,
  left-last c.pop.new.self.items c.in-Some.split,
  ap children_left c.in-Some.ensures.items,
)

pub returns-clause-found : goal.returns-clause-found
returns-clause-found c = λ o h.
    some-found c.loop-found.found _ _ _ c.is_none.result c.is_none.ensures c.loop-found-test.false (c.loop-found.invariant.found o h)
