use Rattle.std.proofs.Common.{refl, ap, arith}
use Rattle.minimal_net.specs.declared.open_split.OpenSplit.{OpenSplit}
use Rattle.minimal_net.specs.Searching.{task_of, children_left}
use Rattle.minimal_net.proofs.Steps.{next-undecided, next-bases, next-ruled, next-few, child-split, left-last}
use Rattle.minimal_net.proofs.labeller.Labeller.split.Goals as goal

pub next_parts-requires-clause-bases : goal.next_parts-requires-clause-bases
next_parts-requires-clause-bases c =
    let s = c.args.self.now in
    next-bases (task_of s) c.requires.task s.path.top c.requires.child.1.network c.requires.not_empty c.args.edge

pub returns-clause-on : goal.returns-clause-on
returns-clause-on c =
    let s = c.args.self.now in
    let t = task_of s in
    let state : OpenSplit = record { edge = c.args.edge; parts = c.in_ok-parts.parts; next = 0 } in
    rw c.in_ok-parts.ensures.path (λ o h.
    let u = next-undecided t c.requires.task s.path.top h.network c.requires.not_empty c.args.edge c.requires.next in
    let ruled = next-ruled t c.requires.task s.path.top h.network c.requires.not_empty c.args.edge c.requires.next
    c.in_ok-parts.parts.items c.in_ok-parts.ensures.parts in
    child-split t c.requires.task o s.open_splits.items c.push.new.self.items s.path.below s.path.top s.count state h refl u
    c.requires.left ruled c.in-Ok.ensures.items)

pub returns-clause-less : goal.returns-clause-less
returns-clause-less c =
    let s = c.args.self.now in
    let t = task_of s in
    let net = c.requires.child.1.network in
    let state : OpenSplit = record { edge = c.args.edge; parts = c.in_ok-parts.parts; next = 0 } in
    let ruled = next-ruled t c.requires.task s.path.top net c.requires.not_empty c.args.edge c.requires.next
    c.in_ok-parts.parts.items c.in_ok-parts.ensures.parts in
    omega (
      arith,
      c.requires.left,
      next-few t c.requires.task s.path.top net c.requires.not_empty c.args.edge c.requires.next c.in_ok-parts.parts.items ruled,
      left-last s.open_splits.items state,
      ap children_left c.in-Ok.ensures.items,
    )
