use Rattle.std.proofs.Common.{◌≡◌, ◌<◌, length, arith, below_more}
use Rattle.std.specs.Prelude.{slice_index}
use Rattle.refutation.specs.TreeFault.{child_number}
use Rattle.refutation.proofs.Counts.{next-lt, next-more, child_number-le}
use Rattle.refutation.proofs.forms.has_numbers.Goals as goal

pub bounds-ends-next : goal.bounds-ends-next
bounds-ends-next c =
    next-lt c.args.nodes.now c.args.x c.requires.below c.args.ends.now 0 c.requires.ends (omega arith) c.loop-child.next c.loop-child.child-index c.loop-child.invariant.next_is

pub loop-child-preserved : goal.loop-child-preserved
loop-child-preserved c =
    let at = c.loop-child.child-index in
    let le = child_number-le c.args.nodes.now c.args.x c.requires.below at in
    let here : slice_index c.args.children.now at ≡ child_number c.args.nodes.now c.args.x at = omega (arith, c.loop-child.invariant.next_is) in
    record {
      next_is = next-more c.args.nodes.now c.args.x c.requires.below c.args.ends.now 0 c.requires.ends (omega arith) c.loop-child.next at c.loop-child.invariant.next_is;
      before = below_more
          (λ p. (slice_index c.args.children.now p ≡ child_number c.args.nodes.now c.args.x p) × (slice_index c.args.children.now p < length c.args.nodes.now))
          at c.loop-child.invariant.before
          (here, omega (arith, c.loop-child.invariant.next_is));
    }
