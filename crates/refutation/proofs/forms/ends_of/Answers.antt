use Rattle.std.proofs.Common.{◌≡◌, ◌-◌, ◌∙◌, ap, refl, slice_get, Some, arith}
use Rattle.std.proofs.lemmas.Option.{slice_get_read}
use Rattle.refutation.specs.TreeFault.{child_number}
use Rattle.refutation.proofs.Counts.{ends-more}
use Rattle.refutation.proofs.forms.ends_of.Goals as goal

pub loop-x-preserved : goal.loop-x-preserved
loop-x-preserved c =
    let nodes = c.args.nodes.now in
    let x = c.loop-x.x - 1 in
    let node = c.index-nodes-x.result in
    let there : slice_get nodes x ≡ Some node = slice_get_read nodes _ x node refl (omega arith) c.index-nodes-x.is in
    ends-more nodes x c.loop-x.x c.loop-x.ends.items node c.after_children-end.result (omega arith) (omega arith) c.loop-x.invariant there
    (c.after_children-end.ensures ∙ ap (child_number nodes x) c.arity.ensures)
