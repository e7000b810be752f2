use Rattle.std.proofs.Common.{◌≡◌, ap, subst, sym, refl, slice_get, Some}
use Rattle.std.proofs.lemmas.Result.{IfOk-weaker}
use Rattle.std.proofs.lemmas.Option.{slice_get_read}
use Rattle.split_trees.specs.Tree.{TreeNode, AreSteps, sweep}
use Rattle.stepped_networks.specs.Networks.{IsStackOf}
use Rattle.refutation.specs.Ways.{IsFirstStack}
use Rattle.refutation.proofs.Firsts.{first-swept}
use Rattle.refutation.proofs.walking.first_networks.Goals as goal

pub returns-then-are_swept : goal.returns-then-are_swept
returns-then-are_swept g c =
    let m = g.C.Compose.algebra c.args.c.now in
    let n = c.args.net.now.nodes in
    let words = c.args.net.now.words in
    let nodes = c.args.nodes.now in
    record {
      first = IfOk-weaker c.closed.result (IsStackOf m n words sweep) (IsFirstStack m n words nodes)
          (λ s of. first-swept m n words nodes c.requires.formed c.requires.some (c.are_swept.ensures c.if-are_swept.true) s of) c.closed.ensures.stack;
    }

pub stepped-requires-clause-steps : goal.stepped-requires-clause-steps
stepped-requires-clause-steps g c =
    let nodes = c.args.nodes.now in
    let node = c.index-nodes-0.result in
    let there : slice_get nodes 0 ≡ Some node = slice_get_read nodes _ 0 node refl c.requires.some c.index-nodes-0.is in
    subst (AreSteps c.args.net.now.nodes) (sym (ap (λ (y : TreeNode). y.steps) c.first.view_is)) ((c.requires.formed 0 node there).steps)
