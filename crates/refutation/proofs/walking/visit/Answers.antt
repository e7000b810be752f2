use Rattle.std.proofs.Common.{◌≡◌, inl, refl, sym, ap, ◌∙◌, subst, reverse, slice_get, Some}
use Rattle.std.proofs.lemmas.Result.{err_from_is_err_and}
use Rattle.refutation.specs.declared.walking.Entered.{Entered}
use Rattle.split_trees.specs.Tree.{TreeNode}
use Rattle.refutation.specs.Ways.{IsSound, IsFaultAt}
use Rattle.refutation.proofs.Ways.{same-node, reverse-push}
use Rattle.refutation.proofs.Pendings.{standing-visited, fault-visited}
use Rattle.refutation.proofs.walking.visit.Goals as goal

pub look-requires-clause-edge : goal.look-requires-clause-edge
look-requires-clause-edge c =
    let a = c.requires.arrived in
    let same : a.node ≡ c.index-nodes-x.result = same-node c.args.nodes.now c.args.x a.node c.index-nodes-x.result a.is_there c.index-nodes-x.is in
    let there : slice_get c.args.nodes.now c.args.x ≡ Some c.index-nodes-x.result = a.is_there ∙ ap Some same in
    λ kind. (let at = (c.requires.ready.formed c.args.x c.index-nodes-x.result there).form.is_split kind in (at.order, at.below))

pub returns-in_err-look : goal.returns-in_err-look
returns-in_err-look c =
    let a = c.requires.arrived in
    let same : a.node ≡ c.index-nodes-x.result = same-node c.args.nodes.now c.args.x a.node c.index-nodes-x.result a.is_there c.index-nodes-x.is in
    let p = err_from_is_err_and c.from_residual.result c.from_residual.ensures.1 in
    rw (p.1, p.2) (inl (fault-visited c.args.networks.now.algebra c.args.net.now.nodes c.args.net.now.words c.args.nodes.now c.args.x a.node a.is_there a.network c.args.networks.now.top a.is_worked
    (reverse c.args.way.now.items) c.args.networks.now.under c.in_err-look.field-0.0
    (subst (λ (y : TreeNode). IsFaultAt c.args.net.now.nodes c.args.networks.now.top y c.args.x c.in_err-look.field-0.0) (sym same) c.in_err-look.ensures) a.visiting))

pub returns : goal.returns
returns c =
    let a = c.requires.arrived in
    let same : a.node ≡ c.index-nodes-x.result = same-node c.args.nodes.now c.args.x a.node c.index-nodes-x.result a.is_there c.index-nodes-x.is in
    let entered : Entered = record { node = c.args.x; next = 0 } in
    let way = ap reverse c.in-Ok.ensures.items ∙ reverse-push c.args.way.now.items entered in
    rw way (standing-visited c.args.networks.now.algebra c.args.net.now.nodes c.args.net.now.words c.args.nodes.now c.args.x a.node a.is_there a.network c.args.networks.now.top a.is_worked
    (reverse c.args.way.now.items) c.args.networks.now.under entered refl refl a.is_network
    (subst (λ (y : TreeNode). IsSound c.args.net.now.nodes c.args.networks.now.top y) (sym same) c.in_ok-look.ensures) a.visiting)
