use Rattle.std.proofs.Common.{◌≡◌, ◌-◌, ◌<◌, ◌+◌, ◌∷◌, length, refl, sym, ap, ◌∙◌, subst, reverse, get_or, set, slice_get, Some, arith}
use Rattle.std.proofs.lemmas.Option.{slice_get_within, slice_get_read}
use Rattle.std.proofs.lemmas.Grind.{get_or_default_zero}
use Rattle.network_words.specs.Edge.{edge_at}
use Rattle.network_words.specs.Network.{IsNetwork}
use Rattle.refutation.specs.declared.walking.Entered.{Entered}
use Rattle.split_trees.specs.Tree.{TreeNode, split_parts}
use Rattle.split_trees.specs.Steps.{node_steps}
use Rattle.split_trees.specs.Refutes.{IsWorked, met_at}
use Rattle.stepped_networks.specs.Networks.{NetworkStack}
use Rattle.refutation.specs.Ways.{IsStanding}
use Rattle.stepped_networks.proofs.Worked.{worked-network, met_at-network}
use Rattle.refutation.proofs.Pendings.{visiting-next}
use Rattle.refutation.proofs.Ways.{last-read, same-node, next-order, next-below, next-parts, parts-split, standing-network, reverse-set}
use Rattle.refutation.proofs.walking.enter_next.Goals as goal

pub bounds-nodes-last : goal.bounds-nodes-last
bounds-nodes-last c =
    let r = c.requires.next in
    let len : c.len-at.result ≡ length c.args.way.now.items = c.len-at.ensures ∙ c.args.way.now.ok.0 in
    let last : c.index-last.result.now ≡ r.at =
    c.index-last.ensures ∙ ap (λ k. get_or c.args.way.now.items (k - 1) c.index-last.result.now) len ∙ last-read c.args.way.now.items r.before r.at r.way_is c.index-last.result.now in
    rw last (slice_get_within c.args.nodes.now r.at.node r.node r.is_there)

pub edge-edge-requires-clause-order : goal.edge-edge-requires-clause-order
edge-edge-requires-clause-order c =
    let r = c.requires.next in
    let len : c.len-at.result ≡ length c.args.way.now.items = c.len-at.ensures ∙ c.args.way.now.ok.0 in
    let last : c.index-last.result.now ≡ r.at =
    c.index-last.ensures ∙ ap (λ k. get_or c.args.way.now.items (k - 1) c.index-last.result.now) len ∙ last-read c.args.way.now.items r.before r.at r.way_is c.index-last.result.now in
    let read = c.index-nodes-last.result in
    let node : r.node ≡ read = same-node c.args.nodes.now r.at.node r.node read r.is_there (c.index-nodes-last.is ∙ ap (λ (y : Entered). get_or c.args.nodes.now y.node read) last) in
    let view = c.split.view_is ∙ sym node in
    rw (ap (λ (y : TreeNode). y.i) view, ap (λ (y : TreeNode). y.j) view) (next-order c.args.net.now.nodes c.args.nodes.now c.requires.ready.formed r.node r.at.node r.is_there r.at.next r.left)

pub edge-edge-requires-clause-below : goal.edge-edge-requires-clause-below
edge-edge-requires-clause-below c =
    let r = c.requires.next in
    let len : c.len-at.result ≡ length c.args.way.now.items = c.len-at.ensures ∙ c.args.way.now.ok.0 in
    let last : c.index-last.result.now ≡ r.at =
    c.index-last.ensures ∙ ap (λ k. get_or c.args.way.now.items (k - 1) c.index-last.result.now) len ∙ last-read c.args.way.now.items r.before r.at r.way_is c.index-last.result.now in
    let read = c.index-nodes-last.result in
    let node : r.node ≡ read = same-node c.args.nodes.now r.at.node r.node read r.is_there (c.index-nodes-last.is ∙ ap (λ (y : Entered). get_or c.args.nodes.now y.node read) last) in
    rw (ap (λ (y : TreeNode). y.j) (c.split.view_is ∙ sym node)) (next-below c.args.net.now.nodes c.args.nodes.now c.requires.ready.formed r.node r.at.node r.is_there r.at.next r.left)

pub index-part-requires : goal.index-part-requires
index-part-requires c =
    let r = c.requires.next in
    let len : c.len-at.result ≡ length c.args.way.now.items = c.len-at.ensures ∙ c.args.way.now.ok.0 in
    let last : c.index-last.result.now ≡ r.at =
    c.index-last.ensures ∙ ap (λ k. get_or c.args.way.now.items (k - 1) c.index-last.result.now) len ∙ last-read c.args.way.now.items r.before r.at r.way_is c.index-last.result.now in
    let read = c.index-nodes-last.result in
    let node : r.node ≡ read = same-node c.args.nodes.now r.at.node r.node read r.is_there (c.index-nodes-last.is ∙ ap (λ (y : Entered). get_or c.args.nodes.now y.node read) last) in
    let parts = ap (λ (y : TreeNode). length y.parts) (c.split.view_is ∙ sym node) in
    let next = ap (λ (y : Entered). y.next) last in
    let below = next-parts c.args.net.now.nodes c.args.nodes.now c.requires.ready.formed r.node r.at.node r.is_there r.at.next r.left in
    let long = c.split.inside.parts.ok.0 in
    omega arith

pub enter-requires-clause-steps : goal.enter-requires-clause-steps
enter-requires-clause-steps c =
    let node = c.index-nodes-x.result in
    let there : slice_get c.args.nodes.now c.args.x ≡ Some node = slice_get_read c.args.nodes.now _ c.args.x node refl c.requires.below c.index-nodes-x.is in
    let steps : node_steps c.child.inside.steps ≡ node.steps = ap (λ (y : TreeNode). y.steps) c.child.view_is in
    rw (c.requires.nodes, steps) ((c.requires.ready.formed c.args.x node there).steps)

pub overflow_add-last : goal.overflow_add-last
overflow_add-last c =
    let r = c.requires.next in
    let len : c.len-at.result ≡ length c.args.way.now.items = c.len-at.ensures ∙ c.args.way.now.ok.0 in
    let last : c.index-last.result.now ≡ r.at =
    c.index-last.ensures ∙ ap (λ k. get_or c.args.way.now.items (k - 1) c.index-last.result.now) len ∙ last-read c.args.way.now.items r.before r.at r.way_is c.index-last.result.now in
    let read = c.index-nodes-last.result in
    let node : r.node ≡ read = same-node c.args.nodes.now r.at.node r.node read r.is_there (c.index-nodes-last.is ∙ ap (λ (y : Entered). get_or c.args.nodes.now y.node read) last) in
    let parts = ap (λ (y : TreeNode). length y.parts) (c.split.view_is ∙ sym node) in
    let next = ap (λ (y : Entered). y.next) last in
    let below = next-parts c.args.net.now.nodes c.args.nodes.now c.requires.ready.formed r.node r.at.node r.is_there r.at.next r.left in
    let long = c.split.inside.parts.ok.0 in
    let room = c.split.inside.parts.small in
    omega (arith, c.split.inside.parts.ok.1)

pub returns-clause-arrived : goal.returns-clause-arrived
returns-clause-arrived c =
    let r = c.requires.next in
    let m = c.args.networks.now.algebra in
    let n = c.args.net.now.nodes in
    let words = c.args.net.now.words in
    let nodes = c.args.nodes.now in
    let x = c.args.x in
    let xs = c.args.way.now.items in
    let top = c.args.networks.now.top in
    let under = c.args.networks.now.under in
    let len : c.len-at.result ≡ length xs = c.len-at.ensures ∙ c.args.way.now.ok.0 in
    let last : c.index-last.result.now ≡ r.at =
    c.index-last.ensures ∙ ap (λ k. get_or xs (k - 1) c.index-last.result.now) len ∙ last-read xs r.before r.at r.way_is c.index-last.result.now in
    let read = c.index-nodes-last.result in
    let split : r.node ≡ read = same-node nodes r.at.node r.node read r.is_there (c.index-nodes-last.is ∙ ap (λ (y : Entered). get_or nodes y.node read) last) in
    let view = c.split.view_is ∙ sym split in
    let node = c.index-nodes-x.result in
    let there : slice_get nodes x ≡ Some node = slice_get_read nodes _ x node refl c.requires.below c.index-nodes-x.is in
    let steps : node_steps c.child.inside.steps ≡ node.steps = ap (λ (y : TreeNode). y.steps) c.child.view_is in
    let edge : c.edge-edge.result ≡ edge_at n r.node.i r.node.j = c.edge-edge.ensures.value ∙ ap (λ (y : TreeNode). edge_at n y.i y.j) view in
    let left : r.at.next < length r.node.parts = next-parts n nodes c.requires.ready.formed r.node r.at.node r.is_there r.at.next r.left in
    let part : c.index-part.result.now ≡ get_or (split_parts r.node) r.at.next 0 =
    c.index-part.ensures
    ∙ ap (λ (y : TreeNode). get_or y.parts c.index-last.result.now.next c.index-part.result.now) view
    ∙ ap (λ (y : Entered). get_or r.node.parts y.next c.index-part.result.now) last
    ∙ get_or_default_zero r.node.parts r.at.next c.index-part.result.now left
    ∙ ap (λ ps. get_or ps r.at.next 0) (sym (parts-split r.node (omega (arith, r.left)))) in
    let network = met_at top (edge_at n r.node.i r.node.j) (get_or (split_parts r.node) r.at.next 0) in
    let worked : IsWorked m n node.steps network c.enter.new.self.top = rw (steps, edge, part, c.requires.nodes) at c.in_ok-enter.ensures.worked in
    let entered : Entered = record { node = c.index-last.result.now.node; next = c.index-last.result.now.next + 1 } in
    let way : reverse (set xs (c.len-at.result - 1) entered) ≡ entered ∷ r.before = ap (λ k. reverse (set xs (k - 1) entered)) len ∙ reverse-set xs r.before r.at r.way_is entered in
    let stack = ap (λ (y : NetworkStack). y.under) c.in_ok-enter.ensures.stack in
    let standing : IsStanding m n words nodes x (r.at ∷ r.before) (top ∷ under) = subst (λ y. IsStanding m n words nodes x y (top ∷ under)) r.way_is c.requires.standing in
    let net : IsNetwork m n top = standing-network m n words nodes x c.requires.below (r.at ∷ r.before) top under standing in
    rw (way, stack) (record {
      node = node;
      is_there = there;
      network = network;
      is_worked = worked;
      is_network = worked-network m n network c.enter.new.self.top node.steps (met_at-network m n top (edge_at n r.node.i r.node.j) (get_or (split_parts r.node) r.at.next 0) net) worked;
      visiting = visiting-next m n words nodes x r.at r.before top under r.node r.is_there r.left entered (ap (λ (y : Entered). y.node) last) (ap (λ (y : Entered). y.next + 1) last) standing;
    })
