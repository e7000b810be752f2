-- Leaves that hold nothing beside their kinds and steps.
use Rattle.std.proofs.Common.{◌≡◌, ℕ, List, [], ◌∷◌, map, All, sym, ap, ◌∙◌}
use Rattle.std.proofs.lemmas.List.Elements.{All-nil, All-cons, All-head, All-tail}
use Rattle.split_trees.specs.declared.tree.Kind.{Kind}
use Rattle.split_trees.specs.declared.tree.Kind.TheVariants.{Empty, Found, Open, Later, Split}
use Rattle.split_trees.specs.Tree.{TreeNode, NodeSteps, sweep, leaf_node, bare, IsBareLeaf, HasBareLeaves}
use Rattle.stepped_networks.proofs.ListEnds.{head-same, tail-same}

abbrev node_with : Kind → ℕ → ℕ → List ℕ → List ℕ → NodeSteps → TreeNode
node_with kind i j parts children steps = record { kind = kind; i = i; j = j; parts = parts; children = children; steps = steps }

leaf-bare : (kind : Kind) (i j : ℕ) (parts children : List ℕ) (steps : NodeSteps) → bare (node_with kind i j parts children steps) ≡ node_with kind i j parts children steps →
    steps ≡ sweep → IsBareLeaf kind (node_with kind i j parts children steps)
leaf-bare Empty i j parts children steps e s = sym e
leaf-bare Found i j parts children steps e s = sym e ∙ ap (leaf_node Found) s
leaf-bare Open i j parts children steps e s = sym e ∙ ap (leaf_node Open) s
leaf-bare Later i j parts children steps e s = sym e ∙ ap (leaf_node Later) s
leaf-bare Split i j parts children steps e s = tt

-- where each node sweeps and leaves are bare as nodes, they are as leaves
pub HasBareLeaves-swept : (nodes : List TreeNode) → All (λ node. node.steps ≡ sweep) nodes → map bare nodes ≡ nodes → HasBareLeaves nodes
HasBareLeaves-swept [] swept bares = All-nil (λ node. IsBareLeaf node.kind node)
HasBareLeaves-swept (node ∷ nodes) swept bares =
    All-cons (λ a. IsBareLeaf a.kind a) node nodes
    (leaf-bare node.kind node.i node.j node.parts node.children node.steps (head-same _ _ _ _ bares) (All-head (λ a. a.steps ≡ sweep) node nodes swept))
    (HasBareLeaves-swept nodes (All-tail (λ a. a.steps ≡ sweep) node nodes swept) (tail-same _ _ _ _ bares))
