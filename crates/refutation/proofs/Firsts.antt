-- The walk begins at the first node, with its worked network alone.
use Rattle.std.proofs.Common.{◌≡◌, ◌<◌, ℕ, true, false, List, [], length, get_or, sym, ◌∙◌, subst, slice_get, Some}
use Rattle.std.specs.Prelude.{All}
use Rattle.std.proofs.lemmas.Option.{slice_get-get_or}
use Rattle.calculus_table.specs.Algebra.{Algebra}
use Rattle.network_words.specs.Network.{IsNetwork}
use Rattle.split_trees.specs.declared.tree.Kind.TheVariants.{Empty}
use Rattle.split_trees.specs.Tree.{TreeNode, sweep, leaf_node}
use Rattle.split_trees.specs.Refutes.{IsWorked}
use Rattle.refutation.specs.TreeFault.{AreFormed}
use Rattle.stepped_networks.specs.Networks.{NetworkStack, IsStackOf}
use Rattle.refutation.specs.Ways.{IsArrived, IsFirstStack}
use Rattle.stepped_networks.proofs.Worked.{worked-network}
use Rattle.refutation.proofs.Pendings.{visiting-first}
use Rattle.refutation.proofs.Forests.{tree_of-formed}

module _ (m : Algebra) (n : ℕ) (words : List ℕ) (nodes : List TreeNode) (formed : AreFormed n nodes) where
  -- where every node closes its network
  pub first-swept : 0 < length nodes → All (λ (node : TreeNode). node.steps ≡ sweep) nodes → (s : NetworkStack) → IsStackOf m n words sweep s → IsFirstStack m n words nodes s
  first-swept some swept s of =
      let d : TreeNode = leaf_node Empty sweep in
      record {
        algebra_is = of.algebra_is;
        nodes_are = of.nodes_are;
        alone = of.alone;
        ready = record { formed = formed; closed = λ _. swept };
        node = get_or nodes 0 d;
        is_there = slice_get-get_or nodes 0 d some;
        is_worked = subst (λ steps. IsWorked m n steps words s.top) (sym (swept 0 d some)) of.worked;
      }

  -- where nodes may have steps
  pub first-stepped : (node : TreeNode) → slice_get nodes 0 ≡ Some node → (s : NetworkStack) → IsStackOf m n words node.steps s → s.is_closed ≡ false → IsFirstStack m n words nodes s
  first-stepped node there s of open_is = record {
    algebra_is = of.algebra_is;
    nodes_are = of.nodes_are;
    alone = of.alone;
    ready = record { formed = formed; closed = λ closed_is. absurd (let bad : true ≡ false = sym closed_is ∙ open_is in cc) };
    node = node;
    is_there = there;
    is_worked = of.worked;
  }

  pub arrived-first : IsNetwork m n words → 0 < length nodes → (s : NetworkStack) → IsFirstStack m n words nodes s → IsArrived s.algebra n words nodes 0 s.top [] s.under
  arrived-first net some s f =
      let t = tree_of-formed n nodes formed some in
      let arrived : IsArrived m n words nodes 0 s.top [] [] = record {
        node = f.node;
        is_there = f.is_there;
        network = words;
        is_worked = f.is_worked;
        is_network = worked-network m n words s.top f.node.steps net f.is_worked;
        visiting = visiting-first m n words nodes t.0 t.1;
      } in
      subst (λ a. IsArrived a n words nodes 0 s.top [] s.under) (sym f.algebra_is) (subst (λ u. IsArrived m n words nodes 0 s.top [] u) (sym f.alone) arrived)
