-- What a certificate says.
use Rattle.std.specs.Prelude.{ℕ, List, Option}
use Rattle.split_trees.specs.Tree.{TreeNode}
use Rattle.cert_file.specs.declared.claim.Claim.{Claim}

-- the number of nodes and the names of the base relations of the network, what is claimed of it, and what shows that: the base
-- relation of each edge of a scenario, and a tree of splits as the list of its nodes
pub record Certificate : Type 0 where
  pub nodes : ℕ
  pub relations : List (List ℕ)
  pub claim : Claim
  pub scenario : Option (List ℕ)
  pub tree : List TreeNode
