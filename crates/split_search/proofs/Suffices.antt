-- Where the budget isn't spent.
use Rattle.std.proofs.Common.{◌≡◌, ℕ, List, subst, inl, inr}
use Rattle.std.specs.Prelude.{Contains}
use Rattle.calculus_table.specs.Algebra.{Algebra}
use Rattle.calculus_table.specs.Calculus.{IsCalculus}
use Rattle.network_words.specs.Network.{IsNetwork}
use Rattle.network_words.specs.Closure.{IsClosure}
use Rattle.network_words.proofs.Networks.{IsClosure-unique}
use Rattle.split_trees.specs.Tree.{TreeNode}
use Rattle.split_search.specs.declared.verdict.Verdict.TheVariants.{Yes, Budget}
use Rattle.split_search.specs.Laws.{BudgetSuffices}
use Rattle.split_search.specs.Ruled.{at_budget, Ends, IsVerdict}
use Rattle.split_search.specs.Straight.{HasStraightBound}
use Rattle.split_search.proofs.EarlyEnds.{straight_yes}
use Rattle.split_search.proofs.Least.{least_exist}
use Rattle.split_search.proofs.Networks.{closure-network}
use Rattle.split_search.proofs.Products.{product_suffices, spent-undecided}

not_yes : (relations : List ℕ) (nodes others : List TreeNode) → Budget nodes ≡ Yes relations others → ⊥
not_yes relations nodes others e = cc

straight_suffices : (m : Algebra) (n : ℕ) (class : List ℕ) (budget : ℕ) (words closure : List ℕ) (nodes : List TreeNode) →
    IsCalculus m → IsNetwork m n words → IsClosure m n words closure → HasStraightBound m class budget closure →
    ¬ IsVerdict m n class budget words (Budget nodes)
straight_suffices m n class budget words closure nodes calculus net is bound v =
    let same : v.closure ≡ closure = IsClosure-unique m n words v.closure closure v.is_closure is in
    let ends : Ends m n class at_budget closure v.tree = subst (λ c. Ends m n class at_budget c v.tree) same v.has.0 in
    let own : IsNetwork m n closure = closure-network m n words closure net is in
    let full : ¬ Contains closure 0 = (spent-undecided m n class closure v.tree ends).no_empty in
    let least = least_exist n closure own.length_is full in
    let found = straight_yes m n class budget words closure least.0 (Budget nodes) calculus bound.own bound.straight net is
    bound.members least.1 bound.few v in
    not_yes least.0 nodes found.0 found.1

pub budget_suffices : BudgetSuffices
budget_suffices m n class budget words closure nodes calculus net bases is (inl few) =
    product_suffices m n class budget words closure nodes calculus net bases is few
budget_suffices m n class budget words closure nodes calculus net bases is (inr bound) =
    straight_suffices m n class budget words closure nodes calculus net is bound
