-- What the commands say of certificates: that of a verdict, whether one shows what it claims, and its traced form.
use Rattle.std.specs.Prelude.{◌≡◌, ◌⊎◌, ⊤, ℕ, List, Option, None, Some, IsSomeAnd}
use Rattle.calculus_table.specs.Calculus.{NamedAlgebra}
use Rattle.network_words.specs.Network.{Network}
use Rattle.network_words.specs.Scenario.{IsScenario}
use Rattle.scenario.specs.ScenarioFault as scenario_faults
use Rattle.scenario.specs.declared.checking.At.{At}
use Rattle.split_trees.specs.Refutes.{IsRefutation}
use Rattle.refutation.specs.Traced.{IsTracedOf}
use Rattle.split_trees.specs.Tree.{TreeNode}
use Rattle.refutation.specs.TreeFault as tree_faults
use Rattle.refutation.specs.declared.fault.TreeFault.{TreeFault}
use Rattle.cert_file.specs.Certificate.{Certificate}
use Rattle.cert_file.specs.declared.claim.Claim.{Claim}
use Rattle.cert_file.specs.declared.claim.Claim.TheVariants as claim
use Rattle.split_search.specs.declared.verdict.Verdict.{Verdict}
use Rattle.split_search.specs.declared.verdict.Verdict.TheVariants as verdict
use Rattle.qsr_inputs.specs.declared.statuses.Place.{Place}
use Rattle.qsr_answers.specs.Failures.{other_network, scenario_refusal, tree_refusal}

-- ---- the certificate of a verdict

abbrev pub certificate_with : NamedAlgebra → Network → Claim → Option (List ℕ) → List TreeNode → Certificate
certificate_with c net claim scenario tree =
    record { nodes = net.nodes; relations = c.names; claim = claim; scenario = scenario; tree = tree }

abbrev pub certificate_of : NamedAlgebra → Network → Verdict → Certificate
certificate_of c net (verdict.Yes relations nodes) = certificate_with c net claim.Yes (Some relations) nodes
certificate_of c net (verdict.No nodes) = certificate_with c net claim.No None nodes
certificate_of c net (verdict.Budget nodes) = certificate_with c net claim.Budget None nodes

-- ---- what a certificate shows

-- it is of a network of so many nodes over these base relations
pub record IsOfNetwork (c : NamedAlgebra) (net : Network) (certificate : Certificate) : Type 0 where
  pub nodes : certificate.nodes ≡ net.nodes
  pub relations : certificate.relations ≡ c.names

-- a yes is shown by a scenario; any other claim asks for a tree that refutes
abbrev pub ShowsClaim : NamedAlgebra → Network → Certificate → Claim → Type 0
ShowsClaim c net certificate claim.Yes = IsSomeAnd certificate.scenario (IsScenario c.algebra net.nodes net.words)
ShowsClaim c net certificate claim.No = IsRefutation c.algebra net.nodes net.words certificate.tree
ShowsClaim c net certificate claim.Budget = IsRefutation c.algebra net.nodes net.words certificate.tree

-- the certificate is accepted
pub record IsAccepted (c : NamedAlgebra) (net : Network) (certificate : Certificate) : Type 0 where
  pub of_network : IsOfNetwork c net certificate
  pub shows : ShowsClaim c net certificate certificate.claim

-- what a certificate that is accepted says of every scenario, by its claim: where it shows a refutation, there is none
abbrev pub RulesOutScenarios : NamedAlgebra → Network → Claim → Type 0
RulesOutScenarios c net claim.Yes = ⊤
RulesOutScenarios c net claim.No = (relations : List ℕ) → ¬ IsScenario c.algebra net.nodes net.words relations
RulesOutScenarios c net claim.Budget = (relations : List ℕ) → ¬ IsScenario c.algebra net.nodes net.words relations

-- a list of base relations is no scenario, with this number and place
pub record FailsScenario (c : NamedAlgebra) (net : Network) (number : ℕ) (place : Place) (scenario : List ℕ) : Type 0 where
  pub fault : At
  pub fails : scenario_faults.IsFaultOf c.algebra net.nodes net.words scenario fault
  pub numbered : scenario_refusal fault ≡ (number, place)

-- a tree doesn't refute, with this number and place
pub record FailsTree (c : NamedAlgebra) (net : Network) (number : ℕ) (place : Place) (tree : List TreeNode) : Type 0 where
  pub fault : TreeFault
  pub fails : tree_faults.IsFaultOf c.algebra net.nodes net.words tree fault
  pub numbered : tree_refusal fault ≡ Some (number, place)

abbrev pub FailsClaim : NamedAlgebra → Network → ℕ → Place → Certificate → Claim → Type 0
FailsClaim c net number place certificate claim.Yes = IsSomeAnd certificate.scenario (FailsScenario c net number place)
FailsClaim c net number place certificate claim.No = FailsTree c net number place certificate.tree
FailsClaim c net number place certificate claim.Budget = FailsTree c net number place certificate.tree

-- the certificate isn't accepted, with this number and place: it is of another network, or else doesn't show what it claims
abbrev pub IsNotAccepted : NamedAlgebra → Network → Certificate → ℕ → Place → Type 0
IsNotAccepted c net certificate number place =
    ((¬ IsOfNetwork c net certificate) × (other_network ≡ (number, place)))
    ⊎ (IsOfNetwork c net certificate × FailsClaim c net number place certificate certificate.claim)

-- ---- traced certificates

-- the same certificate with the traced tree
pub record HasTracedTree (c : NamedAlgebra) (net : Network) (certificate traced : Certificate) : Type 0 where
  pub tree : List TreeNode
  pub is_traced : IsTracedOf c.algebra net.nodes net.words certificate.tree tree
  pub same : traced ≡ record certificate { tree = tree }

-- the traced form of a certificate: a yes stays as it is
abbrev pub IsTracedForm : NamedAlgebra → Network → Certificate → Certificate → Claim → Type 0
IsTracedForm c net certificate traced claim.Yes = traced ≡ certificate
IsTracedForm c net certificate traced claim.No = HasTracedTree c net certificate traced
IsTracedForm c net certificate traced claim.Budget = HasTracedTree c net certificate traced
