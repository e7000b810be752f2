-- What the verdict on a network's closure says of the network.
use Rattle.std.proofs.Common.{◌≡◌, ℕ, Bool, true, false, List, ◌++◌, Result, Ok, Err, codes, refl, ap, ◌∙◌, subst, sym}
use Rattle.std.specs.Prelude.{IfOk}
use Rattle.calculus_table.specs.Algebra.{Algebra}
use Rattle.calculus_table.specs.Calculus.{NamedAlgebra, IsCalculus}
use Rattle.network_words.specs.Network.{Network, IsNetwork}
use Rattle.network_words.specs.Closure.{IsClosure}
use Rattle.network_words.proofs.Networks.{Refines-refl, IsClosure-unique, IsClosure-between}
use Rattle.network_words.specs.Scenario.{as_network}
use Rattle.network_file.specs.NetworkText.{network_text}
use Rattle.cert_file.specs.Written.{certificate_text}
use Rattle.split_trees.specs.Tree.{TreeNode, NestedTree}
use Rattle.refutation.proofs.NoScenarios.{refuted-none}
use Rattle.split_search.specs.Ruled.{HasTree, IsVerdict}
use Rattle.split_search.specs.Verdicts.{IsTrueOf}
use Rattle.split_search.specs.declared.verdict.Verdict.{Verdict}
use Rattle.split_search.specs.declared.verdict.Verdict.TheVariants.{Yes, No, Budget}
use Rattle.split_search.proofs.Truths.{verdict-true}
use Rattle.split_search.proofs.Networks.{closure-network}
use Rattle.qsr_inputs.specs.Inputs.{Guided, CanGuide}
use Rattle.qsr_answers.specs.Texts.{verdict_line}
use Rattle.qsr_answers.specs.Certificates.{certificate_of}
use Rattle.qsr_answers.specs.Verdicts.{HasScenario, RulesOut, verdict_text, answer_text}
use Rattle.qsr_answers.specs.Intervals.{IsIntervalsText}
use Rattle.qsr_answers.specs.Commands.{IsVerdictOn}

module _ (m : Algebra) (n : ℕ) (words closed : List ℕ) (closure : IsClosure m n words closed) where
  tree_of_closure : (nodes : List TreeNode) (P : List ℕ → NestedTree → Type 0) → HasTree m n closed nodes P → HasTree m n words nodes P
  tree_of_closure nodes P h =
      let own : IsClosure m n closed closed = IsClosure-between m n words closed closed closure closure.length_is (Refines-refl closed) closure.within in
      let same : h.closure ≡ closed = IsClosure-unique m n closed h.closure closed h.is_closure own in
      record {
        closure = h.closure;
        is_closure = subst (IsClosure m n words) (sym same) closure;
        tree = h.tree;
        nodes_are = h.nodes_are;
        has = h.has;
      }

  -- the verdict on the closure is that on the network
  pub verdict_of_closure : (class : List ℕ) (budget : ℕ) (v : Verdict) → IsVerdict m n class budget closed v → IsVerdict m n class budget words v
  verdict_of_closure class budget (Yes relations nodes) h = tree_of_closure nodes _ h
  verdict_of_closure class budget (No nodes) h = tree_of_closure nodes _ h
  verdict_of_closure class budget (Budget nodes) h = tree_of_closure nodes _ h

-- a verdict that is ruled is true
pub verdict_true : (g : Guided) (net : Network) (budget : ℕ) (v : Verdict) → IsCalculus g.calculus.algebra → IsNetwork g.calculus.algebra net.nodes net.words →
    CanGuide g → IsVerdict g.calculus.algebra net.nodes g.class budget net.words v → IsTrueOf g.calculus.algebra net.nodes net.words budget v
verdict_true g net budget v lawful network guides h = verdict-true g.calculus.algebra net.nodes g.class budget net.words lawful network guides.bases v h

-- and a no rules every scenario out
pub no_rules_out : (c : NamedAlgebra) (net : Network) (budget : ℕ) (v : Verdict) → IsCalculus c.algebra → IsNetwork c.algebra net.nodes net.words →
    IsTrueOf c.algebra net.nodes net.words budget v → RulesOut c net v
no_rules_out c net budget (Yes relations nodes) lawful network h = tt
no_rules_out c net budget (No nodes) lawful network h = λ relations. refuted-none c.algebra net.nodes net.words nodes relations lawful network h
no_rules_out c net budget (Budget nodes) lawful network h = tt

pub scenario_of : (c : NamedAlgebra) (net : Network) (budget : ℕ) (v : Verdict) → IsTrueOf c.algebra net.nodes net.words budget v → HasScenario c net v
scenario_of c net budget (Yes relations nodes) h = h
scenario_of c net budget (No nodes) h = tt
scenario_of c net budget (Budget nodes) h = tt

-- ---- a network that was closed first

module _ (g : Guided) (net closed : Network) (lawful : IsCalculus g.calculus.algebra) (network : IsNetwork g.calculus.algebra net.nodes net.words) (guides : CanGuide g)
    (rest : closed ≡ record net { words = closed.words }) (closure : IsClosure g.calculus.algebra net.nodes net.words closed.words) where
  same_nodes : closed.nodes ≡ net.nodes
  same_nodes = ap (λ n. n.nodes) rest

  pub closed_network : IsNetwork g.calculus.algebra closed.nodes closed.words
  closed_network = subst (λ n. IsNetwork g.calculus.algebra n closed.words) (sym same_nodes) (closure-network g.calculus.algebra net.nodes net.words closed.words network closure)

  -- the verdict on the closed network is one on the network
  verdict_on : (budget : ℕ) (v : Verdict) →
      IsVerdict g.calculus.algebra closed.nodes g.class budget closed.words v →
      IsVerdictOn g.calculus g.class budget net v
  verdict_on budget v h =
      let own = subst (λ n. IsVerdict g.calculus.algebra n g.class budget closed.words v) same_nodes h in
      let ruled = verdict_of_closure g.calculus.algebra net.nodes net.words closed.words closure g.class budget v own in
      let is_true = verdict_true g net budget v lawful network guides ruled in
      record {
        ruled = ruled;
        is_true = is_true;
        rules_out = no_rules_out g.calculus net budget v lawful network is_true;
      }

  pub verdicts_on : {E : Type 0} (budget : ℕ) (result : Result Verdict E) →
      IfOk result (IsVerdict g.calculus.algebra closed.nodes g.class budget closed.words) →
      IfOk result (IsVerdictOn g.calculus g.class budget net)
  verdicts_on budget (Ok v) h = verdict_on budget v h
  verdicts_on budget (Err e) h = tt

-- ---- the text of a verdict, which tells nothing of the sets of the network

module _ (c : NamedAlgebra) (net closed : Network) (rest : closed ≡ record net { words = closed.words }) where
  same_text : (v : Verdict) → verdict_text c closed v ≡ verdict_text c net v
  same_text (Yes relations nodes) =
      let text_of : Network → List ℕ = λ n. verdict_line (codes "yes") nodes ++ network_text c (record n { words = as_network relations }) in
      ap text_of rest
  same_text (No nodes) = refl
  same_text (Budget nodes) = refl

  same_certificate : (v : Verdict) → certificate_text (certificate_of c closed v) ≡ certificate_text (certificate_of c net v)
  same_certificate v = ap (λ n. certificate_text (certificate_of c n v)) rest ∙ of_nodes v
    where
      -- only the number of nodes is in the certificate
      of_nodes : (w : Verdict) → certificate_text (certificate_of c (record net { words = closed.words }) w) ≡ certificate_text (certificate_of c net w)
      of_nodes (Yes relations nodes) = refl
      of_nodes (No nodes) = refl
      of_nodes (Budget nodes) = refl

  pub same_answer : (is_cert : Bool) (v : Verdict) → answer_text is_cert c closed v ≡ answer_text is_cert c net v
  same_answer true v = same_certificate v
  same_answer false v = same_text v

pub same_intervals : (net closed : Network) (v : Verdict) (text : List ℕ) →
    closed ≡ record net { words = closed.words } → IsIntervalsText closed v text → IsIntervalsText net v text
same_intervals net closed v text rest h = of_names v (subst (λ n. IsIntervalsText n v text) rest h)
  where
    -- only the number and the names of the nodes are in the text
    of_names : (w : Verdict) → IsIntervalsText (record net { words = closed.words }) w text → IsIntervalsText net w text
    of_names (Yes relations nodes) h = h
    of_names (No nodes) h = h
    of_names (Budget nodes) h = h
