-- What the verdict on the closure of a demonstration's network says of the network.
use Rattle.std.proofs.Common.{◌≡◌, ℕ, List, ◌++◌, codes, decimal, sym, ap, subst, ◌∙◌, append_assoc}
use Rattle.calculus_table.specs.Algebra.{Algebra}
use Rattle.calculus_table.specs.Calculus.{EachBase}
use Rattle.calculus_builtin.specs.Rcc8.{rcc8_algebra}
use Rattle.calculus_builtin.proofs.Rcc8Laws.{rcc8_lawful}
use Rattle.network_words.specs.Network.{Network, IsNetwork}
use Rattle.network_words.specs.Closure.{IsClosure}
use Rattle.network_words.proofs.Networks.{Refines-refl, IsClosure-unique, IsClosure-between}
use Rattle.tract_classes.specs.Class.{HasBase}
use Rattle.tract_classes.specs.BuiltIn.{h8}
use Rattle.tract_classes.proofs.BuiltInClasses.{have_bases}
use Rattle.split_trees.specs.Tree.{TreeNode, NestedTree}
use Rattle.split_search.specs.Ruled.{HasTree, IsVerdict}
use Rattle.split_search.specs.Verdicts.{nodes_of}
use Rattle.split_search.specs.declared.verdict.Verdict.{Verdict}
use Rattle.split_search.specs.declared.verdict.Verdict.TheVariants.{Yes, No, Budget}
use Rattle.split_search.proofs.Truths.{verdict-true}
use Rattle.split_search.proofs.Networks.{closure-network}
use Rattle.geo_facts.specs.Demo.{IsDemo}
use Rattle.geo_facts.proofs.OneDemo.{demo-network}
use Rattle.qsr_words.specs.Asked.{DemoAsked}
use Rattle.qsr_words.specs.declared.TheConstants.{MAX_BUDGET}
use Rattle.qsr_inputs.specs.declared.statuses.Status.{Status}
use Rattle.qsr_answers.specs.Texts.{verdict_line}
use Rattle.qsr_answers.specs.Verdicts.{verdict_word, verdict_status}
use Rattle.qsr_answers.specs.Demonstrations.{Demonstrates, demo_head, members_in_all}

-- ---- the tree of the closure is that of the network

module _ (m : Algebra) (n : ℕ) (words closed : List ℕ) (closure : IsClosure m n words closed) where
  tree_of_closed : (nodes : List TreeNode) (P : List ℕ → NestedTree → Type 0) → HasTree m n closed nodes P → HasTree m n words nodes P
  tree_of_closed nodes P h =
      let own : IsClosure m n closed closed = IsClosure-between m n words closed closed closure closure.length_is (Refines-refl closed) closure.within in
      let same : h.closure ≡ closed = IsClosure-unique m n closed h.closure closed h.is_closure own in
      record {
        closure = h.closure;
        is_closure = subst (IsClosure m n words) (sym same) closure;
        tree = h.tree;
        nodes_are = h.nodes_are;
        has = h.has;
      }

  verdict_of_closed : (class : List ℕ) (budget : ℕ) (v : Verdict) → IsVerdict m n class budget closed v → IsVerdict m n class budget words v
  verdict_of_closed class budget (Yes relations nodes) h = tree_of_closed nodes _ h
  verdict_of_closed class budget (No nodes) h = tree_of_closed nodes _ h
  verdict_of_closed class budget (Budget nodes) h = tree_of_closed nodes _ h

-- ---- the network of a seed

-- each base relation of RCC-8 is a member of h8 by itself
pub h8_guides : EachBase rcc8_algebra (HasBase h8)
h8_guides = have_bases.h8_bases

module _ (seed nodes : ℕ) (net : Network) (kept : ℕ) (demo : IsDemo seed nodes net kept) where
  pub seed-network : IsNetwork rcc8_algebra net.nodes net.words
  seed-network = subst (λ n. IsNetwork rcc8_algebra n net.words) (sym demo.nodes) (demo-network seed nodes net kept demo)

  module _ (closed : Network) (rest : closed ≡ record net { words = closed.words }) (closure : IsClosure rcc8_algebra net.nodes net.words closed.words) where
    same_nodes : closed.nodes ≡ net.nodes
    same_nodes = ap (λ n. n.nodes) rest

    pub closed_seed-network : IsNetwork rcc8_algebra closed.nodes closed.words
    closed_seed-network =
        subst (λ n. IsNetwork rcc8_algebra n closed.words) (sym same_nodes) (closure-network rcc8_algebra net.nodes net.words closed.words seed-network closure)

    seed_verdict : (v : Verdict) → IsVerdict rcc8_algebra closed.nodes h8 MAX_BUDGET closed.words v → IsVerdict rcc8_algebra net.nodes h8 MAX_BUDGET net.words v
    seed_verdict v h =
        verdict_of_closed rcc8_algebra net.nodes net.words closed.words closure h8 MAX_BUDGET v
        (subst (λ n. IsVerdict rcc8_algebra n h8 MAX_BUDGET closed.words v) same_nodes h)

module _ (asked : DemoAsked) (net : Network) (kept : ℕ) (demo : IsDemo asked.seed asked.nodes net kept) (closed : Network)
    (rest : closed ≡ record net { words = closed.words }) (closure : IsClosure rcc8_algebra net.nodes net.words closed.words) where
  -- the lines of the closed network's verdict are those of a demonstration
  pub closed-demonstrates : (v : Verdict) (text : List ℕ) (status : Status) → IsVerdict rcc8_algebra closed.nodes h8 MAX_BUDGET closed.words v →
      text ≡ demo_head asked kept (members_in_all closed.words) ++ verdict_line (verdict_word v) (nodes_of v) → status ≡ verdict_status v → Demonstrates asked text status
  closed-demonstrates v text status h t s =
      let ruled = seed_verdict asked.seed asked.nodes net kept demo closed rest closure v h in
      record {
        network = net;
        kept = kept;
        is_demo = demo;
        closure = closed.words;
        is_closure = closure;
        verdict = v;
        ruled = ruled;
        is_true = verdict-true rcc8_algebra net.nodes h8 MAX_BUDGET net.words rcc8_lawful.lawful (seed-network asked.seed asked.nodes net kept demo) h8_guides v ruled;
        text_is = t;
        status_is = s;
      }

-- ---- the lines

-- the pieces of the text, as they are written one after another
abbrev pub pieces : DemoAsked → ℕ → ℕ → List ℕ → List ℕ
pieces asked kept members line =
    codes "demo " ++ (decimal asked.seed ++ (codes " " ++ (decimal asked.nodes ++ (codes "\nkept " ++ (decimal kept ++ (codes "\nbits " ++ (decimal members ++ (codes "\n" ++ line))))))))

regrouped : (a b c d line : List ℕ) →
    codes "demo " ++ (a ++ (codes " " ++ (b ++ (codes "\nkept " ++ (c ++ (codes "\nbits " ++ (d ++ (codes "\n" ++ line))))))))
    ≡ (codes "demo " ++ a ++ codes " " ++ b ++ codes "\n" ++ codes "kept " ++ c ++ codes "\n" ++ codes "bits " ++ d ++ codes "\n") ++ line
regrouped a b c d line = simp append_assoc

pub pieces_text : (asked : DemoAsked) (kept members : ℕ) (line : List ℕ) (v : Verdict) → line ≡ verdict_line (verdict_word v) (nodes_of v) →
    pieces asked kept members line ≡ demo_head asked kept members ++ verdict_line (verdict_word v) (nodes_of v)
pieces_text asked kept members line v e =
    regrouped (decimal asked.seed) (decimal asked.nodes) (decimal kept) (decimal members) line ∙ ap (λ x. demo_head asked kept members ++ x) e
