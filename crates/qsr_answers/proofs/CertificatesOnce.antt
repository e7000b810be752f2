-- A certificate is accepted or not, and not for two causes; its check and its trace have one text and one status.
use Rattle.std.proofs.Common.{◌≡◌, ◌≢◌, ℕ, List, Option, None, Some, inl, inr, refl, sym, ◌∙◌, ap}
use Rattle.std.specs.Prelude.{IsSomeAnd}
use Rattle.calculus_table.specs.Calculus.{NamedAlgebra}
use Rattle.network_words.specs.Network.{Network}
use Rattle.network_words.specs.Scenario.{IsScenario}
use Rattle.scenario.proofs.Faults as scenario_faults
use Rattle.refutation.specs.declared.fault.TreeFault.{TreeFault}
use Rattle.refutation.specs.declared.fault.TreeFault.TheVariants as tree
use Rattle.split_trees.specs.Refutes.{IsRefutation}
use Rattle.refutation.proofs.Exact as tree_faults
use Rattle.cert_file.specs.Certificate.{Certificate}
use Rattle.cert_file.specs.Written.{certificate_text}
use Rattle.cert_file.specs.declared.claim.Claim.{Claim}
use Rattle.cert_file.specs.declared.claim.Claim.TheVariants as claim
use Rattle.qsr_inputs.specs.declared.statuses.Place.{Place}
use Rattle.qsr_inputs.specs.declared.statuses.Status.{Status}
use Rattle.qsr_inputs.specs.declared.statuses.Status.TheVariants.{Done, NotAccepted}
use Rattle.qsr_inputs.proofs.InputsOnce.{none_or_some, some_pair}
use Rattle.qsr_answers.specs.Failures.{other_network, scenario_refusal, tree_refusal}
use Rattle.qsr_answers.specs.Texts.{not_accepted_text}
use Rattle.qsr_answers.specs.Certificates.{ShowsClaim, IsAccepted, FailsScenario, FailsTree, FailsClaim, IsNotAccepted, HasTracedTree, IsTracedForm}
use Rattle.qsr_answers.specs.Commands.{JudgesCertificate, ChecksNetwork, IsTracedText, TracesCertificate, TracesNetwork}
use Rattle.qsr_answers.proofs.TracedOnce.{traced_once}

-- the same text and the same status
pub record IsSame (t u : List ℕ) (s r : Status) : Type 0 where
  pub text : t ≡ u
  pub status : s ≡ r

-- the same number and the same place
record IsOneCause (m n : ℕ) (p q : Place) : Type 0 where
  number : m ≡ n
  place : p ≡ q

pair_once : (x : ℕ × Place) (m n : ℕ) (p q : Place) → x ≡ (m, p) → x ≡ (n, q) → IsOneCause m n p q
pair_once x m n p q a b = let same = some_pair (Some x) m n p q (ap Some a) (ap Some b) in record { number = same.0; place = same.1 }

module _ (c : NamedAlgebra) (net : Network) where
  abbrev Shows : List ℕ → Type 0
  Shows scenario = IsScenario c.algebra net.nodes net.words scenario

  -- ---- scenarios

  scenario_or_fails : (o : Option (List ℕ)) (m : ℕ) (p : Place) → IsSomeAnd o Shows → IsSomeAnd o (FailsScenario c net m p) → ⊥
  scenario_or_fails None m p h k = absurd h
  scenario_or_fails (Some s) m p h k = scenario_faults.no-fault c.algebra net.nodes net.words s k.fault h k.fails

  scenario_fails_once : (o : Option (List ℕ)) (m n : ℕ) (p q : Place) → IsSomeAnd o (FailsScenario c net m p) → IsSomeAnd o (FailsScenario c net n q) → IsOneCause m n p q
  scenario_fails_once None m n p q h k = absurd h
  scenario_fails_once (Some s) m n p q h k =
      let same = scenario_faults.fault-one c.algebra net.nodes net.words s h.fault k.fault h.fails k.fails in
      pair_once (scenario_refusal k.fault) m n p q (sym (ap scenario_refusal same) ∙ h.numbered) k.numbered

  -- ---- trees

  tree_numbered : (f : TreeFault) (m : ℕ) (p : Place) → tree_refusal f ≡ Some (m, p) → f ≢ tree.Memory
  tree_numbered f m p a e = none_or_some m p (tree_refusal f) (ap tree_refusal e) a

  module _ (certificate : Certificate) where
    tree_or_fails : (m : ℕ) (p : Place) → IsRefutation c.algebra net.nodes net.words certificate.tree → FailsTree c net m p certificate.tree → ⊥
    tree_or_fails m p h k = tree_faults.refutation-no_fault c.algebra net.nodes net.words certificate.tree k.fault h (tree_numbered k.fault m p k.numbered) k.fails

    tree_fails_once : (m n : ℕ) (p q : Place) → FailsTree c net m p certificate.tree → FailsTree c net n q certificate.tree → IsOneCause m n p q
    tree_fails_once m n p q h k =
        let same = tree_faults.fault-one c.algebra net.nodes net.words certificate.tree h.fault k.fault (tree_numbered h.fault m p h.numbered) (tree_numbered k.fault n q k.numbered) h.fails k.fails in
        let pair = some_pair (tree_refusal k.fault) m n p q (sym (ap tree_refusal same) ∙ h.numbered) k.numbered in
        record { number = pair.0; place = pair.1 }

    -- ---- what is claimed

    shown_or_fails : (x : Claim) (m : ℕ) (p : Place) → ShowsClaim c net certificate x → FailsClaim c net m p certificate x → ⊥
    shown_or_fails claim.Yes m p h k = scenario_or_fails certificate.scenario m p h k
    shown_or_fails claim.No m p h k = tree_or_fails m p h k
    shown_or_fails claim.Budget m p h k = tree_or_fails m p h k

    fails_once : (x : Claim) (m n : ℕ) (p q : Place) → FailsClaim c net m p certificate x → FailsClaim c net n q certificate x → IsOneCause m n p q
    fails_once claim.Yes m n p q h k = scenario_fails_once certificate.scenario m n p q h k
    fails_once claim.No m n p q h k = tree_fails_once m n p q h k
    fails_once claim.Budget m n p q h k = tree_fails_once m n p q h k

    accepted_or_not : (m : ℕ) (p : Place) → IsAccepted c net certificate → IsNotAccepted c net certificate m p → ⊥
    accepted_or_not m p h k = elim k [ inl other ↦ other.0 h.of_network | inr fails ↦ shown_or_fails certificate.claim m p h.shows fails.1 ]

    not_accepted_once : (m n : ℕ) (p q : Place) → IsNotAccepted c net certificate m p → IsNotAccepted c net certificate n q → IsOneCause m n p q
    not_accepted_once m n p q h k = elim h [
      | inl x ↦ elim k [ inl y ↦ pair_once other_network m n p q x.1 y.1 | inr y ↦ absurd (x.0 y.0) ]
      | inr x ↦ elim k [ inl y ↦ absurd (y.0 x.0) | inr y ↦ fails_once certificate.claim m n p q x.1 y.1 ]
    ]

    -- ---- check and trace

    same_cause : (m n : ℕ) (p q : Place) (t u : List ℕ) → IsOneCause m n p q → t ≡ not_accepted_text m p → u ≡ not_accepted_text n q → IsSame t u (NotAccepted m p) (NotAccepted n q)
    same_cause m n p q t u same a b = record {
      text = a ∙ ap (λ k. not_accepted_text k p) same.number ∙ ap (not_accepted_text n) same.place ∙ sym b;
      status = ap (λ k. NotAccepted k p) same.number ∙ ap (NotAccepted n) same.place;
    }

    judging_once : (t u : List ℕ) (s r : Status) → JudgesCertificate c certificate net t s → JudgesCertificate c certificate net u r → IsSame t u s r
    judging_once t u Done Done h k = record { text = h.1 ∙ sym k.1; status = refl }
    judging_once t u Done (NotAccepted n q) h k = absurd (accepted_or_not n q h.0 k.0)
    judging_once t u (NotAccepted m p) Done h k = absurd (accepted_or_not m p k.0 h.0)
    judging_once t u (NotAccepted m p) (NotAccepted n q) h k = same_cause m n p q t u (not_accepted_once m n p q h.0 k.0) h.1 k.1
    judging_once t u Done _ h k = absurd k
    judging_once t u (NotAccepted m p) _ h k = absurd k
    judging_once t u _ r h k = absurd h

    pub checks_once : (t u : List ℕ) (s r : Status) → ChecksNetwork c certificate net t s → ChecksNetwork c certificate net u r → IsSame t u s r
    checks_once t u s r h k = judging_once t u s r h.judges k.judges

    same_trees : (x y : Certificate) → HasTracedTree c net certificate x → HasTracedTree c net certificate y → x ≡ y
    same_trees x y h k =
        h.same ∙ ap (λ nodes. record certificate { tree = nodes }) (traced_once c.algebra net.nodes net.words certificate.tree h.tree k.tree h.is_traced k.is_traced) ∙ sym k.same

    forms_once : (z : Claim) (x y : Certificate) → IsTracedForm c net certificate x z → IsTracedForm c net certificate y z → x ≡ y
    forms_once claim.Yes x y h k = h ∙ sym k
    forms_once claim.No x y h k = same_trees x y h k
    forms_once claim.Budget x y h k = same_trees x y h k

    traced_texts : (t u : List ℕ) → IsTracedText c certificate net t → IsTracedText c certificate net u → t ≡ u
    traced_texts t u h k = h.text_is ∙ ap certificate_text (forms_once certificate.claim h.traced k.traced h.is_traced k.is_traced) ∙ sym k.text_is

    tracing_once : (t u : List ℕ) (s r : Status) → TracesCertificate c certificate net t s → TracesCertificate c certificate net u r → IsSame t u s r
    tracing_once t u Done Done h k = record { text = traced_texts t u h k; status = refl }
    tracing_once t u Done (NotAccepted n q) h k = absurd (accepted_or_not n q h.accepted k.0)
    tracing_once t u (NotAccepted m p) Done h k = absurd (accepted_or_not m p k.accepted h.0)
    tracing_once t u (NotAccepted m p) (NotAccepted n q) h k = same_cause m n p q t u (not_accepted_once m n p q h.0 k.0) h.1 k.1
    tracing_once t u Done _ h k = absurd k
    tracing_once t u (NotAccepted m p) _ h k = absurd k
    tracing_once t u _ r h k = absurd h

    pub traces_once : (t u : List ℕ) (s r : Status) → TracesNetwork c certificate net t s → TracesNetwork c certificate net u r → IsSame t u s r
    traces_once t u s r h k = tracing_once t u s r h.traces k.traces
