-- A certificate is accepted or not, and its check and its trace have a text and a status.
use Rattle.std.proofs.Common.{◌≡◌, ◌⊎◌, inl, inr, ℕ, Bool, true, false, List, Option, None, Some, refl, sym, ◌∙◌, subst}
use Rattle.std.specs.Bool.{Decides}
use Rattle.std.specs.Prelude.{IsSomeAnd}
use Rattle.std.specs.Cmp.Lexicographic.{pointwise}
use Rattle.std.proofs.lemmas.Bool.{cases_eq, false≢true}
use Rattle.std.proofs.lemmas.Slice.Eq.{slice_eq-Decides, bytes_eq-Decides}
use Rattle.std.specs.Str.{bytes_eq}
use Rattle.calculus_table.specs.Calculus.{NamedAlgebra, IsNamedCalculus}
use Rattle.network_words.specs.Network.{Network}
use Rattle.network_words.specs.Scenario.{IsScenario}
use Rattle.scenario.specs.Laws as scenario_laws
use Rattle.scenario.proofs.FirstFaults.{scenario_or_fault}
use Rattle.split_trees.specs.Refutes.{IsRefutation}
use Rattle.refutation.specs.Traced.{IsTracedOf}
use Rattle.split_trees.specs.Tree.{TreeNode, preorder}
use Rattle.refutation.specs.Laws as refutation_laws
use Rattle.refutation.specs.declared.fault.TreeFault.{TreeFault}
use Rattle.refutation.specs.declared.fault.TreeFault.TheVariants as tree
use Rattle.refutation.proofs.Decided.{refutation_or_fault}
use Rattle.refutation.proofs.TracedTrees.{traced_tree}
use Rattle.cert_file.specs.Certificate.{Certificate}
use Rattle.cert_file.specs.Written.{IsScenarioFor, certificate_text}
use Rattle.cert_file.specs.declared.claim.Claim.{Claim}
use Rattle.cert_file.specs.declared.claim.Claim.TheVariants as claim
use Rattle.qsr_inputs.specs.declared.statuses.Place.{Place}
use Rattle.qsr_inputs.specs.declared.statuses.Status.{Status}
use Rattle.qsr_inputs.specs.declared.statuses.Status.TheVariants.{Done, NotAccepted}
use Rattle.qsr_inputs.proofs.InputsThere.{IsOver}
use Rattle.qsr_answers.specs.Failures.{other_network, scenario_refusal, tree_refusal}
use Rattle.qsr_answers.specs.Texts.{accepted_text, not_accepted_text}
use Rattle.qsr_answers.specs.Certificates.{IsOfNetwork, ShowsClaim, IsAccepted, FailsScenario, FailsTree, FailsClaim, IsNotAccepted, HasTracedTree, IsTracedForm}
use Rattle.qsr_answers.specs.Commands.{IsAnswered, ChecksNetwork, TracesNetwork}
use Rattle.qsr_answers.proofs.RuledOut.{checks_network, traces_network}

-- a text and a status that answer, of which the fact holds
pub record Made (Work : List ℕ → Status → Type 0) : Type 0 where
  pub text : List ℕ
  pub status : Status
  pub answered : IsAnswered status
  pub work : Work text status

module _ (c : NamedAlgebra) (net : Network) (lawful : IsNamedCalculus c) (over : IsOver c net) where
  -- ---- why a certificate isn't accepted

  record Fails (P : ℕ → Place → Type 0) : Type 0 where
    number : ℕ
    place : Place
    is : P number place

  fails : (P : ℕ → Place → Type 0) (number : ℕ) (place : Place) → P number place → Fails P
  fails P number place is = record { number = number; place = place; is = is }

  scenario_fails : (s : List ℕ) → scenario_laws.Fault c.algebra net.nodes net.words s → Fails (λ number place. FailsScenario c net number place s)
  scenario_fails s f = fails _ (scenario_refusal f.fault).0 (scenario_refusal f.fault).1 (record { fault = f.fault; fails = f.is_fault; numbered = refl })

  tree_fails : (nodes : List TreeNode) (f : refutation_laws.Fault c.algebra net.nodes net.words nodes) → Fails (λ number place. FailsTree c net number place nodes)
  tree_fails nodes f = by_fault f.fault f refl
    where
      by_fault : (k : TreeFault) (f : refutation_laws.Fault c.algebra net.nodes net.words nodes) → f.fault ≡ k → Fails (λ number place. FailsTree c net number place nodes)
      by_fault tree.Memory f e = absurd (f.real e)
      by_fault (tree.Uncovered node) f e = fails _ _ _ (record { fault = f.fault; fails = f.is_fault; numbered = subst (λ k. tree_refusal k ≡ tree_refusal (tree.Uncovered node)) (sym e) refl })
      by_fault (tree.NotEmpty node) f e = fails _ _ _ (record { fault = f.fault; fails = f.is_fault; numbered = subst (λ k. tree_refusal k ≡ tree_refusal (tree.NotEmpty node)) (sym e) refl })
      by_fault (tree.BadTree node) f e = fails _ _ _ (record { fault = f.fault; fails = f.is_fault; numbered = subst (λ k. tree_refusal k ≡ tree_refusal (tree.BadTree node)) (sym e) refl })
      by_fault (tree.BadStep node step) f e = fails _ _ _ (record { fault = f.fault; fails = f.is_fault; numbered = subst (λ k. tree_refusal k ≡ tree_refusal (tree.BadStep node step)) (sym e) refl })

  -- ---- what is claimed is shown, or fails

  module _ (certificate : Certificate) where
    abbrev Shown : Claim → Type 0
    Shown x = ShowsClaim c net certificate x ⊎ Fails (λ number place. FailsClaim c net number place certificate x)

    scenario_shown : (o : Option (List ℕ)) → o ≡ certificate.scenario → IsScenarioFor claim.Yes o → Shown claim.Yes
    scenario_shown None is h = absurd h
    scenario_shown (Some s) is h = elim (scenario_or_fault c.algebra net.nodes net.words s) [
      | inl shows ↦ inl (subst (λ o. IsSomeAnd o (IsScenario c.algebra net.nodes net.words)) is shows)
      | inr f ↦ (let k = scenario_fails s f in inr (fails _ k.number k.place (subst (λ o. IsSomeAnd o (FailsScenario c net k.number k.place)) is k.is)))
    ]

    tree_shown : IsRefutation c.algebra net.nodes net.words certificate.tree ⊎ Fails (λ number place. FailsTree c net number place certificate.tree)
    tree_shown = elim (refutation_or_fault c.algebra net.nodes net.words certificate.tree lawful.lawful over.network) [
      | inl shows ↦ inl shows
      | inr f ↦ inr (tree_fails certificate.tree f)
    ]

    shown : (x : Claim) → IsScenarioFor x certificate.scenario → Shown x
    shown claim.Yes h = scenario_shown certificate.scenario refl h
    shown claim.No h = tree_shown
    shown claim.Budget h = tree_shown

    -- ---- whether it is of the network

    of_network : IsOfNetwork c net certificate ⊎ (¬ IsOfNetwork c net certificate)
    of_network = elim (cases_eq certificate.nodes net.nodes) [
      | inl nodes ↦ names (pointwise bytes_eq certificate.relations c.names) refl nodes
      | inr other ↦ inr (λ h. other h.nodes)
    ]
      where
        same : Decides (pointwise bytes_eq certificate.relations c.names) (certificate.relations ≡ c.names)
        same = slice_eq-Decides {E = bytes_eq} bytes_eq-Decides certificate.relations c.names (pointwise bytes_eq certificate.relations c.names) refl

        names : (b : Bool) → pointwise bytes_eq certificate.relations c.names ≡ b → certificate.nodes ≡ net.nodes → IsOfNetwork c net certificate ⊎ (¬ IsOfNetwork c net certificate)
        names true e nodes = inl (record { nodes = nodes; relations = same.0 e })
        names false e nodes = inr (λ h. false≢true (sym e ∙ same.1 h.relations))

    -- ---- accepted or not

    abbrev Judged : Type 0
    Judged = IsAccepted c net certificate ⊎ Fails (λ number place. IsNotAccepted c net certificate number place)

    judged : IsScenarioFor certificate.claim certificate.scenario → Judged
    judged scenario = elim of_network [
      | inl of ↦ elim (shown certificate.claim scenario) [
        | inl shows ↦ inl (record { of_network = of; shows = shows })
        | inr f ↦ inr (fails _ f.number f.place (inr (of, f.is)))
      ]
      | inr other ↦ inr (fails _ other_network.0 other_network.1 (inl (other, refl)))
    ]

    -- ---- check and trace

    pub checks_there : IsScenarioFor certificate.claim certificate.scenario → Made (ChecksNetwork c certificate net)
    checks_there scenario = elim (judged scenario) [
      | inl accepted ↦ record { text = accepted_text; status = Done; answered = tt; work = checks_network c net certificate lawful.lawful over.network accepted_text Done (accepted, refl) }
      | inr f ↦ record { text = not_accepted_text f.number f.place; status = NotAccepted f.number f.place; answered = tt; work = record { judges = (f.is, refl); says = tt } }
    ]

    record HasForm (x : Claim) : Type 0 where
      traced : Certificate
      is_traced : IsTracedForm c net certificate traced x

    with_tree : IsRefutation c.algebra net.nodes net.words certificate.tree → (traced : Certificate) × HasTracedTree c net certificate traced
    with_tree h =
        let found = traced_tree c.algebra net.nodes lawful.lawful h.tree net.words net.words h.refutes in
        let is : IsTracedOf c.algebra net.nodes net.words certificate.tree (preorder 0 found.0) =
        record { tree = h.tree; traced_tree = found.0; stands = h.stands; shape = found.1; ruled = found.2; nodes_are = refl } in
        (record certificate { tree = preorder 0 found.0 }, record { tree = preorder 0 found.0; is_traced = is; same = refl })

    traced_form : (x : Claim) → ShowsClaim c net certificate x → HasForm x
    traced_form claim.Yes h = record { traced = certificate; is_traced = refl }
    traced_form claim.No h = let found = with_tree h in record { traced = found.0; is_traced = found.1 }
    traced_form claim.Budget h = let found = with_tree h in record { traced = found.0; is_traced = found.1 }

    pub traces_there : IsScenarioFor certificate.claim certificate.scenario → Made (TracesNetwork c certificate net)
    traces_there scenario = elim (judged scenario) [
      | inl accepted ↦
          (let form = traced_form certificate.claim accepted.shows in
          record {
            text = certificate_text form.traced;
            status = Done;
            answered = tt;
            work = traces_network c net certificate lawful.lawful over.network (certificate_text form.traced) Done
                (record { accepted = accepted; traced = form.traced; is_traced = form.is_traced; text_is = refl });
          })
      | inr f ↦ record { text = not_accepted_text f.number f.place; status = NotAccepted f.number f.place; answered = tt; work = record { traces = (f.is, refl); says = tt } }
    ]
