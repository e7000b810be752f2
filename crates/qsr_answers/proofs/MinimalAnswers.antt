-- Labelling a network makes one text and one status, of which the laws of labels hold.
use Rattle.std.proofs.Common.{◌≡◌, ℕ, ◌+◌, ◌<◌, ◌↔◌, List, ◌++◌, Result, Ok, Err, refl, sym, ap, ◌∙◌, subst, arith, ◌⊎◌, inl, inr}
use Rattle.std.specs.Prelude.{Contains}
use Rattle.std.proofs.lemmas.Bool.{cases_lt}
use Rattle.calculus_table.specs.Calculus.{NamedAlgebra, IsCalculus}
use Rattle.network_words.specs.Network.{Network, IsNetwork}
use Rattle.network_words.specs.Closure.{IsClosure}
use Rattle.network_words.proofs.Existence.{closure_of}
use Rattle.network_words.proofs.Networks.{IsClosure-unique}
use Rattle.network_file.specs.NetworkText.{network_text}
use Rattle.minimal_net.specs.declared.edge_labels.EdgeLabels.{EdgeLabels}
use Rattle.minimal_net.specs.declared.outcome.Outcome.TheVariants.{Open}
use Rattle.minimal_net.specs.NetworkLabels.{AreLabels, count_of, left_of}
use Rattle.minimal_net.proofs.Labelled.{labelled_keeps}
use Rattle.minimal_net.proofs.NetworkLabels.{labels_one, labels_exist, labels_of_closure, labels_leave, labels_minimal}
use Rattle.qsr_words.specs.Asked.{MinimalAsked}
use Rattle.qsr_inputs.specs.Inputs.{Guided, CanGuide}
use Rattle.qsr_inputs.specs.declared.statuses.Status.{Status}
use Rattle.qsr_inputs.specs.declared.statuses.Status.TheVariants.{Done, No, Budget}
use Rattle.qsr_inputs.proofs.InputsThere.{IsOver, IsGuide}
use Rattle.qsr_answers.specs.Texts.{labels_line}
use Rattle.qsr_answers.specs.Commands.{IsStatusOfLabels, LabelsNetwork, IsAnswered}
use Rattle.qsr_answers.proofs.CertificatesOnce.{IsSame}
use Rattle.qsr_answers.proofs.SomeAnswers.{zero_or_not}
use Rattle.qsr_answers.proofs.SomeCertificates.{Made}

-- ---- one status

status_one : (labels : List EdgeLabels) (s r : Status) → IsStatusOfLabels labels s → IsStatusOfLabels labels r → s ≡ r
status_one labels Done Done h k = refl
status_one labels No No h k = refl
status_one labels Budget Budget h k = refl
status_one labels Done No h k = absurd (h.0 k)
status_one labels No Done h k = absurd (k.0 h)
status_one labels Budget No h k = absurd (h.0 k)
status_one labels No Budget h k = absurd (k.0 h)
status_one labels Done Budget h k = absurd (omega (arith, h.1, k.1))
status_one labels Budget Done h k = absurd (omega (arith, h.1, k.1))
status_one labels Done _ h k = absurd k
status_one labels No _ h k = absurd k
status_one labels Budget _ h k = absurd k
status_one labels _ r h k = absurd h

pub labels_once : (asked : MinimalAsked) (c : NamedAlgebra) (class : List ℕ) (net : Network) (t u : List ℕ) (s r : Status) →
    LabelsNetwork asked c class net t s → LabelsNetwork asked c class net u r → IsSame t u s r
labels_once asked c class net t u s r h k =
    let closures : h.closure ≡ k.closure =
    IsClosure-unique c.algebra net.nodes net.words h.closure k.closure h.is_closure k.is_closure in
    let own : AreLabels c.algebra net.nodes class asked.budget net.words k.closure h.labels =
    subst (λ xs. AreLabels c.algebra net.nodes class asked.budget net.words xs h.labels) closures h.are_labels in
    let same : h.labels ≡ k.labels =
    labels_one c.algebra net.nodes class asked.budget net.words k.closure h.labels k.labels own k.are_labels in
    record {
      text = h.text_is
          ∙ ap (λ ls. labels_line ls ++ network_text c (record net { words = left_of ls })) same ∙ sym k.text_is;
      status = status_one k.labels s r (subst (λ ls. IsStatusOfLabels ls s) same h.status_is) k.status_is;
    }

-- ---- what labels make

module _ (asked : MinimalAsked) (g : Guided) (net : Network) (lawful : IsCalculus g.calculus.algebra)
    (network : IsNetwork g.calculus.algebra net.nodes net.words) (guides : CanGuide g) where
  pub labels_network : (closure : List ℕ) (labels : List EdgeLabels) (text : List ℕ) (status : Status) →
      IsClosure g.calculus.algebra net.nodes net.words closure →
      AreLabels g.calculus.algebra net.nodes g.class asked.budget net.words closure labels →
      text ≡ labels_line labels ++ network_text g.calculus (record net { words = left_of labels }) →
      IsStatusOfLabels labels status → LabelsNetwork asked g.calculus g.class net text status
  labels_network closure labels text status is own text_is status_is =
      let m = g.calculus.algebra in
      let left = labels_leave m net.nodes g.class asked.budget net.words closure labels lawful network guides.is_class
      guides.bases is own in
      record {
        closure = closure;
        is_closure = is;
        labels = labels;
        are_labels = own;
        text_is = text_is;
        status_is = status_is;
        keeps = λ relations. labelled_keeps m net.nodes g.class asked.budget net.words (left_of labels) relations lawful
            network guides.bases left;
        is_minimal = labels_minimal m net.nodes g.class asked.budget net.words closure labels lawful network
            guides.is_class guides.bases is own;
      }

-- ---- some status

some_status : (labels : List EdgeLabels) → (status : Status) × IsStatusOfLabels labels status × IsAnswered status
some_status labels = elim (zero_or_not (left_of labels)) [
  | inl empty ↦ (No, empty, tt)
  | inr full ↦ elim (cases_lt 0 (count_of Open labels)) [
    | inl some ↦ (Budget, (full, some), tt)
    | inr none ↦ (Done, (full, omega (arith, none)), tt)
  ]
]

pub labels_there : (asked : MinimalAsked) (g : Guided) (net : Network) → IsGuide g → IsOver g.calculus net →
    Made (LabelsNetwork asked g.calculus g.class net)
labels_there asked g net guide over =
    let m = g.calculus.algebra in
    let lawful = guide.lawful.lawful in
    let closure = closure_of m net.nodes net.words lawful over.network in
    let labels = labels_exist m net.nodes g.class asked.budget net.words closure.0 lawful over.network
    guide.guides.is_class guide.guides.bases closure.1 in
    let status = some_status labels.0 in
    record {
      text = labels_line labels.0 ++ network_text g.calculus (record net { words = left_of labels.0 });
      status = status.0;
      answered = status.2;
      work = labels_network asked g net lawful over.network guide.guides closure.0 labels.0
          (labels_line labels.0 ++ network_text g.calculus (record net { words = left_of labels.0 })) status.0 closure.1
          labels.1 refl status.1;
    }

-- ---- a network that was closed first

module _ (asked : MinimalAsked) (g : Guided) (net closed left : Network) (lawful : IsCalculus g.calculus.algebra)
    (network : IsNetwork g.calculus.algebra net.nodes net.words) (guides : CanGuide g)
    (rest : closed ≡ record net { words = closed.words })
    (closure : IsClosure g.calculus.algebra net.nodes net.words closed.words) where
  pub closed_labels : (labels : List EdgeLabels) (text : List ℕ) (status : Status) →
      AreLabels g.calculus.algebra closed.nodes g.class asked.budget closed.words closed.words labels →
      left ≡ record closed { words = left_of labels } → text ≡ labels_line labels ++ network_text g.calculus left →
      IsStatusOfLabels labels status → LabelsNetwork asked g.calculus g.class net text status
  closed_labels labels text status own left_is text_is status_is =
      let m = g.calculus.algebra in
      let nodes : closed.nodes ≡ net.nodes = ap (λ (x : Network). x.nodes) rest in
      let there : AreLabels m net.nodes g.class asked.budget closed.words closed.words labels =
      subst (λ n. AreLabels m n g.class asked.budget closed.words closed.words labels) nodes own in
      let whole : left ≡ record net { words = left_of labels } =
      left_is ∙ ap (λ (x : Network). record x { words = left_of labels }) rest in
      labels_network asked g net lawful network guides closed.words labels text status closure
      (labels_of_closure m net.nodes g.class asked.budget net.words closed.words labels lawful network closure there)
      (text_is ∙ ap (λ x. labels_line labels ++ network_text g.calculus x) whole) status_is
