-- What each command makes of its input: the text and the status of its answer.
use Rattle.std.specs.Prelude.{◌≡◌, ⊤, ◌<◌, ◌↔◌, ◌++◌, ℕ, List, Contains}
use Rattle.calculus_table.specs.Calculus.{NamedAlgebra}
use Rattle.calculus_builtin.specs.Allen.{allen_calculus}
use Rattle.network_words.specs.Network.{Network}
use Rattle.network_words.specs.Closure.{IsClosure}
use Rattle.network_words.specs.Scenario.{IsScenario}
use Rattle.network_file.specs.NetworkText.{network_text}
use Rattle.cert_file.specs.Certificate.{Certificate}
use Rattle.cert_file.specs.Written.{certificate_text}
use Rattle.split_search.specs.Ruled.{IsVerdict}
use Rattle.split_search.specs.Verdicts.{IsTrueOf}
use Rattle.split_search.specs.declared.verdict.Verdict.{Verdict}
use Rattle.minimal_net.specs.declared.edge_labels.EdgeLabels.{EdgeLabels}
use Rattle.minimal_net.specs.declared.outcome.Outcome.TheVariants.{Open}
use Rattle.minimal_net.specs.Minimal.{IsMinimal}
use Rattle.minimal_net.specs.NetworkLabels.{AreLabels, count_of, left_of}
use Rattle.qsr_words.specs.Asked.{SolveAsked, IntervalsAsked, MinimalAsked}
use Rattle.qsr_inputs.specs.Inputs.{Related}
use Rattle.qsr_inputs.specs.declared.statuses.Status.{Status}
use Rattle.qsr_inputs.specs.declared.statuses.Status.TheVariants.{Done, No, Budget, NotAccepted}
use Rattle.qsr_answers.specs.Texts.{accepted_text, not_accepted_text, labels_line}
use Rattle.qsr_answers.specs.Verdicts.{answer_text, verdict_status, RulesOut}
use Rattle.qsr_answers.specs.Certificates.{IsAccepted, IsNotAccepted, IsTracedForm, RulesOutScenarios}
use Rattle.qsr_answers.specs.Relations.{IsTextOfPolygons}
use Rattle.qsr_answers.specs.Scenes.{IsSceneText}
use Rattle.qsr_answers.specs.Intervals.{IsIntervalsText}
use Rattle.geo_facts.specs.PolygonFile.{NamedRing}

-- ---- close

-- the text is that of the network's closure
pub record IsClosureText (c : NamedAlgebra) (net closed : Network) (text : List ℕ) : Type 0 where
  pub rest : closed ≡ record net { words = closed.words }
  pub closure : IsClosure c.algebra net.nodes net.words closed.words
  pub text_is : text ≡ network_text c closed

-- no where a set of the closure is empty, and else done
abbrev pub IsStatusOf : Network → Status → Type 0
IsStatusOf closed Done = ¬ Contains closed.words 0
IsStatusOf closed No = Contains closed.words 0
IsStatusOf closed status = ⊥

-- the text and the status of closing a network
pub record ClosesNetwork (c : NamedAlgebra) (net : Network) (text : List ℕ) (status : Status) : Type 0 where
  pub closed : Network
  pub closure_text : IsClosureText c net closed text
  pub verdict : IsStatusOf closed status

-- ---- searching

-- the verdict on a network that is ruled. It is true of it: a yes has a scenario of it, a no a tree that refutes it, so
-- that it has none, and the budget is spent only where it may be
pub record IsVerdictOn (c : NamedAlgebra) (class : List ℕ) (budget : ℕ) (net : Network) (verdict : Verdict) : Type 0 where
  pub ruled : IsVerdict c.algebra net.nodes class budget net.words verdict
  pub is_true : IsTrueOf c.algebra net.nodes net.words budget verdict
  pub rules_out : RulesOut c net verdict

-- ---- solve

-- the text and the status of a search: those of the verdict that is ruled
pub record SolvesNetwork (asked : SolveAsked) (c : NamedAlgebra) (class : List ℕ) (net : Network) (text : List ℕ) (status : Status) : Type 0 where
  pub verdict : Verdict
  pub on_network : IsVerdictOn c class asked.budget net verdict
  pub text_is : text ≡ answer_text asked.is_cert c net verdict
  pub status_is : status ≡ verdict_status verdict

-- ---- intervals

-- the text and the status of a search for intervals, likewise
pub record RealisesNetwork (asked : IntervalsAsked) (class : List ℕ) (net : Network) (text : List ℕ)
    (status : Status) : Type 0 where
  pub verdict : Verdict
  pub on_network : IsVerdictOn allen_calculus class asked.budget net verdict
  pub text_is : IsIntervalsText net verdict text
  pub status_is : status ≡ verdict_status verdict

-- ---- minimal

-- no where a set that is left is empty, else budget where a label is open, and else done
abbrev pub IsStatusOfLabels : List EdgeLabels → Status → Type 0
IsStatusOfLabels labels No = Contains (left_of labels) 0
IsStatusOfLabels labels Budget = (¬ Contains (left_of labels) 0) × (0 < count_of Open labels)
IsStatusOfLabels labels Done = (¬ Contains (left_of labels) 0) × (count_of Open labels ≡ 0)
IsStatusOfLabels labels status = ⊥

-- the text and the status of labelling the base relations of a network's closure: the numbers of labels, and what the closure has
-- without the refuted ones. It has the scenarios of the network, and is the minimal network (Montanari 1974) where no label is open
pub record LabelsNetwork (asked : MinimalAsked) (c : NamedAlgebra) (class : List ℕ) (net : Network) (text : List ℕ)
    (status : Status) : Type 0 where
  pub closure : List ℕ
  pub is_closure : IsClosure c.algebra net.nodes net.words closure
  pub labels : List EdgeLabels
  pub are_labels : AreLabels c.algebra net.nodes class asked.budget net.words closure labels
  pub text_is : text ≡ labels_line labels ++ network_text c (record net { words = left_of labels })
  pub status_is : IsStatusOfLabels labels status
  pub keeps : (relations : List ℕ) → IsScenario c.algebra net.nodes net.words relations
      ↔ IsScenario c.algebra net.nodes (left_of labels) relations
  pub is_minimal : count_of Open labels ≡ 0 → IsMinimal c.algebra net.nodes net.words (left_of labels)

-- ---- check and trace

-- the text and the status of judging a certificate of a network
abbrev pub JudgesCertificate : NamedAlgebra → Certificate → Network → List ℕ → Status → Type 0
JudgesCertificate c certificate net text Done = IsAccepted c net certificate × (text ≡ accepted_text)
JudgesCertificate c certificate net text (NotAccepted number place) =
    IsNotAccepted c net certificate number place × (text ≡ not_accepted_text number place)
JudgesCertificate c certificate net text status = ⊥

-- the text is that of the traced form of an accepted certificate
pub record IsTracedText (c : NamedAlgebra) (certificate : Certificate) (net : Network) (text : List ℕ) : Type 0 where
  pub accepted : IsAccepted c net certificate
  pub traced : Certificate
  pub is_traced : IsTracedForm c net certificate traced certificate.claim
  pub text_is : text ≡ certificate_text traced

-- the text and the status of tracing one
abbrev pub TracesCertificate : NamedAlgebra → Certificate → Network → List ℕ → Status → Type 0
TracesCertificate c certificate net text Done = IsTracedText c certificate net text
TracesCertificate c certificate net text (NotAccepted number place) =
    IsNotAccepted c net certificate number place × (text ≡ not_accepted_text number place)
TracesCertificate c certificate net text status = ⊥

-- after `Done` the certificate is accepted, and says this of every scenario
abbrev pub SaysOfScenarios : NamedAlgebra → Certificate → Network → Status → Type 0
SaysOfScenarios c certificate net Done = RulesOutScenarios c net certificate.claim
SaysOfScenarios c certificate net status = ⊤

-- the text and the status of `check`: a no that is accepted rules every scenario out
pub record ChecksNetwork (c : NamedAlgebra) (certificate : Certificate) (net : Network) (text : List ℕ) (status : Status) : Type 0 where
  pub judges : JudgesCertificate c certificate net text status
  pub says : SaysOfScenarios c certificate net status

-- the text and the status of `trace`, likewise
pub record TracesNetwork (c : NamedAlgebra) (certificate : Certificate) (net : Network) (text : List ℕ) (status : Status) : Type 0 where
  pub traces : TracesCertificate c certificate net text status
  pub says : SaysOfScenarios c certificate net status

-- ---- relate

abbrev pub RelatesPolygons : Related → List ℕ → Status → Type 0
RelatesPolygons related text status = IsTextOfPolygons related text × (status ≡ Done)

-- ---- scene

abbrev pub DrawsScene : List NamedRing → List ℕ → Status → Type 0
DrawsScene polygons text status = IsSceneText polygons text × (status ≡ Done)

-- ---- every command

-- a command was answered by what it makes of its input
abbrev pub IsAnswered : Status → Type 0
IsAnswered Done = Unit {0}
IsAnswered No = Unit {0}
IsAnswered Budget = Unit {0}
IsAnswered (NotAccepted number place) = Unit {0}
IsAnswered status = ⊥
