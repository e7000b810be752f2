-- What a certificate that is accepted says of every scenario of its network.
use Rattle.std.proofs.Common.{ℕ, List}
use Rattle.calculus_table.specs.Calculus.{NamedAlgebra, IsCalculus}
use Rattle.network_words.specs.Network.{Network, IsNetwork}
use Rattle.network_words.specs.Scenario.{IsScenario}
use Rattle.split_trees.specs.Refutes.{IsRefutation}
use Rattle.refutation.proofs.NoScenarios.{refuted-none}
use Rattle.cert_file.specs.Certificate.{Certificate}
use Rattle.cert_file.specs.declared.claim.Claim.{Claim}
use Rattle.cert_file.specs.declared.claim.Claim.TheVariants as claim
use Rattle.qsr_inputs.specs.declared.statuses.Status.{Status}
use Rattle.qsr_inputs.specs.declared.statuses.Status.TheVariants.{Done, NotAccepted}
use Rattle.qsr_answers.specs.Certificates.{ShowsClaim, RulesOutScenarios}
use Rattle.qsr_answers.specs.Commands.{JudgesCertificate, ChecksNetwork, TracesCertificate, TracesNetwork}

module _ (c : NamedAlgebra) (net : Network) (certificate : Certificate) (lawful : IsCalculus c.algebra) (network : IsNetwork c.algebra net.nodes net.words) where
  refuted : IsRefutation c.algebra net.nodes net.words certificate.tree → (relations : List ℕ) → ¬ IsScenario c.algebra net.nodes net.words relations
  refuted h relations = refuted-none c.algebra net.nodes net.words certificate.tree relations lawful network h

  ruled_out : (x : Claim) → ShowsClaim c net certificate x → RulesOutScenarios c net x
  ruled_out claim.Yes h = tt
  ruled_out claim.No h = refuted h
  ruled_out claim.Budget h = refuted h

  pub checks_network : (text : List ℕ) (status : Status) → JudgesCertificate c certificate net text status → ChecksNetwork c certificate net text status
  checks_network text Done h = record { judges = h; says = ruled_out certificate.claim h.0.shows }
  checks_network text (NotAccepted number place) h = record { judges = h; says = tt }
  checks_network text _ h = absurd h

  pub traces_network : (text : List ℕ) (status : Status) → TracesCertificate c certificate net text status → TracesNetwork c certificate net text status
  traces_network text Done h = record { traces = h; says = ruled_out certificate.claim h.accepted.shows }
  traces_network text (NotAccepted number place) h = record { traces = h; says = tt }
  traces_network text _ h = absurd h
