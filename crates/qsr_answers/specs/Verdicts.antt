-- What the program says of a verdict.
use Rattle.std.specs.Prelude.{⊤, ℕ, List, ◌++◌, codes, Bool, if◌then◌else◌}
use Rattle.calculus_table.specs.Calculus.{NamedAlgebra}
use Rattle.network_words.specs.Network.{Network}
use Rattle.network_words.specs.Scenario.{IsScenario, as_network}
use Rattle.network_file.specs.NetworkText.{network_text}
use Rattle.cert_file.specs.Written.{certificate_text}
use Rattle.split_search.specs.declared.verdict.Verdict.{Verdict}
use Rattle.split_search.specs.declared.verdict.Verdict.TheVariants as verdict
use Rattle.qsr_inputs.specs.declared.statuses.Status.{Status}
use Rattle.qsr_inputs.specs.declared.statuses.Status.TheVariants.{Done, No, Budget}
use Rattle.qsr_answers.specs.Certificates.{certificate_of}
use Rattle.qsr_answers.specs.Texts.{verdict_line}

abbrev pub verdict_word : Verdict → List ℕ
verdict_word (verdict.Yes relations nodes) = codes "yes"
verdict_word (verdict.No nodes) = codes "no"
verdict_word (verdict.Budget nodes) = codes "budget"

abbrev pub verdict_status : Verdict → Status
verdict_status (verdict.Yes relations nodes) = Done
verdict_status (verdict.No nodes) = No
verdict_status (verdict.Budget nodes) = Budget

-- the text of a verdict on a network: its line, and after a yes the scenario as a network
abbrev pub verdict_text : NamedAlgebra → Network → Verdict → List ℕ
verdict_text c net (verdict.Yes relations nodes) =
    verdict_line (codes "yes") nodes ++ network_text c (record net { words = as_network relations })
verdict_text c net (verdict.No nodes) = verdict_line (codes "no") nodes
verdict_text c net (verdict.Budget nodes) = verdict_line (codes "budget") nodes

-- the same, or in its place the line of the certificate
abbrev pub answer_text : Bool → NamedAlgebra → Network → Verdict → List ℕ
answer_text is_cert c net v = if is_cert then certificate_text (certificate_of c net v) else verdict_text c net v

-- after a no, no list of base relations is a scenario of the network
abbrev pub RulesOut : NamedAlgebra → Network → Verdict → Type 0
RulesOut c net (verdict.Yes relations nodes) = ⊤
RulesOut c net (verdict.No nodes) = (relations : List ℕ) → ¬ IsScenario c.algebra net.nodes net.words relations
RulesOut c net (verdict.Budget nodes) = ⊤

-- a yes comes with a scenario of the network
abbrev pub HasScenario : NamedAlgebra → Network → Verdict → Type 0
HasScenario c net (verdict.Yes relations nodes) = IsScenario c.algebra net.nodes net.words relations
HasScenario c net (verdict.No nodes) = ⊤
HasScenario c net (verdict.Budget nodes) = ⊤
