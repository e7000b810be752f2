-- A demonstration never answers no: the relations of its rectangles are a scenario of its network.
use Rattle.std.proofs.Common.{◌≢◌, ℕ, List, sym, subst, ◌∙◌}
use Rattle.calculus_builtin.specs.Rcc8.{rcc8_algebra}
use Rattle.calculus_builtin.proofs.Rcc8Laws.{rcc8_lawful}
use Rattle.network_words.specs.Network.{Network}
use Rattle.split_trees.specs.Refutes.{IsRefutation}
use Rattle.refutation.proofs.NoScenarios.{refuted-none}
use Rattle.split_search.specs.Verdicts.{IsTrueOf}
use Rattle.split_search.specs.declared.verdict.Verdict.{Verdict}
use Rattle.split_search.specs.declared.verdict.Verdict.TheVariants as verdict
use Rattle.geo_facts.specs.Demo.{IsDemo}
use Rattle.geo_facts.proofs.OneDemo.{demo-network}
use Rattle.geo_sound.proofs.Demos.{demo-can_hold}
use Rattle.qsr_words.specs.Asked.{DemoAsked}
use Rattle.qsr_words.specs.declared.TheConstants.{MAX_BUDGET}
use Rattle.qsr_inputs.specs.declared.statuses.Status.{Status}
use Rattle.qsr_inputs.specs.declared.statuses.Status.TheVariants.{No}
use Rattle.qsr_answers.specs.Demonstrations.{Demonstrates}
use Rattle.qsr_answers.specs.Verdicts.{verdict_status}

true-not_no : (seed n count budget : ℕ) (net : Network) (v : Verdict) → IsDemo seed n net count →
    IsTrueOf rcc8_algebra net.nodes net.words budget v → verdict_status v ≢ No
true-not_no seed n count budget net (verdict.Yes relations nodes) demo h e = cc
true-not_no seed n count budget net (verdict.Budget nodes) demo h e = cc
true-not_no seed n count budget net (verdict.No nodes) demo h e =
    let refutes : IsRefutation rcc8_algebra n net.words nodes =
    subst (λ k. IsRefutation rcc8_algebra k net.words nodes) demo.nodes h in
    demo-can_hold seed n net count demo
    (λ relations is. refuted-none rcc8_algebra n net.words nodes relations rcc8_lawful.lawful
    (demo-network seed n net count demo) refutes is)

pub demonstrates-not_no : (asked : DemoAsked) (text : List ℕ) (status : Status) → Demonstrates asked text status →
    status ≢ No
demonstrates-not_no asked text status h e =
    true-not_no asked.seed asked.nodes h.kept MAX_BUDGET h.network h.verdict h.is_demo h.is_true (sym h.status_is ∙ e)
