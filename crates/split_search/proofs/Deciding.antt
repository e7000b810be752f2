-- Closing decides the networks over a straight class that is closed.
use Rattle.std.proofs.Common.{ℕ, List, subst, arith}
use Rattle.std.specs.Prelude.{Contains, slice_index}
use Rattle.calculus_table.specs.Algebra.{Algebra}
use Rattle.calculus_table.specs.Rel.{Has}
use Rattle.calculus_table.proofs.Sets.{not_Has-empty}
use Rattle.network_words.specs.Network.{IsNetwork}
use Rattle.network_words.specs.Scenario.{IsScenario}
use Rattle.network_words.proofs.Scenarios.{IsScenario-closure}
use Rattle.split_search.specs.Laws.{ClosureDecides}
use Rattle.split_search.specs.Straight.{IsClosedOver}
use Rattle.split_search.proofs.ClassClosures.{closure-over}
use Rattle.split_search.proofs.Least.{least_exist}
use Rattle.split_search.proofs.Networks.{closure-network}
use Rattle.split_search.proofs.SetEdges.{scenario-refines}
use Rattle.split_search.proofs.Straight.{least_scenario}

-- a network with a scenario has no empty set
scenario-full : (m : Algebra) (n : ℕ) (words relations : List ℕ) → IsNetwork m n words → IsScenario m n words relations →
    ¬ Contains words 0
scenario-full m n words relations net s (e, below, empty) =
    let r = slice_index relations e in
    not_Has-empty r (subst (λ a. Has a r) empty (s.member e (omega (arith, below, net.length_is))))

pub closure_decides : ClosureDecides
closure_decides m n class words closure calculus own straight net members is =
    let there : IsNetwork m n closure = closure-network m n words closure net is in (
      (λ s. scenario-full m n closure s.0 there ((IsScenario-closure m n words closure s.0 calculus net is).0 s.1)),
      (λ full.
          let over : IsClosedOver m n class closure = closure-over m n class words closure calculus own net members is in
          let least = least_exist n closure there.length_is full in (
            least.0,
            scenario-refines m n closure words least.0 is.within
                (least_scenario m n class closure least.0 straight over least.1),
          )),
    )
