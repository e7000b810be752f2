-- What working a network keeps: that it is a network, and its scenarios.
use Rattle.std.proofs.Common.{ℕ, List, [], ◌∷◌, sym, subst, inl, inr}
use Rattle.std.specs.Prelude.{slice_index, bit_and, All}
use Rattle.std.proofs.lemmas.List.{length-set}
use Rattle.std.proofs.lemmas.List.Elements.{All-head, All-tail}
use Rattle.calculus_table.specs.Rel.{Has, IsWithin}
use Rattle.calculus_table.specs.Algebra.{Algebra}
use Rattle.calculus_table.specs.Composition.{composition}
use Rattle.calculus_table.specs.Calculus.{IsCalculus}
use Rattle.calculus_table.proofs.Sets.{Has-meet, IsWithin-refl, IsWithin-meet_l}
use Rattle.network_words.specs.Edge.{IsProperTriple}
use Rattle.network_words.specs.Network.{IsNetwork, Refines, relation_between}
use Rattle.network_words.specs.Closure.{IsClosure}
use Rattle.network_words.specs.Scenario.{IsScenario}
use Rattle.network_words.proofs.Networks.{set-cases}
use Rattle.network_words.proofs.Refinements.{IsNetwork-refines, IsNetwork-narrowed_at, KeepsClosed-along, IsClosure-through}
use Rattle.network_words.proofs.Scenarios.{IsScenario-closure}
use Rattle.network_words.proofs.Existence.{closure_of}
use Rattle.split_trees.specs.declared.tree.Step.{Step}
use Rattle.split_trees.specs.Tree.{NodeSteps, sweep, listed, AreSteps}
use Rattle.split_trees.specs.Refutes.{after_step, after_steps, IsWorked, met_at}

module _ (m : Algebra) (n : ℕ) where
  -- ---- networks

  pub after_step-network : (words : List ℕ) (step : Step) → IsNetwork m n words → IsNetwork m n (after_step m n words step)
  after_step-network words step net =
      IsNetwork-narrowed_at m n words step.i step.k (composition m (relation_between m n words step.i step.j) (relation_between m n words step.j step.k)) net

  pub after_steps-network : (words : List ℕ) (steps : List Step) → IsNetwork m n words → IsNetwork m n (after_steps m n words steps)
  after_steps-network words [] net = net
  after_steps-network words (step ∷ steps) net = after_steps-network (after_step m n words step) steps (after_step-network words step net)

  pub met_at-refines : (words : List ℕ) (e part : ℕ) → Refines (met_at words e part) words
  met_at-refines words e part = record {
    each = λ d. elim (set-cases words e (bit_and (slice_index words e) part) d) [
      | inl same ↦ subst (λ x. IsWithin x (slice_index words d)) (sym same) (IsWithin-refl (slice_index words d))
      | inr here ↦ subst (λ x. IsWithin x (slice_index words d)) (sym here.1) (subst (λ k. IsWithin (bit_and (slice_index words e) part) (slice_index words k)) (sym here.0) (IsWithin-meet_l (slice_index words e) part))
    ];
  }

  pub met_at-network : (words : List ℕ) (e part : ℕ) → IsNetwork m n words → IsNetwork m n (met_at words e part)
  met_at-network words e part net =
      IsNetwork-refines m n (met_at words e part) words net (length-set words e (bit_and (slice_index words e) part)) (met_at-refines words e part)

  pub worked-network : (words worked : List ℕ) (steps : NodeSteps) → IsNetwork m n words → IsWorked m n steps words worked → IsNetwork m n worked
  worked-network words worked sweep net w = IsNetwork-refines m n worked words net w.length_is w.within
  worked-network words worked (listed steps) net w = subst (IsNetwork m n) (sym w) (after_steps-network words steps net)

  -- ---- scenarios

  after_step-scenario : (words relations : List ℕ) (step : Step) → IsCalculus m → IsNetwork m n words → IsProperTriple n step.i step.j step.k →
      IsScenario m n words relations → IsScenario m n (after_step m n words step) relations
  after_step-scenario words relations step k net t s =
      let after-net = after_step-network words step net in
      let c = closure_of m n (after_step m n words step) k after-net in
      let whole : IsClosure m n words c.0 = IsClosure-through m n words (after_step m n words step) c.0 net (KeepsClosed-along m n words step.i step.j step.k k t) c.1 in
      (IsScenario-closure m n (after_step m n words step) c.0 relations k after-net c.1).1
      ((IsScenario-closure m n words c.0 relations k net whole).0 s)

  after_steps-scenario : (words relations : List ℕ) (steps : List Step) → IsCalculus m → IsNetwork m n words → All (λ step. IsProperTriple n step.i step.j step.k) steps →
      IsScenario m n words relations → IsScenario m n (after_steps m n words steps) relations
  after_steps-scenario words relations [] k net t s = s
  after_steps-scenario words relations (step ∷ steps) k net t s =
      after_steps-scenario (after_step m n words step) relations steps k (after_step-network words step net)
      (All-tail (λ a. IsProperTriple n a.i a.j a.k) step steps t)
      (after_step-scenario words relations step k net (All-head (λ a. IsProperTriple n a.i a.j a.k) step steps t) s)

  pub worked-scenario : (words worked relations : List ℕ) (steps : NodeSteps) → IsCalculus m → IsNetwork m n words → AreSteps n steps → IsWorked m n steps words worked →
      IsScenario m n words relations → IsScenario m n worked relations
  worked-scenario words worked relations sweep k net t w s = (IsScenario-closure m n words worked relations k net w).0 s
  worked-scenario words worked relations (listed steps) k net t w s =
      subst (λ ws. IsScenario m n ws relations) (sym w) (after_steps-scenario words relations steps k net t s)

  pub met_at-scenario : (words relations : List ℕ) (e part : ℕ) → Has part (slice_index relations e) → IsScenario m n words relations → IsScenario m n (met_at words e part) relations
  met_at-scenario words relations e part h s = record {
    length_is = s.length_is;
    below = s.below;
    member = λ d l. elim (set-cases words e (bit_and (slice_index words e) part) d) [
      | inl same ↦ subst (λ x. Has x (slice_index relations d)) (sym same) (s.member d l)
      | inr here ↦
          (let at : Has (slice_index words d) (slice_index relations d) = s.member d l in
          let there : Has (slice_index words e) (slice_index relations e) = subst (λ q. Has (slice_index words q) (slice_index relations q)) here.0 at in
          let both : Has (bit_and (slice_index words e) part) (slice_index relations e) = Has-meet (slice_index words e) part (slice_index relations e) there h in
          subst (λ x. Has x (slice_index relations d)) (sym here.1) (subst (λ q. Has (bit_and (slice_index words e) part) (slice_index relations q)) (sym here.0) both))
    ];
    composes = s.composes;
  }
