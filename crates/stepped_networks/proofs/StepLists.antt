-- Lists of the steps of one number after another.
use Rattle.std.proofs.Common.{◌≡◌, ℕ, ◌+◌, List, ◌++◌, ◌∙◌, ap, sym, append_assoc, add-one}
use Rattle.split_trees.specs.declared.tree.Step.{Step}
use Rattle.stepped_networks.specs.RuledSteps.{steps_below}

pub steps_below-more : (f : ℕ → List Step) (k : ℕ) (old now new : List Step) → now ≡ old ++ steps_below f k → new ≡ now ++ f k → new ≡ old ++ steps_below f (k + 1)
steps_below-more f k old now new e g =
    g ∙ ap (λ ss. ss ++ f k) e ∙ append_assoc old (steps_below f k) (f k) ∙ sym (ap (λ q. old ++ steps_below f q) (add-one k))

pub steps_below-next : (f : ℕ → List Step) (k : ℕ) (now new : List Step) → now ≡ steps_below f k → new ≡ now ++ f k → new ≡ steps_below f (k + 1)
steps_below-next f k now new e g = g ∙ ap (λ ss. ss ++ f k) e ∙ sym (ap (steps_below f) (add-one k))
