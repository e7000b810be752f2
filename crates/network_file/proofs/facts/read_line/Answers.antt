use Rattle.std.proofs.Common.{◌-◌, ◌^◌, length, ap, ◌∙◌, subst}
use Rattle.calculus_table.specs.Rel.{IsWithin}
use Rattle.network_file.proofs.facts.read_line.Goals as goal

pub narrow-requires-clause-within : goal.narrow-requires-clause-within
narrow-requires-clause-within c = subst (λ n. IsWithin c.in_ok-fact.fact.rel (2 ^ n - 1)) (ap length c.requires.bases ∙ c.requires.one_each) c.in_ok-fact.ensures.within
