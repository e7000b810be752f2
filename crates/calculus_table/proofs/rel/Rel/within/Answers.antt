use Rattle.std.proofs.lemmas.Bool.{eq-eqb, eqb-true}
use Rattle.calculus_table.proofs.Sets.{meet-within, within-meet}
use Rattle.calculus_table.proofs.rel.Rel.within.Goals as goal

pub returns : goal.returns
returns c =
    rw (← c.self.view_is, ← c.other.view_is)
    (λ t. within-meet c.self.inside.word c.other.inside.word (eqb-true _ _ t), λ p. eq-eqb _ _ (meet-within c.self.inside.word c.other.inside.word p))
