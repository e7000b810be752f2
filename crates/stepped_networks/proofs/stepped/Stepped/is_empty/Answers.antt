use Rattle.stepped_networks.proofs.Stacks.{first_zero-found}
use Rattle.stepped_networks.proofs.stepped.Stepped.is_empty.Goals as goal

pub returns-else-is_last_empty : goal.returns-else-is_last_empty
returns-else-is_last_empty c = let a = c.is_some.ensures in let b = c.first_zero.ensures in
    rw (← c.self.view_is, ← c.words.ensures.value, c.is_some.ensures) (first_zero-found c.first_zero.result c.words.result.now c.first_zero.ensures)
