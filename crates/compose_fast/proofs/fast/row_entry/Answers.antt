use Rattle.compose_fast.specs.Nibbles.{row_entry}
use Rattle.compose_fast.proofs.fast.row_entry.Goals as goal

pub returns : goal.returns
unfolding row_entry
returns g c = c.composition_at.ensures
