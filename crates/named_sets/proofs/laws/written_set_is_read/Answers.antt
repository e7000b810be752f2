use Rattle.named_sets.proofs.WrittenSets.{set-written}
use Rattle.named_sets.proofs.laws.written_set_is_read.Goals as goal

pub returns : goal.returns
returns c = set-written
