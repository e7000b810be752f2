use Rattle.calculus_load.proofs.Faults.{load-one, loaded-none}
use Rattle.calculus_load.proofs.laws.load_is_one.Goals as goal

pub returns : goal.returns
returns c = record { fault = load-one; none = loaded-none }
