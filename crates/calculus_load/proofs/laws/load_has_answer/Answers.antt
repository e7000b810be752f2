use Rattle.calculus_load.proofs.Answered.{load-answered}
use Rattle.calculus_load.proofs.laws.load_has_answer.Goals as goal

pub returns : goal.returns
returns c = load-answered
