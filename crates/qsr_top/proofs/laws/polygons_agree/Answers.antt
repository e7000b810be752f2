use Rattle.qsr_top.proofs.Agreeing.{polygons_agree}
use Rattle.qsr_top.proofs.laws.polygons_agree.Goals as goal

pub returns : goal.returns
returns c = polygons_agree
