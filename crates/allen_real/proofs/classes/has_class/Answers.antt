use Rattle.std.proofs.Common.{◌≡◌, take, arith, subst}
use Rattle.std.proofs.lemmas.Bool.{MatchBool-at_false}
use Rattle.std.proofs.lemmas.List.{take_all}
use Rattle.std.proofs.lemmas.List.Elements.{All-more}
use Rattle.allen_real.specs.declared.end_points.EndPoint.{EndPoint}
use Rattle.allen_real.specs.EndPoints.{Differ}
use Rattle.allen_real.specs.Classes.{IsNew}
use Rattle.allen_real.proofs.classes.has_class.Goals as goal

pub loop-p-preserved : goal.loop-p-preserved
loop-p-preserved c =
    let differs = λ (p : EndPoint). Differ c.args.nodes c.args.bases.now p c.args.q in
    All-more differs c.args.members.now c.loop-p.p-index _ (omega arith) c.loop-p.invariant
    (MatchBool-at_false _ _ c.if-are_equal.false c.are_equal.ensures)

pub returns : goal.returns
returns c =
    let members = c.args.members.now in
    let whole : take c.loop-p.p-index members ≡ members = take_all c.loop-p.p-index members (omega arith) in
    subst (λ ps. IsNew c.args.nodes c.args.bases.now ps c.args.q) whole c.loop-p.invariant
