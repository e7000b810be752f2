use Rattle.std.proofs.Common.{◌≡◌, ◌≤◌, length, subst, sym, rules}
use Rattle.poly_exact.specs.Located.{AreSmall}
use Rattle.poly_exact.specs.Checks.{AreProper}
use Rattle.poly_exact.specs.Kept.{kept}
use Rattle.poly_exact.proofs.KeptVertices.{AreSmall-kept, AreProper-kept}
use Rattle.poly_exact.proofs.rings.Ring.new.Goals as goal

pub close-requires-clause-small : goal.close-requires-clause-small
close-requires-clause-small c =
    let e : c.in_ok-vertices.vertices.items ≡ kept c.args.points.now = search rules in
    subst AreSmall (sym e) (AreSmall-kept c.args.points.now c.in_default.ensures.none)

pub close-requires-clause-proper : goal.close-requires-clause-proper
close-requires-clause-proper c =
    let e : c.in_ok-vertices.vertices.items ≡ kept c.args.points.now = search rules in
    let few : 3 ≤ length c.in_ok-vertices.vertices.items = search rules in
    subst AreProper (sym e) (AreProper-kept c.args.points.now (subst (λ vs. 3 ≤ length vs) e few))
