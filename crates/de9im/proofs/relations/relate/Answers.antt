use Rattle.std.proofs.Common.{subst, sym}
use Rattle.de9im.specs.Matrices.{IsMatrix}
use Rattle.de9im.proofs.Gathers.{gathered_is, told, told_back}
use Rattle.de9im.proofs.relations.relate.Goals as goal

pub view-requires-clause-told : goal.view-requires-clause-told
view-requires-clause-told c = let r = c.requires in let f = c.scan-found in told f.result c.args.a.vertices.now c.args.b.vertices.now r.one.ring.simple r.two.ring.simple f.ensures.sound f.ensures.done

pub view-requires-2-clause-told : goal.view-requires-2-clause-told
view-requires-2-clause-told c = let r = c.requires in let f = c.scan-found in told_back f.result c.args.a.vertices.now c.args.b.vertices.now r.one.ring.simple r.two.ring.simple f.ensures.sound f.ensures.done

pub returns : goal.returns
returns c =
    let r = c.requires in let f = c.scan-found in
    subst (λ m. IsMatrix m c.args.a.vertices.now c.args.b.vertices.now) (sym c.gather.ensures)
    (gathered_is f.result c.args.a.vertices.now c.args.b.vertices.now r.one.ring.simple r.two.ring.simple f.ensures.sound f.ensures.done _ (record { first = c.view.ensures; second = c.view-2.ensures }))
