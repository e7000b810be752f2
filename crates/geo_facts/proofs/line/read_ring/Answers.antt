use Rattle.std.proofs.Common.{◌+◌, ◌≤◌, length, arith}
use Rattle.std.proofs.lemmas.Result.{IfOk-weaker}
use Rattle.qsr_lex.specs.declared.tokens.TokenKind.TheVariants.{Open}
use Rattle.geo_facts.proofs.FormLines.{after_kind-less}
use Rattle.geo_facts.proofs.line.read_ring.Goals as goal

pub returns-clause-few : goal.returns-clause-few
returns-clause-few c =
    let mid = c.take_kind.new.self in
    IfOk-weaker c.read_points.result (λ points. length points.items + length c.read_points.new.tokens ≤ length mid)
    (λ points. length points.items + length c.read_points.new.tokens ≤ length c.args.tokens.now)
    (λ points few. omega (arith, few, after_kind-less Open c.args.tokens.now mid c.if-not-take_kind.ensures)) c.read_points.ensures.few
