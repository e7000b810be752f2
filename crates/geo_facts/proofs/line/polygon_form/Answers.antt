use Rattle.std.proofs.Common.{arith}
use Rattle.qsr_lex.specs.declared.tokens.TokenKind.TheVariants.{Open}
use Rattle.geo_facts.proofs.FormLines.{name_at-less, after_kind-less}
use Rattle.geo_facts.proofs.line.polygon_form.Goals as goal

pub returns-clause-few : goal.returns-clause-few
returns-clause-few c =
    omega (
      arith,
      name_at-less c.args.tokens.now c.name.new.self c.in-Some.name.now c.in-Some.ensures.found,
      c.take_polygon.ensures.less,
      after_kind-less Open c.take_polygon.new.tokens c.take_kind.new.self c.if-not-take_kind.ensures,
      c.in_ok-points.ensures.few,
    )
