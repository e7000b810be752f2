use Rattle.std.proofs.Common.{◌≡◌, ◌<◌, ◌∷◌, ◌++◌, [], length, ap, sym, ◌∙◌, arith, rules}
use Rattle.std.proofs.lemmas.List.{length_push}
use Rattle.qsr_lex.specs.LineTokens.{after_kind}
use Rattle.qsr_lex.specs.declared.tokens.TokenKind.TheVariants.{Comma}
use Rattle.geo_facts.proofs.FormLines.{with_points, with_points-none, points_told-more, point-less, after_kind-less}
use Rattle.geo_facts.specs.LineForm.{points_until_close}
use Rattle.geo_facts.proofs.line.read_points.Goals as goal

pub loop-point-init : goal.loop-point-init
loop-point-init c =
    let found = points_until_close c.args.tokens.now in
    let none = c.new-points.ensures.items in
    record {
      told = ap (λ ps. with_points ps found) none ∙ with_points-none found;
      few = omega (arith, ap length none);
    }

pub loop-point-smaller : goal.loop-point-smaller
loop-point-smaller c =
    let mid = c.read_point.new.tokens in
    let comma = ap (after_kind Comma) (sym c.if-take_kind.ensures.1) ∙ c.if-not-take_kind.ensures in
    omega (arith, point-less c.loop-point.tokens mid c.in-Some.point c.in-Some.ensures, after_kind-less Comma mid c.take_kind-in-Some.new.self comma)

pub loop-point-preserved : goal.loop-point-preserved
loop-point-preserved c =
    let points = c.loop-point.points.items in
    let mid = c.read_point.new.tokens in
    let p = c.in-Some.point in
    let new = c.take_kind-in-Some.new.self in
    let e : c.push.new.self.items ≡ points ++ p ∷ [] = search rules in
    let comma = ap (after_kind Comma) (sym c.if-take_kind.ensures.1) ∙ c.if-not-take_kind.ensures in
    let less : length mid < length c.loop-point.tokens = point-less c.loop-point.tokens mid p c.in-Some.ensures in
    let less_comma : length new < length mid = after_kind-less Comma mid new comma in
    record {
      told = points_told-more points p c.loop-point.tokens mid (points_until_close c.args.tokens.now) c.loop-point.invariant.told c.in-Some.ensures c.push.new.self.items new c.if-take_kind.ensures.0 comma e;
      few = omega (arith, ap length e, length_push points p, c.loop-point.invariant.few);
    }
