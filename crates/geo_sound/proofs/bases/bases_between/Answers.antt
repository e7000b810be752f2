use Rattle.std.proofs.Common.{◌≡◌, ◌∷◌, ◌++◌, [], length, sym, subst, arith, rules, ap, length-append}
use Rattle.geo_sound.specs.Drawn.{rings_of}
use Rattle.geo_sound.specs.Bases.{IsBaseAt, AreBases}
use Rattle.geo_sound.proofs.Drawings.{AreBases-push}
use Rattle.geo_sound.proofs.bases.bases_between.Goals as goal

pub loop-edge-preserved : goal.loop-edge-preserved
loop-edge-preserved c =
    let rings = rings_of c.args.polygons.now in
    let bases = c.loop-edge.bases.items in
    let base = c.in_ok-base.base in
    let kept : c.push.new.self.items ≡ bases ++ base ∷ [] = search rules in
    let long = ap length kept in
    record {
      count = omega (arith, length-append bases (base ∷ []), c.loop-edge.invariant.count, long);
      bases_are = subst (AreBases rings c.args.from) (sym kept)
          (AreBases-push rings c.args.from bases base c.loop-edge.invariant.bases_are
          (subst (λ e. IsBaseAt rings e base) (sym c.loop-edge.invariant.count) c.in_ok-base.ensures));
    }
