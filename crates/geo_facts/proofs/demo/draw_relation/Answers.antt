use Rattle.std.proofs.Common.{◌≡◌, ◌==◌, false, sym, ap, ◌∙◌, ne_eqb}
use Rattle.geo_facts.specs.Demo.{drawn, is_forgotten_after}
use Rattle.geo_facts.proofs.Drawings.{IsDrawn-kept}
use Rattle.geo_facts.proofs.demo.draw_relation.Goals as goal

pub returns-clause-drawn : goal.returns-clause-drawn
returns-clause-drawn c =
    let x = c.args.draws.now.state in
    let kept : is_forgotten_after x ≡ false = sym (ap (λ y. y == 0) (c.below.ensures.value ∙ ap (drawn 4) c.below.ensures.state)) ∙ ne_eqb c.below.result 0 c.if-below-eq0.false in
    IsDrawn-kept x c.args.a.now c.args.b.now c.rcc8.result kept (record { matrix = c.in-Ok.m; is_matrix = c.in-Ok.ensures; relation = c.rcc8.ensures })
