use Rattle.std.proofs.Common.{arith}
use Rattle.std.proofs.lemmas.Grind.{common_steps}
use Rattle.std.proofs.lemmas.List.{map_more}
use Rattle.session_versions.specs.HeldFacts.{HeldFact}
use Rattle.session_versions.proofs.held.facts_alone.Goals as goal

pub loop-held-preserved : goal.loop-held-preserved
loop-held-preserved c =
    let more = map_more (λ (h : HeldFact). h.fact) c.args.helds.now c.loop-held.held-index c.held-item.result c.loop-held-test.true in
    rw (more, ← c.held-item.is, ← c.held.view_is) (grind (arith, common_steps))
