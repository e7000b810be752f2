use Rattle.std.proofs.Common.{◌≡◌, length}
use Rattle.geo_facts.specs.LineForm.{after_all_rings}
use Rattle.geo_facts.proofs.FormLines.{IsHole}
use Rattle.geo_facts.proofs.line.pass_rings.Given as goal

abbrev pub invariant-loop-alloc : goal.invariant-loop-alloc
invariant-loop-alloc l = record {
  told : after_all_rings l.tokens ≡ after_all_rings l.fn.tokens;
  hole : IsHole l.hole l.fn.tokens l.tokens;
}

abbrev pub decreases-loop-alloc : goal.decreases-loop-alloc
decreases-loop-alloc l = length l.tokens
