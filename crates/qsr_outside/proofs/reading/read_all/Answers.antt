use Rattle.std.proofs.Common.{arith, rules}
use Rattle.std.proofs.lemmas.Grind.{common_steps}
use Rattle.qsr_outside.proofs.SoFar.{read_too_much, read_too_much_untold, read_more, read_none}
use Rattle.qsr_outside.proofs.reading.read_all.Goals as goal

pub loop-n-init : goal.loop-n-init
loop-n-init g c = record {
  buffer = grind (arith, common_steps);
  read = read_none _ _ _ _ _ c.new-bytes.ensures.items;
  documents = search rules;
  absent_openings = search rules;
}

pub returns-then-n-limit-clause-too_long_only_where_left : goal.returns-then-n-limit-clause-too_long_only_where_left
returns-then-n-limit-clause-too_long_only_where_left g c = λ _.
    read_too_much _ _ _ _ _ _ _ _ _ _ _ c.loop-n.invariant.read c.in-Ok.ensures.gives c.in-Ok.ensures.within (omega arith)

pub returns-then-n-limit-clause-completes : goal.returns-then-n-limit-clause-completes
returns-then-n-limit-clause-completes g c = λ told _.
    read_too_much_untold _ _ _ _ _ _ _ _ _ _ _ c.loop-n.invariant.read c.in-Ok.ensures.gives c.in-Ok.ensures.within (omega arith) told

pub loop-n-preserved : goal.loop-n-preserved
loop-n-preserved g c = record {
  buffer = c.loop-n.invariant.buffer;
  read = read_more _ _ _ _ _ _ _ _ _ _ _ c.loop-n.invariant.read c.in-Ok.ensures.gives c.in-Ok.ensures.within _ _ _
      c.in-Ok.ensures.counts c.in-Ok.ensures.ok_is_no_fault (grind (arith, common_steps)) (omega arith);
  documents = search rules;
  absent_openings = search rules;
}
