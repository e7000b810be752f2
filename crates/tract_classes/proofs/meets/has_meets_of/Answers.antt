use Rattle.std.proofs.Common.{get_or, refl, arith, below_more}
use Rattle.std.specs.Prelude.{bit_and}
use Rattle.std.proofs.lemmas.Bool.{false≢true}
use Rattle.std.proofs.lemmas.List.Elements.{All-from_get_or}
use Rattle.tract_classes.specs.Class.{HasMeet}
use Rattle.tract_classes.proofs.FirstMembers.{is_member, is_none}
use Rattle.tract_classes.proofs.meets.has_meets_of.Goals as goal

pub returns-then-not-has : goal.returns-then-not-has
returns-then-not-has c =
    let k = c.loop-set.set-index in
    let none = is_none c.args.class.now c.has.result c.of.result (bit_and c.args.a (get_or c.args.sets.now k 0)) c.has.ensures c.if-not-has.true c.of.ensures in
    (λ e. absurd (false≢true e), λ all. absurd (none (all k 0 c.loop-set-test.true)))

pub loop-set-preserved : goal.loop-set-preserved
loop-set-preserved c =
    below_more _ _ c.loop-set.invariant
    (is_member c.args.class.now c.has.result c.of.result (bit_and c.args.a (get_or c.args.sets.now c.loop-set.set-index 0)) c.has.ensures c.if-not-has.false c.of.ensures)

pub returns : goal.returns
returns c =
    (λ _. All-from_get_or (HasMeet c.args.class.now c.args.a) c.args.sets.now 0 (λ i l. c.loop-set.invariant i (omega (arith, c.loop-set-test.false))), λ _. refl)
