use Rattle.std.proofs.Common.{get_or}
use Rattle.std.specs.Prelude.{bit_and}
use Rattle.tract_classes.specs.Class.{HasMeet}
use Rattle.tract_classes.proofs.FirstMembers.{is_member, is_none, one_more, no_more, found}
use Rattle.tract_classes.proofs.pairs.first_without_meet_of.Goals as goal

pub returns-then-not-has : goal.returns-then-not-has
returns-then-not-has c =
    let class = c.args.class.now in
    let items = c.members-b-items.result.now in
    let k = c.loop-b.b-index in
    found class items c.members-b-items.ensures.class.ascending c.members-b-items.ensures.value k (HasMeet class c.args.a) c.loop-b.invariant c.loop-b-test.true
    (is_none class c.has.result c.of.result (bit_and c.args.a (get_or items k 0)) c.has.ensures c.if-not-has.true c.of.ensures)

pub loop-b-preserved : goal.loop-b-preserved
loop-b-preserved c =
    let class = c.args.class.now in
    let items = c.members-b-items.result.now in
    let k = c.loop-b.b-index in
    one_more class items c.members-b-items.ensures.class.ascending c.members-b-items.ensures.value k (HasMeet class c.args.a) c.loop-b.invariant
    (is_member class c.has.result c.of.result (bit_and c.args.a (get_or items k 0)) c.has.ensures c.if-not-has.false c.of.ensures)

pub returns : goal.returns
returns c =
    no_more c.args.class.now c.members-b-items.result.now c.members-b-items.ensures.class.ascending c.members-b-items.ensures.value c.loop-b.b-index
    (HasMeet c.args.class.now c.args.a) c.loop-b.invariant c.loop-b-test.false
