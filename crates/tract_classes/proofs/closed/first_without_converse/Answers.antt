use Rattle.std.proofs.Common.{◌≡◌, get_or, ap, ◌∙◌}
use Rattle.calculus_table.specs.Composition.{converse}
use Rattle.tract_classes.specs.Class.{HasConverse}
use Rattle.tract_classes.proofs.FirstMembers.{is_member, is_none, one_more, no_more, found}
use Rattle.tract_classes.proofs.closed.first_without_converse.Goals as goal

pub returns-then-not-has : goal.returns-then-not-has
returns-then-not-has g c =
    let m = g.C.Compose.algebra c.args.c.now in
    let class = c.args.class.now in
    let items = c.members-a-items.result.now in
    let k = c.loop-a.a-index in
    let e : c.converse.result ≡ converse m (get_or items k 0) = c.converse.ensures.value ∙ ap (converse m) c.of.ensures in
    found class items c.members-a-items.ensures.class.ascending c.members-a-items.ensures.value k (HasConverse m class) c.loop-a.invariant c.loop-a-test.true
    (is_none class c.has.result c.converse.result (converse m (get_or items k 0)) c.has.ensures c.if-not-has.true e)

pub loop-a-preserved : goal.loop-a-preserved
loop-a-preserved g c =
    let m = g.C.Compose.algebra c.args.c.now in
    let class = c.args.class.now in
    let items = c.members-a-items.result.now in
    let k = c.loop-a.a-index in
    let e : c.converse.result ≡ converse m (get_or items k 0) = c.converse.ensures.value ∙ ap (converse m) c.of.ensures in
    one_more class items c.members-a-items.ensures.class.ascending c.members-a-items.ensures.value k (HasConverse m class) c.loop-a.invariant
    (is_member class c.has.result c.converse.result (converse m (get_or items k 0)) c.has.ensures c.if-not-has.false e)

pub returns : goal.returns
returns g c =
    no_more c.args.class.now c.members-a-items.result.now c.members-a-items.ensures.class.ascending c.members-a-items.ensures.value c.loop-a.a-index
    (HasConverse (g.C.Compose.algebra c.args.c.now) c.args.class.now) c.loop-a.invariant c.loop-a-test.false
