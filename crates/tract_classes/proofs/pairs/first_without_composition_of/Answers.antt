use Rattle.std.proofs.Common.{◌≡◌, get_or, ap, ◌∙◌}
use Rattle.calculus_table.specs.Composition.{composition}
use Rattle.tract_classes.specs.Class.{HasComposition}
use Rattle.tract_classes.proofs.FirstMembers.{is_member, is_none, one_more, no_more, found}
use Rattle.tract_classes.proofs.pairs.first_without_composition_of.Goals as goal

pub returns-then-not-has : goal.returns-then-not-has
returns-then-not-has g c =
    let m = g.C.Compose.algebra c.args.c.now in
    let class = c.args.class.now in
    let items = c.members-b-items.result.now in
    let k = c.loop-b.b-index in
    let b = get_or items k 0 in
    let e : c.compose.result ≡ composition m c.args.a b =
    c.compose.ensures.value ∙ ap (λ x. composition m x c.of.result) c.of-first.ensures ∙ ap (composition m c.args.a) c.of.ensures in
    found class items c.members-b-items.ensures.class.ascending c.members-b-items.ensures.value k (HasComposition m class c.args.a) c.loop-b.invariant c.loop-b-test.true
    (is_none class c.has.result c.compose.result (composition m c.args.a b) c.has.ensures c.if-not-has.true e)

pub loop-b-preserved : goal.loop-b-preserved
loop-b-preserved g c =
    let m = g.C.Compose.algebra c.args.c.now in
    let class = c.args.class.now in
    let items = c.members-b-items.result.now in
    let k = c.loop-b.b-index in
    let b = get_or items k 0 in
    let e : c.compose.result ≡ composition m c.args.a b =
    c.compose.ensures.value ∙ ap (λ x. composition m x c.of.result) c.of-first.ensures ∙ ap (composition m c.args.a) c.of.ensures in
    one_more class items c.members-b-items.ensures.class.ascending c.members-b-items.ensures.value k (HasComposition m class c.args.a) c.loop-b.invariant
    (is_member class c.has.result c.compose.result (composition m c.args.a b) c.has.ensures c.if-not-has.false e)

pub returns : goal.returns
returns g c =
    no_more c.args.class.now c.members-b-items.result.now c.members-b-items.ensures.class.ascending c.members-b-items.ensures.value c.loop-b.b-index
    (HasComposition (g.C.Compose.algebra c.args.c.now) c.args.class.now c.args.a) c.loop-b.invariant c.loop-b-test.false
