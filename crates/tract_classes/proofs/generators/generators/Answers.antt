use Rattle.std.proofs.Common.{◌≡◌, ◌-◌, ◌+◌, ◌<◌, length, get_or, sym, ap, subst, arith}
use Rattle.tract_classes.proofs.GeneratedMeets.{GenerateFrom, GenerateFrom-more, Generate-all}
use Rattle.tract_classes.proofs.generators.generators.Goals as goal

pub loop-k-preserved-in-Ok-1 : goal.loop-k-preserved-in-Ok-1
loop-k-preserved-in-Ok-1 c =
    let class = c.args.class.now in
    let items = c.members-members.result.now in
    let k = c.loop-k.k - 1 in
    let value : items ≡ class = c.members-members.ensures.value in
    let before : GenerateFrom class (k + 1) c.loop-k.sets.items = subst (λ j. GenerateFrom class j c.loop-k.sets.items) (omega arith) c.loop-k.invariant in
    let below : k < length class = omega (arith, ap length value, c.loop-k.auto.k) in
    subst (GenerateFrom class k) (sym c.in-Ok.ensures.items)
    (GenerateFrom-more class k c.loop-k.sets.items before (get_or items k 0) (ap (λ xs. get_or xs k 0) value) below (c.type_inv.members k).fits)

pub returns : goal.returns
returns c =
    Generate-all c.args.class.now c.loop-k.sets.items (subst (λ j. GenerateFrom c.args.class.now j c.loop-k.sets.items) (omega (arith, c.loop-k-test.false)) c.loop-k.invariant)
