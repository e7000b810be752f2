use Rattle.std.proofs.Common.{◌≡◌, ◌<◌, length, get_or, refl, ap, ◌∙◌, subst, arith, inl, inr}
use Rattle.std.proofs.lemmas.Bool.{false≢true, both_ways, cases_lt}
use Rattle.tract_classes.specs.Turned.{EachFrom, HasTurned, IsTableOf}
use Rattle.tract_classes.proofs.TurnedSets.{from_looked_up, to_looked_up, pairs-from_turned, turned-from_pairs}
use Rattle.tract_classes.proofs.compositions.has_each_composition.Goals as goal

pub returns-then-not-has_looked_up : goal.returns-then-not-has_looked_up
returns-then-not-has_looked_up g c =
    let m = g.C.Compose.algebra c.args.c.now in
    let class = c.args.class.now in
    let items = c.members-members.result.now in
    let k = c.loop-k.k in
    let value = c.members-members.ensures.value in
    let b : c.of-b.result ≡ get_or class k 0 = c.of-b.ensures ∙ ap (λ xs. get_or xs k 0) value in
    let low : IsTableOf m (get_or class k 0) 0 c.fill.new.table = subst (λ x. IsTableOf m x 0 c.fill.new.table) b c.fill.ensures in
    let high : IsTableOf m (get_or class k 0) 8 c.fill-in-loop-k.new.table = subst (λ x. IsTableOf m x 8 c.fill-in-loop-k.new.table) b c.fill-in-loop-k.ensures in
    let below : k < length class = omega (arith, ap length value, c.loop-k-test.true) in (
      λ e. absurd (false≢true e),
      λ pairs. absurd (both_ways c.has_looked_up.result c.if-not-has_looked_up.true (c.has_looked_up.ensures.1
          (to_looked_up m class (get_or class k 0) k c.fill.new.table c.fill-in-loop-k.new.table c.lawful.ensures.table c.requires.few c.requires.sets low high
          (turned-from_pairs m class c.lawful.ensures c.requires.sets c.requires.converse pairs k below)))),
    )

pub loop-k-preserved : goal.loop-k-preserved
loop-k-preserved g c =
    let m = g.C.Compose.algebra c.args.c.now in
    let class = c.args.class.now in
    let k = c.loop-k.k in
    let value = c.members-members.ensures.value in
    let b : c.of-b.result ≡ get_or class k 0 = c.of-b.ensures ∙ ap (λ xs. get_or xs k 0) value in
    let low : IsTableOf m (get_or class k 0) 0 c.fill.new.table = subst (λ x. IsTableOf m x 0 c.fill.new.table) b c.fill.ensures in
    let high : IsTableOf m (get_or class k 0) 8 c.fill-in-loop-k.new.table = subst (λ x. IsTableOf m x 8 c.fill-in-loop-k.new.table) b c.fill-in-loop-k.ensures in
    let here : EachFrom class k (HasTurned m class (get_or class k 0)) =
    from_looked_up m class (get_or class k 0) k c.fill.new.table c.fill-in-loop-k.new.table c.lawful.ensures.table c.requires.few c.requires.sets low high
    (c.has_looked_up.ensures.0 c.if-not-has_looked_up.false) in
    λ i l. elim (cases_lt i k) [
      | inl less ↦ c.loop-k.invariant i less
      | inr ge ↦ (let e : k ≡ i = omega arith in subst (λ j. EachFrom class j (HasTurned m class (get_or class j 0))) e here)
    ]

pub returns : goal.returns
returns g c =
    let m = g.C.Compose.algebra c.args.c.now in
    let class = c.args.class.now in (
      λ _. pairs-from_turned m class c.lawful.ensures c.requires.sets c.requires.converse
          (λ i l. c.loop-k.invariant i (omega (arith, ap length c.members-members.ensures.value, c.loop-k-test.false, l))),
      λ _. refl,
    )
