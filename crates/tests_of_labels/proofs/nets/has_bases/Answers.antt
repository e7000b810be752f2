use Rattle.std.proofs.Common.{◌≡◌, ◌^◌, ap, ◌∙◌, arith, inl, inr}
use Rattle.std.proofs.lemmas.Bool.{cases_lt}
use Rattle.split_search.proofs.FirstEdges.{is_inside}
use Rattle.tests_of_labels.proofs.nets.has_bases.Goals as goal

pub loop-r-preserved : goal.loop-r-preserved
loop-r-preserved c q l = elim (cases_lt q c.loop-r.r) [
  | inl h ↦ c.loop-r.invariant q h
  | inr ge ↦ (let e : c.loop-r.r ≡ q = omega arith in
      let single = c.single.ensures ∙ ap (λ j. 2 ^ j) e in
      is_inside c.args.class.now c.has.result c.single.result (2 ^ q) c.has.ensures c.if-not-has.false single)
]
