use Rattle.std.proofs.Common.{◌≡◌, ◌^◌, ap, ◌∙◌, arith, inl, inr}
use Rattle.std.proofs.lemmas.Bool.{cases_lt}
use Rattle.tract_classes.proofs.FirstMembers.{is_member}
use Rattle.tests_of_calculus_files.proofs.classes.has_bases.Goals as goal

pub loop-r-preserved : goal.loop-r-preserved
loop-r-preserved c q l = elim (cases_lt q c.loop-r.r) [
  | inl h ↦ c.loop-r.invariant q h
  | inr ge ↦ (let e : c.loop-r.r ≡ q = omega arith in
      is_member c.args.class.now c.has.result c.single.result (2 ^ q) c.has.ensures c.if-not-has.false (c.single.ensures ∙ ap (λ j. 2 ^ j) e))
]
