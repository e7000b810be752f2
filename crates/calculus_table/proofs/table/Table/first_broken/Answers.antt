use Rattle.std.proofs.Common.{◌≡◌, subst, arith, inl, inr}
use Rattle.std.proofs.lemmas.Bool.{cases_lt}
use Rattle.calculus_table.specs.TripleLaw.{ObeysAt}
use Rattle.calculus_table.proofs.table.Table.first_broken.Goals as goal

pub loop-r-preserved : goal.loop-r-preserved
loop-r-preserved c = λ r s t less below below2. elim (cases_lt r c.loop-r.r) [
  | inl before ↦ c.loop-r.invariant r s t before below below2
  | inr last ↦ (let e : c.loop-r.r ≡ r = omega arith in
      subst (λ k. ObeysAt c.args.law c.args.self.now k s t) e (c.in_default.ensures s t below below2))
]
