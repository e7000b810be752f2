use Rattle.std.proofs.Common.{◌≡◌, ◌∙◌, refl, sym, subst, slice_get, Some, inl, inr, arith}
use Rattle.std.proofs.lemmas.Bool.{cases_lt}
use Rattle.std.proofs.lemmas.Option.{slice_get_read, slice_get_within, same_Some}
use Rattle.refutation.specs.TreeFault.{IsFormed}
use Rattle.refutation.proofs.forms.check_forms.Goals as goal

pub loop-x-preserved : goal.loop-x-preserved
loop-x-preserved c =
    let nodes = c.args.nodes.now in
    let x = c.loop-x.x in
    let node = c.index-nodes-x.result in
    let there : slice_get nodes x ≡ Some node = slice_get_read nodes _ x node refl (omega arith) c.index-nodes-x.is in
    let formed : IsFormed c.args.size nodes x node = record { form = c.has_form.ensures.0 c.if-not-has_form.false; steps = c.in_default-bad_step_of.ensures } in
    λ y other below at. elim (cases_lt y x) [
      | inl less ↦ c.loop-x.invariant y other less at
      | inr more ↦
          (let e : x ≡ y = omega arith in
          let same : node ≡ other = same_Some node other (sym there ∙ subst (λ k. slice_get nodes k ≡ Some other) (sym e) at) in
          subst (λ k. IsFormed c.args.size nodes k other) e (subst (IsFormed c.args.size nodes x) same formed))
    ]

pub returns : goal.returns
returns c =
    λ x node at. (let below = slice_get_within c.args.nodes.now x node at in c.loop-x.invariant x node (omega arith) at)
