use Rattle.std.proofs.Common.{◌≡◌, ℕ, List, ◌/◌, ◌%◌, length, get_or, ap, ◌∙◌, subst, arith, inl, inr}
use Rattle.std.specs.Prelude.{bit_and, bit_or, slice_index}
use Rattle.std.proofs.lemmas.Bool.{false≢true, cases_lt}
use Rattle.std.proofs.lemmas.Nat.{and_mask}
use Rattle.tract_classes.specs.Turned.{looked_up, HasLookedUp}
use Rattle.tract_classes.proofs.FirstMembers.{is_member, is_none}
use Rattle.tract_classes.proofs.compositions.has_looked_up.Goals as goal

-- what is looked up for a member
looked : (low high class items : List ℕ) (j : ℕ) → items ≡ class →
    bit_or (slice_index low (bit_and (get_or items j 0) 255)) (slice_index high (bit_and (get_or items j 0 / 256) 255)) ≡ looked_up low high (slice_index class j)
looked low high class items j e =
    let a : ℕ = get_or items j 0 in
    ap (λ k. bit_or (slice_index low k) (slice_index high (bit_and (a / 256) 255))) (and_mask a 8)
    ∙ ap (λ k. bit_or (slice_index low (a % 256)) (slice_index high k)) (and_mask (a / 256) 8) ∙ ap (λ xs. looked_up low high (get_or xs j 0)) e

pub returns-then-not-has : goal.returns-then-not-has
returns-then-not-has c =
    let class = c.args.class.now in
    let low = c.args.low.now in
    let high = c.args.high.now in
    let items = c.members-members.result.now in
    let j = c.loop-j.j in
    let none = is_none class c.has.result c.of.result (looked_up low high (slice_index class j)) c.has.ensures c.if-not-has.true
    (c.of.ensures ∙ looked low high class items j c.members-members.ensures.value) in
    (λ e. absurd (false≢true e), λ all. absurd (none (all j (omega (arith, c.loop-j.auto.j)) (omega (arith, ap length c.members-members.ensures.value, c.loop-j-test.true)))))

pub loop-j-preserved : goal.loop-j-preserved
loop-j-preserved c =
    let class = c.args.class.now in
    let low = c.args.low.now in
    let high = c.args.high.now in
    let items = c.members-members.result.now in
    let j = c.loop-j.j in
    let here : HasLookedUp class low high (slice_index class j) = is_member class c.has.result c.of.result (looked_up low high (slice_index class j)) c.has.ensures c.if-not-has.false
    (c.of.ensures ∙ looked low high class items j c.members-members.ensures.value) in
    λ i le below. elim (cases_lt i j) [
      | inl less ↦ c.loop-j.invariant i le less
      | inr ge ↦ (let e : j ≡ i = omega arith in subst (λ k. HasLookedUp class low high (slice_index class k)) e here)
    ]
