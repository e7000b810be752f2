use Rattle.std.proofs.Common.{◌≡◌, ◌<◌, ◌+◌, length, get_or, sym, ap, subst, ◌∙◌, arith, inl, inr}
use Rattle.std.specs.Prelude.{count_ones}
use Rattle.std.proofs.lemmas.Bool.{both_ways, cases_lt}
use Rattle.calculus_table.specs.Rel.{IsWithin}
use Rattle.tract_classes.proofs.LargestMembers.{IsLargestBefore, IsLargestBefore-none, IsLargestBefore-kept, IsLargestBefore-next, IsLargestBefore-all}
use Rattle.tract_classes.proofs.partition.largest_among.Goals.{then-is_larger_within, else-is_larger_within}
use Rattle.tract_classes.proofs.partition.largest_among.Goals as goal

pub loop-word-init : goal.loop-word-init
loop-word-init c = IsLargestBefore-none c.args.class.now c.members-word-items.ensures.class c.args.rel

pub loop-word-preserved : goal.loop-word-preserved
loop-word-preserved c =
    let class = c.args.class.now in
    let items = c.members-word-items.result.now in
    let k = c.loop-word.word-index in
    let value : items ≡ class = c.members-word-items.ensures.value in
    let below : k < length class = subst (λ xs. k < length xs) value c.loop-word-test.true in
    let x : c.of-member.result ≡ get_or class k 0 = c.of-member.ensures ∙ ap (λ xs. get_or xs k 0) value in
    elim c.if-is_larger_within.branch [
      | then-is_larger_within w ↦ (
          let both = c.is_larger_within.ensures.0 w.if-is_larger_within.true in
          subst (λ a. IsLargestBefore class c.args.rel (k + 1) a) (sym (w.largest-is ∙ x))
          (IsLargestBefore-next class c.members-word-items.ensures.class c.args.rel k c.loop-word.largest below c.loop-word.invariant
          (subst (λ a. IsWithin a c.args.rel) x both.0) (subst (λ a. count_ones c.loop-word.largest < count_ones a) x both.1)))
      | else-is_larger_within w ↦ (
          subst (λ a. IsLargestBefore class c.args.rel (k + 1) a) (sym w.largest-is)
          (IsLargestBefore-kept class c.members-word-items.ensures.class c.args.rel k c.loop-word.largest below c.loop-word.invariant
          (λ within. elim (cases_lt (count_ones c.loop-word.largest) (count_ones (get_or class k 0))) [
            | inl more ↦ absurd (both_ways c.is_larger_within.result w.if-is_larger_within.false (c.is_larger_within.ensures.1
                (subst (λ a. IsWithin a c.args.rel) (sym x) within, subst (λ a. count_ones c.loop-word.largest < count_ones a) (sym x) more)))
            | inr fewer ↦ fewer
          ])))
    ]

pub returns : goal.returns
returns c =
    let class = c.args.class.now in
    let all : c.loop-word.word-index ≡ length class = omega (arith, ap length c.members-word-items.ensures.value, c.loop-word-test.false, c.loop-word.auto.word-index-end) in
    IsLargestBefore-all class c.members-word-items.ensures.class c.args.rel c.loop-word.largest
    (subst (λ k. IsLargestBefore class c.args.rel k c.loop-word.largest) all c.loop-word.invariant)
