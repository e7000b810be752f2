use Rattle.std.proofs.Common.{◌≡◌, ◌+◌, ◌-◌, ap, sym, ◌∙◌, arith, w64, inl, inr}
use Rattle.std.specs.Prelude.{slice_index}
use Rattle.std.proofs.lemmas.Bool.{cases_lt, cases_eq}
use Rattle.std.proofs.lemmas.Nat.Bits.{bit_at-trailing_zeros}
use Rattle.compose_fast.proofs.kernels.first_difference.Goals as goal

pub returns-then-gaps-ne0 : goal.returns-then-gaps-ne0
returns-then-gaps-ne0 c =
    let a = c.args.a.now in
    let b = c.args.b.now in
    let i = c.loop-i.i in
    let gaps = c.differing_at-gaps.result in
    let least = bit_at-trailing_zeros w64 gaps (let some = c.if-gaps-ne0.true in omega arith) c.differing_at-gaps.type_inv in
    let small = c.differing_at-gaps.ensures.below _ least.1 in
    record {
      below = omega arith;
      here = (c.differing_at-gaps.ensures.lanes _ small).0 least.1;
      before = λ k l. elim (cases_lt k i) [
        | inl low ↦ c.loop-i.invariant.same k low
        | inr high ↦ elim (cases_eq (slice_index a k) (slice_index b k)) [
          | inl same ↦ same
          | inr differ ↦
              (let at : i + (k - i) ≡ k = omega arith in
              let set = (c.differing_at-gaps.ensures.lanes (k - i) (omega arith)).1 (λ e. differ (ap (slice_index a) (sym at) ∙ e ∙ ap (slice_index b) at)) in
              let none = least.2 (k - i) (omega arith) in
              absurd (omega arith))
        ]
      ];
    }
