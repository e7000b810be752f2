use Rattle.std.proofs.Common.{◌≡◌, ◌+◌, ◌-◌, ap, ◌∙◌, arith, w64, inl, inr}
use Rattle.std.specs.Prelude.{slice_index}
use Rattle.std.proofs.lemmas.Bool.{cases_lt}
use Rattle.std.proofs.lemmas.Nat.Bits.{bit_at-trailing_zeros}
use Rattle.compose_fast.proofs.kernels.first_zero.Goals as goal

pub returns-then-zeros-ne0 : goal.returns-then-zeros-ne0
returns-then-zeros-ne0 c =
    let a = c.args.a.now in
    let i = c.loop-i.i in
    let zeros = c.zeros_at-zeros.result in
    let least = bit_at-trailing_zeros w64 zeros (let some = c.if-zeros-ne0.true in omega arith) c.zeros_at-zeros.type_inv in
    let small = c.zeros_at-zeros.ensures.below _ least.1 in
    record {
      below = omega arith;
      here = (c.zeros_at-zeros.ensures.lanes _ small).0 least.1;
      before = λ k l. elim (cases_lt k i) [
        | inl low ↦ c.loop-i.invariant k low
        | inr high ↦ λ e.
            (let at : i + (k - i) ≡ k = omega arith in
            let set = (c.zeros_at-zeros.ensures.lanes (k - i) (omega arith)).1 (ap (slice_index a) at ∙ e) in
            let none = least.2 (k - i) (omega arith) in
            absurd (omega arith))
      ];
    }
