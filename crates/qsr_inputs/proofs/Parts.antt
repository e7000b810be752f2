-- Parts of the input one after another.
use Rattle.std.proofs.Common.{◌≡◌, Result, Ok, Err, refl, subst, inl, inr}
use Rattle.qsr_inputs.specs.Stops.{Cause}
use Rattle.qsr_inputs.specs.Parts.{Then, Passes, IsOne}

-- ---- one value or one cause

pub same_value : {A : Type 0} (a b : A) (x y : Result A Cause) → x ≡ Ok a → y ≡ Ok b → x ≡ y → a ≡ b
same_value a b x y p q e = cc

pub value_or_cause : {A : Type 0} (a : A) (c : Cause) (x y : Result A Cause) → x ≡ Ok a → y ≡ Err c → x ≡ y → ⊥
value_or_cause a c x y p q e = cc

same_cause : {A B : Type 0} (c d : Cause) (x y : Result A Cause) (z w : Result B Cause) → x ≡ Err c → y ≡ Err d → z ≡ Err c → w ≡ Err d → x ≡ y → z ≡ w
same_cause c d x y z w p q r s e = cc

module _ {A B : Type 0} (P : Result A Cause → Type 0) (Q : A → Result B Cause → Type 0) (first : IsOne P) (second : (a : A) → IsOne (Q a)) where
  passed_once : (x y : Result B Cause) → Passes P Q x → Passes P Q y → x ≡ y
  passed_once x y p q =
      let same : p.value ≡ q.value = same_value p.value q.value (Ok p.value) (Ok q.value) refl refl (first (Ok p.value) (Ok q.value) p.first q.first) in
      second q.value x y (subst (λ a. Q a x) same p.second) q.second

  stopped_or_passed : (c : Cause) (x : Result B Cause) → P (Err c) → Passes P Q x → ⊥
  stopped_or_passed c x h p = value_or_cause p.value c (Ok p.value) (Err c) refl refl (first (Ok p.value) (Err c) p.first h)

  stopped_once : (c d : Cause) (z w : Result B Cause) → z ≡ Err c → w ≡ Err d → P (Err c) → P (Err d) → z ≡ w
  stopped_once c d z w r s h k = same_cause c d (Err c) (Err d) z w refl refl r s (first (Err c) (Err d) h k)

  pub Then-one : IsOne (Then P Q)
  Then-one (Ok a) (Ok b) p q = passed_once (Ok a) (Ok b) p q
  Then-one (Ok a) (Err d) p q = elim q [
    | inl h ↦ absurd (stopped_or_passed d (Ok a) h p)
    | inr k ↦ passed_once (Ok a) (Err d) p k
  ]
  Then-one (Err c) (Ok b) p q = elim p [
    | inl h ↦ absurd (stopped_or_passed c (Ok b) h q)
    | inr k ↦ passed_once (Err c) (Ok b) k q
  ]
  Then-one (Err c) (Err d) p q = elim p [
    | inl h ↦ elim q [ inl k ↦ stopped_once c d (Err c) (Err d) refl refl h k | inr k ↦ absurd (stopped_or_passed c (Err d) h k) ]
    | inr h ↦ elim q [ inl k ↦ absurd (stopped_or_passed d (Err c) k h) | inr k ↦ passed_once (Err c) (Err d) h k ]
  ]
