-- The largest member within a set.
use Rattle.std.proofs.Common.{◌≡◌, ◌≢◌, ℕ, ◌+◌, ◌<◌, ◌≤◌, List, length, get_or, refl, sym, ap, subst, ◌∙◌, arith, inl, inr, ◌⊎◌}
use Rattle.std.specs.Prelude.{Contains, count_ones}
use Rattle.std.proofs.lemmas.Bool.{cases_lt, cases_eq}
use Rattle.calculus_table.specs.Rel.{IsWithin}
use Rattle.calculus_table.proofs.Sets.{IsWithin-empty}
use Rattle.tract_classes.specs.Class.{IsClass}
use Rattle.tract_classes.specs.Parts.{ComesAfter, IsLargestWithin}
use Rattle.tract_classes.proofs.Ascending.{at_place, Contains-at, less_later}

-- a is a member within the set, and the first k members that are within it come after it
pub record IsLargestBefore (class : List ℕ) (set k a : ℕ) : Type 0 where
  pub member : Contains class a
  pub within : IsWithin a set
  pub largest : (j : ℕ) → j < k → IsWithin (get_or class j 0) set → get_or class j 0 ≢ a → ComesAfter a (get_or class j 0)
  pub earlier : (j : ℕ) → k ≤ j → j < length class → (a ≡ 0) ⊎ (a < get_or class j 0)

module _ (class : List ℕ) (is : IsClass class) (set : ℕ) where
  -- no member was looked at
  pub IsLargestBefore-none : IsLargestBefore class set 0 0
  IsLargestBefore-none = record {
    member = is.empty;
    within = IsWithin-empty set;
    largest = λ j l. absurd (omega arith);
    earlier = λ j le below. inl (omega arith);
  }

  -- the next member isn't within the set, or has no more base relations
  pub IsLargestBefore-kept : (k a : ℕ) → k < length class → IsLargestBefore class set k a →
      (IsWithin (get_or class k 0) set → count_ones (get_or class k 0) ≤ count_ones a) → IsLargestBefore class set (k + 1) a
  IsLargestBefore-kept k a below h fewer = record {
    member = h.member;
    within = h.within;
    largest = λ j l w ne. elim (cases_lt j k) [
      | inl before ↦ h.largest j before w ne
      | inr g ↦ (let e : k ≡ j = omega arith in subst (λ i. ComesAfter a (get_or class i 0)) e (after (subst (λ i. IsWithin (get_or class i 0) set) (sym e) w)
          (subst (λ i. get_or class i 0 ≢ a) (sym e) ne)))
    ];
    earlier = λ j le inside. h.earlier j (omega arith) inside;
  }
    where
      after : IsWithin (get_or class k 0) set → get_or class k 0 ≢ a → ComesAfter a (get_or class k 0)
      after w ne = elim (cases_lt (count_ones (get_or class k 0)) (count_ones a)) [
        | inl less ↦ inl less
        | inr ge ↦ inr (omega (arith, fewer w), elim (h.earlier k (omega arith) below) [ inl e ↦ omega (arith, ne) | inr l ↦ l ])
      ]

  -- the next member is within the set, and has more base relations
  pub IsLargestBefore-next : (k a : ℕ) → k < length class → IsLargestBefore class set k a → IsWithin (get_or class k 0) set →
      count_ones a < count_ones (get_or class k 0) → IsLargestBefore class set (k + 1) (get_or class k 0)
  IsLargestBefore-next k a below h within more = record {
    member = Contains-at class k (get_or class k 0) below refl;
    within = within;
    largest = λ j l w ne. elim (cases_lt j k) [
      | inl before ↦ inl (fewer j before w (cases_eq (get_or class j 0) a))
      | inr g ↦ (let e : j ≡ k = omega arith in absurd (ne (ap (λ i. get_or class i 0) e)))
    ];
    earlier = λ j le inside. inr (less_later class is.ascending k j (omega arith) inside);
  }
    where
      fewer : (j : ℕ) → j < k → IsWithin (get_or class j 0) set → (get_or class j 0 ≡ a) ⊎ (get_or class j 0 ≢ a) →
          count_ones (get_or class j 0) < count_ones (get_or class k 0)
      fewer j before w (inl e) = subst (λ x. count_ones x < count_ones (get_or class k 0)) (sym e) more
      fewer j before w (inr ne) = elim (h.largest j before w ne) [ inl l ↦ omega arith | inr (same, l) ↦ omega arith ]

  -- all members were looked at
  pub IsLargestBefore-all : (a : ℕ) → IsLargestBefore class set (length class) a → IsLargestWithin class set a
  IsLargestBefore-all a h = record {
    member = h.member;
    within = h.within;
    largest = λ b c w ne. subst (ComesAfter a) (at_place class b c) (h.largest c.0 c.1 (subst (λ x. IsWithin x set) (sym (at_place class b c)) w) (λ e. ne (sym (at_place class b c) ∙ e)));
  }
