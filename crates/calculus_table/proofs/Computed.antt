-- From tests that compute to the laws of a table.
use Rattle.std.proofs.Common.{◌≡◌, ℕ, zero, suc, ◌<◌, Bool, true, not, eqb, List, [], length, get_or, sym, ◌∙◌, ap, arith, inl, inr}
use Rattle.std.proofs.lemmas.Bool.{and_parts, or_cases, ltb-true, leb-true, eqb-true, eq-eqb, not-true, true≢false, cases_lt}
use Rattle.std.specs.Prelude.{◌↔◌}
use Rattle.std.specs.Int.{bit_at}
use Rattle.std.proofs.lemmas.Slice.Eq.{bytes_eq-Decides}
use Rattle.std.proofs.lemmas.Option.{slice_get-get_or}
use Rattle.std.proofs.lemmas.Nat.Bits.{bit_at_above}
use Rattle.calculus_table.specs.Rel.{Has, IsWithin}
use Rattle.calculus_table.specs.Algebra.{Algebra, converse_at, entry_at}
use Rattle.calculus_table.specs.Composition.{full_of}
use Rattle.calculus_table.specs.Calculus.{IsTable, IsCalculus, InvolutionAt, IdentityAt, AreDistinct}
use Rattle.calculus_table.specs.Checked.{each_below, is_entry_within, is_row_within, is_converse_below, has_shape, obeys_involution, obeys_identity, obeys_converse, obeys_cycle, each_third, each_pair, each_triple, is_other_name, is_new_name, are_distinct}
use Rattle.calculus_table.proofs.Members.{Has-full}

-- ---- tests of every number below a bound

pub each_below-at : (n : ℕ) (test : ℕ → Bool) (k : ℕ) → each_below n test ≡ true → k < n → test k ≡ true
each_below-at zero test k e h = absurd (omega arith)
each_below-at (suc n) test k e h =
    let p = and_parts (test n) (each_below n test) e in
    elim (cases_lt k n) [
      | inl l ↦ each_below-at n test k p.1 l
      | inr g ↦ (let same : k ≡ n = omega arith in ap test same ∙ p.0)
    ]

pub each_triple-at : (m : Algebra) (test : ℕ → ℕ → ℕ → Bool) → each_triple m test ≡ true → (r s t : ℕ) → r < m.size → s < m.size → t < m.size → test r s t ≡ true
each_triple-at m test e r s t hr hs ht =
    each_below-at m.size (test r s) t (each_below-at m.size (each_third m test r) s (each_below-at m.size (each_pair m test) r e hr) hs) ht

-- ---- the shape

entry-within : (m : Algebra) (r s : ℕ) → is_entry_within m r s ≡ true → IsWithin (entry_at m r s) (full_of m)
entry-within m r s e = record {
  each = λ t h. elim (cases_lt t m.size) [
    | inl l ↦ Has-full m t l
    | inr g ↦ absurd (omega (arith, bit_at_above (entry_at m r s) m.size t (ltb-true _ _ e) g))
  ];
}

-- a table that passes the test has the right shape
pub IsTable-from_test : (m : Algebra) → has_shape m ≡ true → IsTable m
IsTable-from_test m e =
    let p = and_parts _ (each_below m.size (is_row_within m)) e in
    let q = and_parts _ (each_below m.size (is_converse_below m)) p.0 in
    let u = and_parts _ _ q.0 in
    let v = and_parts _ _ u.0 in
    let w = and_parts _ _ v.0 in
    let x = and_parts _ _ w.0 in
    record {
      some = ltb-true _ _ x.0;
      bounded = leb-true _ _ x.1;
      identity_below = ltb-true _ _ w.1;
      converses_length = eqb-true _ _ v.1;
      table_length = eqb-true _ _ u.1;
      converse_below = λ r h. ltb-true _ _ (each_below-at m.size (is_converse_below m) r q.1 h);
      entry_within = λ r s h k. entry-within m r s (each_below-at m.size (is_entry_within m r) s (each_below-at m.size (is_row_within m) r p.1 h) k);
    }

-- ---- the laws

involution-at : (m : Algebra) (r : ℕ) → obeys_involution m r ≡ true → InvolutionAt m r
involution-at m r e =
    let p = and_parts _ _ e in
    record {
      twice = eqb-true _ _ p.0;
      identity = λ same. elim (or_cases (not (eqb r m.identity)) (eqb (converse_at m r) r) p.1) [
        | inl x ↦ absurd (true≢false (sym (eq-eqb r m.identity same) ∙ not-true (eqb r m.identity) x))
        | inr y ↦ eqb-true _ _ y
      ];
    }

identity-at : (m : Algebra) (r : ℕ) → obeys_identity m r ≡ true → IdentityAt m r
identity-at m r e = let p = and_parts _ _ e in record { left = eqb-true _ _ p.0; right = eqb-true _ _ p.1 }

same_member : (a b t u : ℕ) → eqb (bit_at a t) (bit_at b u) ≡ true → Has a t ↔ Has b u
same_member a b t u e = let p : bit_at a t ≡ bit_at b u = eqb-true _ _ e in (λ h. sym p ∙ h, λ h. p ∙ h)

-- a table that passes the tests is a calculus
pub IsCalculus-from_tests : (m : Algebra) → has_shape m ≡ true → each_below m.size (obeys_involution m) ≡ true → each_below m.size (obeys_identity m) ≡ true → each_triple m (obeys_converse m) ≡ true → each_triple m (obeys_cycle m) ≡ true → IsCalculus m
IsCalculus-from_tests m shape involution identity converse cycle = record {
  table = IsTable-from_test m shape;
  involution = λ r h. involution-at m r (each_below-at m.size (obeys_involution m) r involution h);
  identity = λ r h. identity-at m r (each_below-at m.size (obeys_identity m) r identity h);
  converse = λ r s t hr hs ht. same_member _ _ _ _ (each_triple-at m (obeys_converse m) converse r s t hr hs ht);
  cycle = λ r s t hr hs ht. same_member _ _ _ _ (each_triple-at m (obeys_cycle m) cycle r s t hr hs ht);
}

-- ---- the names

-- names that pass the test are distinct
pub AreDistinct-from_test : (names : List (List ℕ)) → are_distinct names ≡ true → AreDistinct names
AreDistinct-from_test names e j k l h same =
    let here = slice_get-get_or names k [] h in
    let there = slice_get-get_or names j [] (omega arith) in
    let equal : get_or names j [] ≡ get_or names k [] = cc in
    let other = each_below-at k (is_other_name names k) j (each_below-at (length names) (is_new_name names) k e h) l in
    true≢false (sym ((bytes_eq-Decides (get_or names j []) (get_or names k [])).1 equal) ∙ not-true _ other)
