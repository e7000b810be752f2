-- Rings are built edge by edge.
use Rattle.std.proofs.Common.{◌≡◌, ◌≢◌, refl, sym, ap, ◌∙◌, subst, arith, inl, inr, ℕ, ◌+◌, ◌≤◌, List, [], ◌∷◌, ◌++◌, length, Bool, true, false}
use Rattle.std.specs.Prelude.{IsTrue, ◌↔◌, ◌&&◌}
use Rattle.std.specs.Ordering.{int_eq}
use Rattle.std.proofs.lemmas.Cmp.{int_eq_equiv}
use lib.IntN.{ℤ}
use Rattle.std.proofs.lemmas.Bool.{false≢true, cases_lt}
use Rattle.std.proofs.lemmas.List.{get_or_push, get_or_append_left, length-append}
use Rattle.poly_exact.specs.declared.points.Point.{Point}
use Rattle.poly_exact.specs.Rings.{vertex}
use Rattle.poly_exact.specs.Small.{IsSmall}
use Rattle.poly_exact.specs.Located.{AreSmall}
use Rattle.poly_exact.specs.West.{IsWest}
use Rattle.poly_exact.specs.Built.{AreFlags, AreSmallTo}

pub flags_none : (vs : List Point) (xs : List Bool) → xs ≡ [] → AreFlags vs xs 0
flags_none vs xs e = record { many = ap length e; sides = λ e h. absurd (omega arith) }

pub flags_more : (vs : List Point) (xs ys : List Bool) (k : ℕ) (t : Bool) → ys ≡ xs ++ t ∷ [] → IsWest vs k t → AreFlags vs xs k → AreFlags vs ys (k + 1)
flags_more vs xs ys k t e w h = subst (λ z. AreFlags vs z (k + 1)) (sym e) (record {
  many = (let m = h.many in let l = length-append xs (t ∷ []) in let o : length (t ∷ []) ≡ 1 = refl in omega arith);
  sides = λ i b. elim (cases_lt i k) [
    | inl x ↦ (let m = h.many in subst (λ u. IsWest vs i u) (sym (get_or_append_left xs (t ∷ []) false i (omega arith))) (h.sides i x))
    | inr x ↦ (let m = h.many in let q : i ≡ k = omega arith in subst (λ u. IsWest vs i u) (sym (get_or_push xs t false i (m ∙ sym q))) (subst (λ j. IsWest vs j t) (sym q) w))
  ];
})

pub flags_end : (vs : List Point) (xs : List Bool) (k : ℕ) → length vs ≤ k → k ≤ length vs → AreFlags vs xs k → AreFlags vs xs (length vs)
flags_end vs xs k a b h = let i : k ≡ length vs = omega arith in subst (λ j. AreFlags vs xs j) i h

-- ---- tests of all vertices

pub small_of : (t : Bool) (p : Type 0) → IsTrue t ↔ p → t ≡ true → p
small_of t p h e = h.0 e

pub large_of : (t : Bool) (p : Type 0) → IsTrue t ↔ p → t ≡ false → p → ⊥
large_of t p h e x = false≢true (sym e ∙ h.1 x)

pub small_none : (vs : List Point) → AreSmallTo vs 0
small_none vs = record { each = λ k h. absurd (omega arith) }

pub small_more : (vs : List Point) (k : ℕ) → IsSmall (vertex vs k) → AreSmallTo vs k → AreSmallTo vs (k + 1)
small_more vs k s h = record { each = λ j b. elim (cases_lt j k) [ inl x ↦ h.each j x | inr x ↦ (let q : j ≡ k = omega arith in subst (λ i. IsSmall (vertex vs i)) (sym q) s) ] }

pub small_end : (vs : List Point) (k : ℕ) → length vs ≤ k → AreSmallTo vs k → AreSmall vs
small_end vs k l h = record { each = λ j b. h.each j (omega arith) }

int_same : (x : ℤ) → int_eq x x ≡ true
int_same x = int_eq_equiv.refl x

pub differ : (a b : Point) → (int_eq a.x b.x && int_eq a.y b.y) ≡ false → a ≢ b
differ a b f e =
    let g : (int_eq a.x a.x && int_eq a.y a.y) ≡ false = (λ i. int_eq a.x (e i).x && int_eq a.y (e i).y) ∙ f in
    false≢true (sym g ∙ (λ i. int_same a.x i && int_same a.y i))
