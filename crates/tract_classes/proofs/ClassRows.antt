-- The map of a class.
use Rattle.std.proofs.Common.{◌≡◌, ◌≢◌, ℕ, ◌+◌, ◌*◌, ◌/◌, ◌%◌, ◌^◌, ◌<◌, ◌≤◌, List, [], ◌∷◌, ◌++◌, length, get_or, set, replicate, refl, sym, ap, ◌∙◌, subst, arith, ◌⊎◌, inl, inr, Result, Ok, Err}
use Rattle.std.specs.Prelude.{Contains, bit_or, ◌↔◌, IsTrue, is_ok}
use Rattle.std.specs.Ordering.{nat_cmp}
use Rattle.std.specs.List.Sorted.{IsStrictlyIncreasing, IsBinarySearchResult}
use Rattle.std.proofs.lemmas.Bool.{cases_eq, false≢true}
use Rattle.std.proofs.lemmas.Nat.{div-add-mod', div-mul-add, mod-mul-add, mod_below}
use Rattle.std.proofs.lemmas.List.{get_or-set_same, get_or-set_other, length-set, get_or-replicate, length-replicate}
use Rattle.std.proofs.lemmas.List.Elements.{Contains-append_left, Contains-push, Contains-push_cases}
use Rattle.calculus_table.specs.Rel.{Has}
use Rattle.calculus_table.proofs.Sets.{Has-union, Has-union_l, Has-union_r, Has-single, not_Has-empty}
use Rattle.calculus_table.proofs.Members.{single-member}
use Rattle.tract_classes.specs.Kept.{AreRowsOf}
use Rattle.tract_classes.proofs.Ascending.{Contains-at, place_found, gap_found, not_in_gap}

-- the row and the place of a set
in_row : (a k r : ℕ) → r < 64 → a ≡ k * 64 + r → (a / 64 ≡ k) × (a % 64 ≡ r)
in_row a k r h e = (ap (λ n. n / 64) e ∙ div-mul-add k 64 r h, ap (λ n. n % 64) e ∙ mod-mul-add k 64 r h)

-- no row has a set of none
pub AreRowsOf-none : (n : ℕ) → AreRowsOf [] (replicate n 0)
AreRowsOf-none n = record {
  each = λ k r below _.
      let e : get_or (replicate n 0) k 0 ≡ 0 = get_or-replicate n k 0 0 (omega (arith, length-replicate {A = ℕ} n 0)) in
      (λ h. absurd (not_Has-empty r (subst (λ w. Has w r) e h)), λ c. absurd (omega (arith, c.1)));
}

module _ (sets rows : List ℕ) (a : ℕ) (are : AreRowsOf sets rows) where
  -- a set beyond the rows
  pub AreRowsOf-beyond : length rows ≤ a / 64 → AreRowsOf (sets ++ a ∷ []) rows
  AreRowsOf-beyond beyond = record {
    each = λ k r below small. (
      λ h. Contains-append_left sets (a ∷ []) (k * 64 + r) ((are.each k r below small).0 h),
      λ c. elim (Contains-push_cases sets a (k * 64 + r) c) [
        | inl d ↦ (are.each k r below small).1 d
        | inr e ↦ absurd (omega (arith, (in_row a k r small e).0))
      ],
    );
  }

  -- a set added to its row
  pub AreRowsOf-added : a / 64 < length rows → AreRowsOf (sets ++ a ∷ []) (set rows (a / 64) (bit_or (get_or rows (a / 64) 0) (2 ^ (a % 64))))
  AreRowsOf-added inside = record { each = λ k r below small. added k r (subst (λ n. k < n) (length-set rows (a / 64) new) below) small (cases_eq k (a / 64)) }
    where
      new : ℕ
      new = bit_or (get_or rows (a / 64) 0) (2 ^ (a % 64))

      added : (k r : ℕ) → k < length rows → r < 64 → (k ≡ a / 64) ⊎ (k ≢ a / 64) →
          Has (get_or (set rows (a / 64) new) k 0) r ↔ Contains (sets ++ a ∷ []) (k * 64 + r)
      added k r below small (inl e) =
          let row : get_or (set rows (a / 64) new) k 0 ≡ bit_or (get_or rows k 0) (2 ^ (a % 64)) =
          subst (λ j. get_or (set rows (a / 64) new) j 0 ≡ bit_or (get_or rows j 0) (2 ^ (a % 64))) (sym e) (get_or-set_same rows (a / 64) new 0 inside) in (
            λ h. elim (Has-union (get_or rows k 0) (2 ^ (a % 64)) r (subst (λ w. Has w r) row h)) [
              | inl old ↦ Contains-append_left sets (a ∷ []) (k * 64 + r) ((are.each k r below small).0 old)
              | inr at ↦ (let s : a ≡ k * 64 + r = sym (div-add-mod' a 64) ∙ ap (λ j. j * 64 + a % 64) (sym e) ∙ ap (λ j. k * 64 + j) (sym (single-member (a % 64) r at)) in
                  subst (Contains (sets ++ a ∷ [])) s (Contains-push sets a))
            ],
            λ c. subst (λ w. Has w r) (sym row) (elim (Contains-push_cases sets a (k * 64 + r) c) [
              | inl old ↦ Has-union_l (get_or rows k 0) (2 ^ (a % 64)) r ((are.each k r below small).1 old)
              | inr s ↦ Has-union_r (get_or rows k 0) (2 ^ (a % 64)) r (subst (λ j. Has (2 ^ j) r) (sym (in_row a k r small s).1) (Has-single r))
            ]),
          )
      added k r below small (inr ne) =
          let row : get_or (set rows (a / 64) new) k 0 ≡ get_or rows k 0 = get_or-set_other rows (a / 64) k new 0 ne in (
            λ h. Contains-append_left sets (a ∷ []) (k * 64 + r) ((are.each k r below small).0 (subst (λ w. Has w r) row h)),
            λ c. subst (λ w. Has w r) (sym row) (elim (Contains-push_cases sets a (k * 64 + r) c) [
              | inl old ↦ (are.each k r below small).1 old
              | inr s ↦ absurd (ne (sym (in_row a k r small s).0))
            ]),
          )

-- ---- look-ups

-- in its row
pub in_its_row : (sets rows : List ℕ) (a : ℕ) → AreRowsOf sets rows → a / 64 < length rows → Has (get_or rows (a / 64) 0) (a % 64) ↔ Contains sets a
in_its_row sets rows a are inside =
    let f = are.each (a / 64) (a % 64) inside (mod_below a 64 (omega arith)) in
    let e : a / 64 * 64 + a % 64 ≡ a = div-add-mod' a 64 in
    (λ h. subst (Contains sets) e (f.0 h), λ c. f.1 (subst (Contains sets) (sym e) c))

-- by halves
pub by_halves : (xs : List ℕ) (a : ℕ) (r : Result ℕ ℕ) → IsStrictlyIncreasing xs → IsBinarySearchResult (λ y. nat_cmp y a) xs r → IsTrue (is_ok r) ↔ Contains xs a
by_halves xs a (Ok i) h s = let place = place_found xs a i h s in (λ _. Contains-at xs i a place.0 place.1, λ _. refl)
by_halves xs a (Err i) h s = (λ e. absurd (false≢true e), λ c. absurd (not_in_gap xs i a (gap_found xs a i h s) c))
