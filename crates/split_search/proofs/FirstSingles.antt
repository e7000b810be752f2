-- The single base relations of a set begin with the least one.
use Rattle.std.proofs.Common.{◌≡◌, ℕ, zero, suc, ◌+◌, ◌^◌, ◌<◌, ◌≤◌, Bool, cond, true, false, List, ◌∷◌, map, ap, ◌∙◌}
use Rattle.std.proofs.Common.{arith, inl, inr}
use Rattle.std.specs.Prelude.{filter, ◌==◌}
use Rattle.std.specs.Int.{bit_at}
use Rattle.std.specs.List.{range_with_len}
use Rattle.std.proofs.lemmas.Bool.{cases_eq, eq-eqb, ne_eqb}
use Rattle.split_search.specs.Ruled.{singles_in}
use Rattle.tract_classes.specs.Straight.{IsLeast}

-- the numbers of a range that pass a test begin with the first one that does
first_passing : (test : ℕ → Bool) (a k r : ℕ) → a ≤ r → r < a + k → test r ≡ true →
    ((t : ℕ) → a ≤ t → t < r → test t ≡ false) → (rest : List ℕ) × (filter test (range_with_len a k) ≡ r ∷ rest)
first_passing test a zero r low high here before = absurd (omega arith)
first_passing test a (suc k) r low high here before = elim (cases_eq a r) [
  | inl e ↦ (let rest = filter test (range_with_len (a + 1) k) in
      (rest, ap (λ b. cond b (a ∷ rest) rest) (ap test e ∙ here) ∙ ap (λ x. x ∷ rest) e))
  | inr ne ↦ (let rest = filter test (range_with_len (a + 1) k) in
      let more = first_passing test (a + 1) k r (omega arith) (omega arith) here
      (λ t l h. before t (omega arith) h) in
      (more.0, ap (λ b. cond b (a ∷ rest) rest) (before a (omega arith) (omega arith)) ∙ more.1))
]

pub first_single : (n a r : ℕ) → r < n → IsLeast a r → (rest : List ℕ) × (singles_in n a ≡ 2 ^ r ∷ rest)
first_single n a r below least =
    let test : ℕ → Bool = λ t. bit_at a t == 1 in
    let found = first_passing test 0 n r (omega arith) (omega arith) (eq-eqb (bit_at a r) 1 least.here)
    (λ t l h. ne_eqb (bit_at a t) 1 (λ has. omega (arith, h, least.least t has))) in
    (map (λ t. 2 ^ t) found.0, ap (map (λ t. 2 ^ t)) found.1)
