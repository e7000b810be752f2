-- End points of lists of intervals, and how many lie below a number.
use Rattle.std.proofs.Common.{◌≡◌, ℕ, zero, suc, ◌+◌, ◌<◌, ◌≤◌, Bool, true, false, cond, eqb, ◌||◌, List}
use Rattle.std.proofs.Common.{length, get_or, refl, ◌∙◌, ap, subst, arith, inl, inr}
use Rattle.std.specs.List.{count_by, range_with_len}
use Rattle.std.proofs.lemmas.Bool.{cases_eq, or_left, or_right, or_cases, eqb-true, eq-eqb}
use Rattle.std.proofs.lemmas.List.{get_or_default}
use Rattle.std.proofs.lemmas.List.Sums.{sum_by-cons, count_by-le-length}
use Rattle.std.proofs.lemmas.List.FromFn.{length-range_with_len}
use Rattle.std.proofs.lemmas.List.Folds.{list_any_at, Any-from_list_any}
use Rattle.allen_real.proofs.Steps.{step-above, step-passes, step-le}
use Rattle.allen_real.specs.declared.intervals.Interval.{Interval}
use Rattle.allen_real.specs.EndPoints.{no_interval, end_of}
use Rattle.allen_real.specs.Realisation.{interval_at, is_end_point, rank, AreRanks}

-- ---- how many numbers of a range pass a test

abbrev counted : (ℕ → Bool) → ℕ → ℕ → ℕ
counted test a n = count_by test (range_with_len a n)

counted-suc : (test : ℕ → Bool) (a n : ℕ) → counted test a (suc n) ≡ cond (test a) 1 0 + counted test (a + 1) n
counted-suc test a n = sum_by-cons (λ x. cond (test x) 1 0) a (range_with_len (a + 1) n)

counted-le : (test : ℕ → Bool) (a n : ℕ) → counted test a n ≤ n
counted-le test a n = omega (arith, count_by-le-length test (range_with_len a n), length-range_with_len a n)

all-counted : (test : ℕ → Bool) (a n : ℕ) → ((q : ℕ) → a ≤ q → q < a + n → test q ≡ true) → n ≤ counted test a n
all-counted test a zero h = omega arith
all-counted test a (suc n) h =
    let first = step-above (test a) (h a (omega arith) (omega arith)) in
    let rest = all-counted test (a + 1) n (λ q low high. h q (omega arith) (omega arith)) in
    omega (arith, counted-suc test a n, first, rest)

counted-all : (test : ℕ → Bool) (a n q : ℕ) → n ≤ counted test a n → a ≤ q → q < a + n → test q ≡ true
counted-all test a zero q h low high = absurd (omega arith)
counted-all test a (suc n) q h low high = elim (cases_eq a q) [
  | inl e ↦ (let first : 1 ≤ cond (test a) 1 0 = omega (arith, counted-suc test a n, counted-le test (a + 1) n) in
      subst (λ k. test k ≡ true) e (step-passes (test a) first))
  | inr d ↦ (let rest : n ≤ counted test (a + 1) n = omega (arith, counted-suc test a n, step-le (test a)) in
      counted-all test (a + 1) n q rest (omega arith) (omega arith))
]

-- a number is its rank where each number below it is an end point, and then alone
pub rank-from_each : (xs : List Interval) (p : ℕ) → ((q : ℕ) → q < p → is_end_point xs q ≡ true) → p ≡ rank xs p
rank-from_each xs p h =
    let all = all-counted (is_end_point xs) 0 p (λ q low high. h q (omega arith)) in
    omega (arith, all, counted-le (is_end_point xs) 0 p)

rank-each : (xs : List Interval) (p q : ℕ) → p ≡ rank xs p → q < p → is_end_point xs q ≡ true
rank-each xs p q e h = counted-all (is_end_point xs) 0 p q (omega (arith, e)) (omega arith) (omega arith)

-- ---- end points

pub record IsEndAt (xs : List Interval) (p : ℕ) : Type 0 where
  pub node : ℕ
  pub within : node < length xs
  pub is_end : Bool
  pub is : end_of (interval_at xs node) is_end ≡ p

pub end_point-at : (xs : List Interval) (i : ℕ) (is_end : Bool) → i < length xs →
    is_end_point xs (end_of (interval_at xs i) is_end) ≡ true
end_point-at xs i false h =
    let p = (interval_at xs i).low in
    list_any_at (λ x. eqb x.lo p || eqb x.hi p) xs i no_interval h (or_left _ _ (eq-eqb p p refl))
end_point-at xs i true h =
    let p = (interval_at xs i).high in
    list_any_at (λ x. eqb x.lo p || eqb x.hi p) xs i no_interval h (or_right _ _ (eq-eqb p p refl))

pub is_end-at : (xs : List Interval) (p : ℕ) → is_end_point xs p ≡ true → IsEndAt xs p
is_end-at xs p h =
    let found = Any-from_list_any (λ x. eqb x.lo p || eqb x.hi p) xs h in
    let i = found.0 in
    let x = found.1 in
    let same : get_or xs i no_interval ≡ x = get_or_default xs i no_interval x found.2 ∙ found.3 in
    elim (or_cases (eqb x.lo p) (eqb x.hi p) found.4) [
      | inl e ↦ record { node = i; within = found.2; is_end = false; is = ap (λ x. x.lo) same ∙ eqb-true x.lo p e }
      | inr e ↦ record { node = i; within = found.2; is_end = true; is = ap (λ x. x.hi) same ∙ eqb-true x.hi p e }
    ]

rank-end : (xs : List Interval) (i : ℕ) (is_end : Bool) → AreRanks xs → i < length xs →
    end_of (interval_at xs i) is_end ≡ rank xs (end_of (interval_at xs i) is_end)
rank-end xs i false r h = r.low i h
rank-end xs i true r h = r.high i h

-- each number below a rank is a rank
pub ranks-no_gap : (xs : List Interval) (p q : ℕ) → AreRanks xs → is_end_point xs p ≡ true → q < p →
    is_end_point xs q ≡ true
ranks-no_gap xs p q r h l =
    let e = is_end-at xs p h in
    rank-each xs p q (subst (λ k. k ≡ rank xs k) e.is (rank-end xs e.node e.is_end r e.within)) l
