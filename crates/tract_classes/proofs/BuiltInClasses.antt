-- The classes that are built in.
use Rattle.std.proofs.Common.{◌≡◌, ℕ, suc, ◌+◌, ◌^◌, ◌<◌, ◌≤◌, Bool, true, List, [], ◌∷◌, length, get_or, map, refl, subst, sym, ap, ◌∙◌, arith, inl, inr}
use Rattle.std.specs.Prelude.{Contains, filter}
use Rattle.std.specs.List.{range_with_len}
use Rattle.std.specs.List.Sorted.{IsStrictlyIncreasing}
use Rattle.std.proofs.lemmas.Bool.{agree_below_at, cases_Bool, cond-true, cond-false}
use Rattle.std.proofs.lemmas.Nat.{pow_below}
use Rattle.std.proofs.lemmas.List.Kept.{IsStrictlyIncreasing-filter}
use Rattle.std.proofs.lemmas.List.FromFn.{length-range_with_len, get_or-range_with_len, length-map-range_with_len, get_or-map-range_with_len}
use Rattle.calculus_table.specs.Calculus.{EachBase}
use Rattle.calculus_builtin.specs.Rcc8.{rcc8_calculus}
use Rattle.tract_classes.specs.Class.{IsClass, HasBase}
use Rattle.tract_classes.specs.BuiltIn.{is_in, members, h8, c8, q8, singles, HaveBases, SinglesHaveBases}
use Rattle.tract_classes.specs.declared.built_in.Rcc8Class.{Rcc8Class}
use Rattle.tract_classes.specs.declared.built_in.Rcc8Class.TheVariants.{H8, C8, Q8}
use Rattle.tract_classes.proofs.Ascending.{Contains-at, Contains-cons, Contains-cons_cases, increasing_cons}

-- ---- numbers that pass a test

length-filter_le : (p : ℕ → Bool) (xs : List ℕ) → length (filter p xs) ≤ length xs
length-filter_le p [] = omega arith
length-filter_le p (x ∷ xs) = elim (cases_Bool (p x)) [
  | inl t ↦ subst (λ ys. length ys ≤ suc (length xs)) (sym (cond-true (p x) (x ∷ filter p xs) (filter p xs) t)) (omega (arith, length-filter_le p xs))
  | inr f ↦ subst (λ ys. length ys ≤ suc (length xs)) (sym (cond-false (p x) (x ∷ filter p xs) (filter p xs) f)) (omega (arith, length-filter_le p xs))
]

Contains-filter : (p : ℕ → Bool) (xs : List ℕ) (a : ℕ) → Contains xs a → p a ≡ true → Contains (filter p xs) a
Contains-filter p [] a c t = absurd (omega (arith, c.1))
Contains-filter p (x ∷ xs) a c t = elim (Contains-cons_cases x xs a c) [
  | inl e ↦ subst (λ ys. Contains ys a) (sym (cond-true (p x) (x ∷ filter p xs) (filter p xs) (ap p e ∙ t))) (Contains-at (x ∷ filter p xs) 0 a (omega arith) e)
  | inr d ↦ elim (cases_Bool (p x)) [
    | inl u ↦ subst (λ ys. Contains ys a) (sym (cond-true (p x) (x ∷ filter p xs) (filter p xs) u)) (Contains-cons x (filter p xs) a (Contains-filter p xs a d t))
    | inr f ↦ subst (λ ys. Contains ys a) (sym (cond-false (p x) (x ∷ filter p xs) (filter p xs) f)) (Contains-filter p xs a d t)
  ]
]

Contains-range : (n a : ℕ) → a < n → Contains (range_with_len 0 n) a
Contains-range n a h = Contains-at (range_with_len 0 n) a a (omega (arith, length-range_with_len 0 n)) (get_or-range_with_len 0 n a 0 h ∙ omega arith)

range_increasing : (n : ℕ) → IsStrictlyIncreasing (range_with_len 0 n)
range_increasing n k l = omega (
  arith,
  length-range_with_len 0 n,
  get_or-range_with_len 0 n k 0 (omega (arith, length-range_with_len 0 n)),
  get_or-range_with_len 0 n (k + 1) 0 (omega (arith, length-range_with_len 0 n)),
)

-- ---- classes of RCC-8

empty_in : (which : Rcc8Class) → is_in which 0 ≡ true
empty_in H8 = refl
empty_in C8 = refl
empty_in Q8 = refl

pub members-class : (which : Rcc8Class) → IsClass (members which)
members-class which = record {
  ascending = IsStrictlyIncreasing-filter (is_in which) (range_with_len 0 256) (range_increasing 256);
  empty = Contains-filter (is_in which) (range_with_len 0 256) 0 (Contains-range 256 0 (omega arith)) (empty_in which);
  few = omega (arith, length-filter_le (is_in which) (range_with_len 0 256), length-range_with_len 0 256);
}

base_in : (which : Rcc8Class) (r : ℕ) → r < 8 → is_in which (2 ^ r) ≡ true
base_in H8 r h = agree_below_at (λ r. is_in H8 (2 ^ r)) (λ _. true) 8 r refl h
base_in C8 r h = agree_below_at (λ r. is_in C8 (2 ^ r)) (λ _. true) 8 r refl h
base_in Q8 r h = agree_below_at (λ r. is_in Q8 (2 ^ r)) (λ _. true) 8 r refl h

rcc8_bases : (which : Rcc8Class) → EachBase rcc8_calculus.algebra (HasBase (members which))
rcc8_bases which r h = Contains-filter (is_in which) (range_with_len 0 256) (2 ^ r) (Contains-range 256 (2 ^ r) (pow_below r 8 h)) (base_in which r h)

pub have_bases : HaveBases
have_bases = record { h8_bases = rcc8_bases H8; c8_bases = rcc8_bases C8; q8_bases = rcc8_bases Q8 }

pub h8-class : IsClass h8
h8-class = members-class H8

pub c8-class : IsClass c8
c8-class = members-class C8

pub q8-class : IsClass q8
q8-class = members-class Q8

-- ---- single base relations

pub singles-class : (n : ℕ) → n ≤ 64 → IsClass (singles n)
singles-class n h = record {
  ascending = increasing_cons 0 rest (λ some. omega (arith, at 0 (omega (arith, many)))) (λ k l.
      omega (arith, at k (omega (arith, many)), at (k + 1) (omega (arith, many)), pow_below k (k + 1) (omega arith)));
  empty = Contains-at (0 ∷ rest) 0 0 (omega arith) refl;
  few = omega (arith, many);
}
  where
    rest : List ℕ
    rest = map (λ r. 2 ^ r) (range_with_len 0 n)

    many : length rest ≡ n
    many = length-map-range_with_len (λ r. 2 ^ r) 0 n

    at : (k : ℕ) → k < n → get_or rest k 0 ≡ 2 ^ k
    at k l = get_or-map-range_with_len (λ r. 2 ^ r) 0 n k k 0 l (omega arith)

pub singles_bases : SinglesHaveBases
singles_bases n r h =
    Contains-cons 0 (map (λ r. 2 ^ r) (range_with_len 0 n)) (2 ^ r)
    (Contains-at (map (λ r. 2 ^ r) (range_with_len 0 n)) r (2 ^ r) (omega (arith, length-map-range_with_len (λ r. 2 ^ r) 0 n))
    (get_or-map-range_with_len (λ r. 2 ^ r) 0 n r r 0 h (omega arith)))
