-- The ranks of end points among six lie as the end points do, so intervals among six end points show every way to lie.
use Rattle.std.proofs.Common.{◌≡◌, ℕ, ◌+◌, ◌<◌, ◌≤◌, Bool, cond, ◌&&◌, ltb, eqb, List, [], ◌∷◌, length, refl, sym, ◌∙◌, ap, subst, arith, inl, inr}
use Rattle.std.proofs.lemmas.Bool.{lt-ltb, le-ltb, eq-eqb, ne_eqb, cases_lt, cases_order}
use Rattle.std.proofs.lemmas.Bool.Decides.{nat_tests}
use Rattle.calculus_builtin.specs.Allen.{Interval, interval, LieBy, ComposesByRule, holds}
use Rattle.calculus_builtin.proofs.Unions.{Listed}
use Rattle.calculus_builtin.proofs.Numbers.{each_number-at}

-- ---- ranks

-- 1 where p lies below q, else 0
abbrev pub step : ℕ → ℕ → ℕ
step p q = cond (ltb p q) 1 0

-- how many elements of the list lie below q
abbrev pub rank : List ℕ → ℕ → ℕ
rank [] q = 0
rank (p ∷ ps) q = step p q + rank ps q

step-mono : (p u v : ℕ) → u ≤ v → step p u ≤ step p v
step-mono p u v h = grind (arith, nat_tests)

step-le : (p q : ℕ) → step p q ≤ 1
step-le p q = grind (arith, nat_tests)

step-self : (p : ℕ) → step p p ≡ 0
step-self p = grind (arith, nat_tests)

step-lt : (p q : ℕ) → p < q → step p q ≡ 1
step-lt p q h = grind (arith, nat_tests)

rank-mono : (ps : List ℕ) (u v : ℕ) → u ≤ v → rank ps u ≤ rank ps v
rank-mono [] u v h = omega arith
rank-mono (p ∷ ps) u v h = omega (arith, step-mono p u v h, rank-mono ps u v h)

rank-le : (ps : List ℕ) (v : ℕ) → rank ps v ≤ length ps
rank-le [] v = omega arith
rank-le (p ∷ ps) v = omega (arith, step-le p v, rank-le ps v)

rank-strict : (ps : List ℕ) (u v : ℕ) → Listed u ps → u < v → rank ps u < rank ps v
rank-strict [] u v l h = absurd l
rank-strict (p ∷ ps) u v l h = elim l [
  | inl e ↦ (let here : step p u ≡ 0 = subst (λ q. step q u ≡ 0) e (step-self u) in
      let there : step p v ≡ 1 = subst (λ q. step q v ≡ 1) e (step-lt u v h) in
      omega (arith, here, there, rank-mono ps u v (omega arith)))
  | inr rest ↦ omega (arith, step-mono p u v (omega arith), rank-strict ps u v rest h)
]

rank-bound : (ps : List ℕ) (v : ℕ) → Listed v ps → rank ps v < length ps
rank-bound [] v l = absurd l
rank-bound (p ∷ ps) v l = elim l [
  | inl e ↦ (let here : step p v ≡ 0 = subst (λ q. step q v ≡ 0) e (step-self v) in omega (arith, here, rank-le ps v))
  | inr rest ↦ omega (arith, step-le p v, rank-bound ps v rest)
]

rank-ltb : (ps : List ℕ) (u v : ℕ) → Listed u ps → ltb (rank ps u) (rank ps v) ≡ ltb u v
rank-ltb ps u v l = elim (cases_lt u v) [
  | inl h ↦ lt-ltb _ _ (rank-strict ps u v l h) ∙ sym (lt-ltb u v h)
  | inr h ↦ le-ltb _ _ (rank-mono ps v u h) ∙ sym (le-ltb u v h)
]

rank-eqb : (ps : List ℕ) (u v : ℕ) → Listed u ps → Listed v ps → eqb (rank ps u) (rank ps v) ≡ eqb u v
rank-eqb ps u v l k = elim (cases_order u v) [
  | inl e ↦ eq-eqb _ _ (ap (rank ps) e) ∙ sym (eq-eqb u v e)
  | inr other ↦ elim other [
    | inl h ↦ (let less = rank-strict ps u v l h in ne_eqb _ _ (λ e. omega arith) ∙ sym (ne_eqb u v (λ e. omega arith)))
    | inr h ↦ (let less = rank-strict ps v u k h in ne_eqb _ _ (λ e. omega arith) ∙ sym (ne_eqb u v (λ e. omega arith)))
  ]
]

-- ---- two end points compare as their ranks

pub record Compares (p q u v : ℕ) : Type 0 where
  pub lt : ltb p q ≡ ltb u v
  pub gt : ltb q p ≡ ltb v u
  pub eq : eqb p q ≡ eqb u v
  pub qe : eqb q p ≡ eqb v u

compared : (ps : List ℕ) (u v : ℕ) → Listed u ps → Listed v ps → Compares (rank ps u) (rank ps v) u v
compared ps u v l k = record {
  lt = rank-ltb ps u v l;
  gt = rank-ltb ps v u k;
  eq = rank-eqb ps u v l k;
  qe = rank-eqb ps v u k l;
}

-- two pairs of intervals whose end points compare alike
pub record Alike (x y v w : Interval) : Type 0 where
  pub lows : Compares x.low y.low v.low w.low
  pub low_high : Compares x.low y.high v.low w.high
  pub high_low : Compares x.high y.low v.high w.low
  pub highs : Compares x.high y.high v.high w.high

and-same : (a b c d : Bool) → a ≡ b → c ≡ d → (a && c) ≡ (b && d)
and-same a b c d e f = ap (λ k. k && c) e ∙ ap (λ k. b && k) f

-- a rule holds alike of intervals that lie alike
holds-alike : (x y v w : Interval) → Alike x y v w → (r : ℕ) → r < 13 → holds r x y ≡ holds r v w
holds-alike x y v w a = each_number-at 13 (λ r. holds r x y ≡ holds r v w) (
  a.low_high.gt,
  (
    a.low_high.qe,
    (
      and-same _ _ _ _ (and-same _ _ _ _ a.lows.gt a.low_high.lt) a.highs.gt,
      (
        and-same _ _ _ _ a.lows.gt a.highs.eq,
        (
          and-same _ _ _ _ a.lows.gt a.highs.lt,
          (
            and-same _ _ _ _ a.lows.qe a.highs.gt,
            (
              and-same _ _ _ _ a.lows.eq a.highs.eq,
              (
                and-same _ _ _ _ a.lows.eq a.highs.lt,
                (
                  and-same _ _ _ _ a.lows.lt a.highs.gt,
                  (
                    and-same _ _ _ _ a.lows.lt a.highs.qe,
                    (
                      and-same _ _ _ _ (and-same _ _ _ _ a.lows.lt a.high_low.gt) a.highs.lt,
                      (
                        a.high_low.eq,
                        (a.high_low.lt, tt),
                      ),
                    ),
                  ),
                ),
              ),
            ),
          ),
        ),
      ),
    ),
  ),
)

-- ---- intervals by the ranks of their end points

abbrev pub ranked : List ℕ → Interval → Interval
ranked ps x = interval (rank ps x.low) (rank ps x.high)

-- both end points are listed
pub record HasEnds (ps : List ℕ) (x : Interval) : Type 0 where
  pub low : Listed x.low ps
  pub high : Listed x.high ps

ranked-alike : (ps : List ℕ) (x y : Interval) → HasEnds ps x → HasEnds ps y → Alike (ranked ps x) (ranked ps y) x y
ranked-alike ps x y l k = record {
  lows = compared ps x.low y.low l.low k.low;
  low_high = compared ps x.low y.high l.low k.high;
  high_low = compared ps x.high y.low l.high k.low;
  highs = compared ps x.high y.high l.high k.high;
}

ranked-within : (ps : List ℕ) (x : Interval) → length ps ≡ 6 → HasEnds ps x → (ranked ps x).high ≤ 5
ranked-within ps x six l = omega (arith, rank-bound ps x.high l.high, six)

-- any three intervals lie as three intervals among six end points
pub ComposesByRule-ranked : (r s t : ℕ) (x y z : Interval) → r < 13 → s < 13 → t < 13 → LieBy r s t x y z → ComposesByRule r s t
ComposesByRule-ranked r s t x y z hr hs ht lie =
    let ps : List ℕ = x.low ∷ x.high ∷ y.low ∷ y.high ∷ z.low ∷ z.high ∷ [] in
    let xs : HasEnds ps x = record { low = inl refl; high = inr (inl refl) } in
    let ys : HasEnds ps y = record { low = inr (inr (inl refl)); high = inr (inr (inr (inl refl))) } in
    let zs : HasEnds ps z = record { low = inr (inr (inr (inr (inl refl)))); high = inr (inr (inr (inr (inr (inl refl))))) } in
    record {
      x = ranked ps x;
      y = ranked ps y;
      z = ranked ps z;
      x_within = ranked-within ps x refl xs;
      y_within = ranked-within ps y refl ys;
      z_within = ranked-within ps z refl zs;
      lie = record {
        x_proper = rank-strict ps x.low x.high xs.low lie.x_proper;
        y_proper = rank-strict ps y.low y.high ys.low lie.y_proper;
        z_proper = rank-strict ps z.low z.high zs.low lie.z_proper;
        first = holds-alike (ranked ps x) (ranked ps y) x y (ranked-alike ps x y xs ys) r hr ∙ lie.first;
        second = holds-alike (ranked ps y) (ranked ps z) y z (ranked-alike ps y z ys zs) s hs ∙ lie.second;
        third = holds-alike (ranked ps x) (ranked ps z) x z (ranked-alike ps x z xs zs) t ht ∙ lie.third;
      };
    }
