-- Ruled steps: there are some for each network, and no others, and they lead to the closure.
use Rattle.std.proofs.Common.{◌≡◌, ◌≢◌, ◌⊎◌, ℕ, zero, suc, ◌+◌, ◌<◌, ◌==◌, ◌||◌, Bool, true, false, not, List, [], ◌∷◌, ◌++◌, length, sum, refl, sym, ◌∙◌, ap, subst, arith, inl, inr, append_assoc, zero-add, if◌then◌else◌, nat_lt}
use Rattle.std.specs.Prelude.{slice_index, All, Contains}
use Rattle.std.proofs.lemmas.Bool.{cases_lt, cases_eq, lt-ltb, ltb-true, eqb-true, eq-eqb}
use Rattle.std.proofs.lemmas.Bool.Decides.{eqb_tells}
use Rattle.std.proofs.lemmas.List.Elements.{All-nil, All-cons, All-head, All-tail, All-append}
use Rattle.std.proofs.lemmas.Grind.{same_number_lists}
use Rattle.calculus_table.specs.Algebra.{Algebra}
use Rattle.calculus_table.specs.Calculus.{IsCalculus}
use Rattle.calculus_table.specs.Composition.{composition}
use Rattle.network_words.specs.Edge.{edge_between, IsProperTriple}
use Rattle.network_words.specs.Network.{IsNetwork, Refines, relation_between}
use Rattle.network_words.specs.Closure.{IsClosedAt, IsClosed, KeepsClosed, IsClosure}
use Rattle.network_words.proofs.Networks.{length-narrowed_at, narrowed_at-within}
use Rattle.network_words.proofs.Refinements.{sum-smaller, narrowed_at-other, KeepsClosed-refl, KeepsClosed-trans, KeepsClosed-along, IsClosedAt-along, IsClosed-pairs, IsClosure-kept, IsNetwork-kept}
use Rattle.split_trees.specs.declared.tree.Step.{Step}
use Rattle.split_trees.specs.Refutes.{after_step, after_steps}
use Rattle.stepped_networks.specs.RuledSteps.{steps_below, steps_along, steps_of_edge, steps_from, all_steps, narrows, made_among, passes_of, AreRuledSteps, NoneEmptyBefore, AreCutSteps}
use Rattle.stepped_networks.proofs.ListEnds.{head-same, tail-same, append-nil}

-- ---- all steps

module _ (P : Step → Type 0) where
  All-below : (f : ℕ → List Step) (n : ℕ) → ((k : ℕ) → k < n → All P (f k)) → All P (steps_below f n)
  All-below f zero h = All-nil P
  All-below f (suc n) h = All-append P (steps_below f n) (f n) (All-below f n (λ k l. h k (omega arith))) (h n (omega arith))

  pub All-front : (xs ys : List Step) → All P (xs ++ ys) → All P xs
  All-front [] ys h = All-nil P
  All-front (x ∷ xs) ys h = All-cons P x xs (All-head P x (xs ++ ys) h) (All-front xs ys (All-tail P x (xs ++ ys) h))

  All-back : (xs ys : List Step) → All P (xs ++ ys) → All P ys
  All-back [] ys h = h
  All-back (x ∷ xs) ys h = All-back xs ys (All-tail P x (xs ++ ys) h)

  All-at : (f : ℕ → List Step) (n k : ℕ) → k < n → All P (steps_below f n) → All P (f k)
  All-at f zero k l h = absurd (omega arith)
  All-at f (suc n) k l h = elim (cases_lt k n) [
    | inl less ↦ All-at f n k less (All-front (steps_below f n) (f n) h)
    | inr not_less ↦ (let same : n ≡ k = omega arith in subst (λ q. All P (f q)) same (All-back (steps_below f n) (f n) h))
  ]

abbrev pub IsProperStep : ℕ → Step → Type 0
IsProperStep n step = IsProperTriple n step.i step.j step.k

-- each is of three different nodes
pub all_steps-proper : (n : ℕ) → All (IsProperStep n) (all_steps n)
unfolding all_steps
all_steps-proper n = All-below (IsProperStep n) (steps_from n) n (λ i l. All-below (IsProperStep n) (steps_of_edge n i) n (λ k h. of_edge i k (nat_lt i k) refl l h))
  where
    along : (i k j : ℕ) (b d : Bool) → (j == i) ≡ b → (j == k) ≡ d → i < k → k < n → j < n → All (IsProperStep n) (if b || d then [] else record { i = i; j = j; k = k } ∷ [])
    along i k j true d e f o l h = All-nil (IsProperStep n)
    along i k j false true e f o l h = All-nil (IsProperStep n)
    along i k j false false e f o l h = All-cons (IsProperStep n) (record { i = i; j = j; k = k }) [] (record {
      first_below = omega arith;
      second_below = h;
      third_below = l;
      first_second = λ same. (let t = eq-eqb j i (sym same) in cc);
      second_third = λ same. (let t = eq-eqb j k same in cc);
      first_third = omega arith;
    }) (All-nil (IsProperStep n))

    of_edge : (i k : ℕ) (b : Bool) → nat_lt i k ≡ b → i < n → k < n → All (IsProperStep n) (if b then steps_below (steps_along i k) n else [])
    of_edge i k true e l h = All-below (IsProperStep n) (steps_along i k) n (λ j q. along i k j (j == i) (j == k) refl refl (ltb-true i k e) h q)
    of_edge i k false e l h = All-nil (IsProperStep n)

-- what holds of all steps holds of each for an edge
step-among : (n i j k : ℕ) (P : Step → Type 0) → IsProperTriple n i j k → i < k → All P (all_steps n) → P (record { i = i; j = j; k = k })
unfolding all_steps
step-among n i j k P t o h =
    let from : All P (steps_from n i) = All-at P (steps_from n) n i t.first_below h in
    let edge : All P (steps_of_edge n i k) = All-at P (steps_of_edge n i) n k t.third_below from in
    let below : All P (steps_below (steps_along i k) n) = subst (λ b. All P (if b then steps_below (steps_along i k) n else [])) (lt-ltb i k o) edge in
    let along : All P (steps_along i k j) = All-at P (steps_along i k) n j t.second_below below in
    All-head P _ [] (subst (λ b. All P (if b || false then [] else record { i = i; j = j; k = k } ∷ [])) (not_same j i (λ e. t.first_second (sym e)))
    (subst (λ b. All P (if (j == i) || b then [] else record { i = i; j = j; k = k } ∷ [])) (not_same j k t.second_third) along))
  where
    not_same : (a b : ℕ) → a ≢ b → (a == b) ≡ false
    not_same a b ne = elim (eqb_tells a b) [ inl same ↦ absurd (ne same.1) | inr other ↦ other.0 ]

some-or-none : (xs : List Step) → (xs ≡ []) ⊎ (xs ≢ [])
some-or-none [] = inl refl
some-or-none (x ∷ xs) = inr (λ e. cc)

-- ---- steps that make nothing less

module _ (m : Algebra) (n : ℕ) where
  length-after_step : (words : List ℕ) (step : Step) → length (after_step m n words step) ≡ length words
  length-after_step words step =
      length-narrowed_at m n words step.i step.k (composition m (relation_between m n words step.i step.j) (relation_between m n words step.j step.k))

  after_step-refines : (words : List ℕ) (step : Step) → Refines (after_step m n words step) words
  after_step-refines words step =
      narrowed_at-within m n words step.i step.k (composition m (relation_between m n words step.i step.j) (relation_between m n words step.j step.k))

  pub after_step-same : (words : List ℕ) (step : Step) → narrows m n words step ≡ false → after_step m n words step ≡ words
  after_step-same words step e =
      same_number_lists (after_step m n words step) words (length-after_step words step) (λ d _. elim (cases_eq d (edge_between n step.i step.k)) [
        | inl here ↦ subst (λ q. slice_index (after_step m n words step) q ≡ slice_index words q) (sym here) (eqb-true _ _ (not-false _ e))
        | inr other ↦ narrowed_at-other m n words step.i step.k (composition m (relation_between m n words step.i step.j) (relation_between m n words step.j step.k)) d other
      ])
    where
      not-false : (b : Bool) → not b ≡ false → b ≡ true
      not-false true h = refl
      not-false false h = cc

  -- where the set of the step isn't empty after it, none becomes empty
  pub after_step-none : (words : List ℕ) (step : Step) → ¬ Contains words 0 → slice_index (after_step m n words step) (edge_between n step.i step.k) ≢ 0 →
      ¬ Contains (after_step m n words step) 0
  after_step-none words step none some = λ c. elim (cases_eq c.0 (edge_between n step.i step.k)) [
    | inl here ↦ some (subst (λ q. slice_index (after_step m n words step) q ≡ 0) here c.2)
    | inr other ↦ none (c.0, omega (arith, c.1, length-after_step words step), sym (narrowed_at-other m n words step.i step.k (composition m (relation_between m n words step.i step.j) (relation_between m n words step.j step.k)) c.0 other) ∙ c.2)
  ]

  pub after_step-empty : (words : List ℕ) (step : Step) → edge_between n step.i step.k < length words → slice_index (after_step m n words step) (edge_between n step.i step.k) ≡ 0 →
      Contains (after_step m n words step) 0
  after_step-empty words step below e = (edge_between n step.i step.k, omega (arith, below, length-after_step words step), e)

  after_step-less : (words : List ℕ) (step : Step) → narrows m n words step ≡ true → sum (after_step m n words step) < sum words
  after_step-less words step e =
      sum-smaller (after_step m n words step) words (length-after_step words step) (after_step-refines words step)
      (λ same. (let t = eq-eqb (slice_index (after_step m n words step) (edge_between n step.i step.k)) (slice_index words (edge_between n step.i step.k)) (ap (λ ws. slice_index ws (edge_between n step.i step.k)) same) in
      not-true _ e t))
    where
      not-true : (b : Bool) → not b ≡ true → b ≡ true → ⊥
      not-true true h g = cc
      not-true false h g = cc

  -- ---- steps among others

  pub after-append : (words : List ℕ) (xs ys : List Step) → after_steps m n words (xs ++ ys) ≡ after_steps m n (after_steps m n words xs) ys
  after-append words [] ys = refl
  after-append words (x ∷ xs) ys = after-append (after_step m n words x) xs ys

  abbrev pub made_then : List Step → List ℕ → List Step → List Step
  made_then ys ws made = made ++ made_among m n (after_steps m n ws made) ys

  pub made-append : (words : List ℕ) (xs ys : List Step) →
      made_among m n words (xs ++ ys) ≡ made_among m n words xs ++ made_among m n (after_steps m n words (made_among m n words xs)) ys
  made-append words [] ys = refl
  made-append words (x ∷ xs) ys = by_test (narrows m n words x) (made-append (after_step m n words x) xs ys) (made-append words xs ys)
    where
      by_test : (b : Bool) → made_among m n (after_step m n words x) (xs ++ ys) ≡ made_then ys (after_step m n words x) (made_among m n (after_step m n words x) xs) →
          made_among m n words (xs ++ ys) ≡ made_then ys words (made_among m n words xs) →
          (if b then x ∷ made_among m n (after_step m n words x) (xs ++ ys) else made_among m n words (xs ++ ys))
          ≡ made_then ys words (if b then x ∷ made_among m n (after_step m n words x) xs else made_among m n words xs)
      by_test true e f = ap (λ ss. x ∷ ss) e
      by_test false e f = f

  made-none : (words : List ℕ) (xs : List Step) → made_among m n words xs ≡ [] → All (λ step. narrows m n words step ≡ false) xs
  made-none words [] e = All-nil (λ step. narrows m n words step ≡ false)
  made-none words (x ∷ xs) e = by_test (narrows m n words x) refl (made-none words xs) e
    where
      by_test : (b : Bool) → narrows m n words x ≡ b → (made_among m n words xs ≡ [] → All (λ step. narrows m n words step ≡ false) xs) →
          (if b then x ∷ made_among m n (after_step m n words x) xs else made_among m n words xs) ≡ [] →
          All (λ step. narrows m n words step ≡ false) (x ∷ xs)
      by_test true is next h = absurd (cc)
      by_test false is next h = All-cons (λ step. narrows m n words step ≡ false) x xs is (next h)

  All-made : (P : Step → Type 0) (words : List ℕ) (xs : List Step) → All P xs → All P (made_among m n words xs)
  All-made P words [] h = h
  All-made P words (x ∷ xs) h =
      by_test (narrows m n words x) (All-made P (after_step m n words x) xs (All-tail P x xs h)) (All-made P words xs (All-tail P x xs h))
    where
      by_test : (b : Bool) → All P (made_among m n (after_step m n words x) xs) → All P (made_among m n words xs) →
          All P (if b then x ∷ made_among m n (after_step m n words x) xs else made_among m n words xs)
      by_test true e f = All-cons P x _ (All-head P x xs h) e
      by_test false e f = f

  abbrev IsLess : List ℕ → List Step → Type 0
  IsLess ws made = (made ≡ []) ⊎ (sum (after_steps m n ws made) < sum ws)

  -- each makes a set less
  pub sum-made : (words : List ℕ) (xs : List Step) → made_among m n words xs ≢ [] → sum (after_steps m n words (made_among m n words xs)) < sum words
  sum-made words xs some = elim (sum-at-most words xs) [ inl none ↦ absurd (some none) | inr less ↦ less ]
    where
      sum-at-most : (words : List ℕ) (xs : List Step) → (made_among m n words xs ≡ []) ⊎ (sum (after_steps m n words (made_among m n words xs)) < sum words)
      sum-at-most words [] = inl refl
      sum-at-most words (x ∷ xs) = by_test (narrows m n words x) refl (sum-at-most (after_step m n words x) xs) (sum-at-most words xs)
        where
          by_test : (b : Bool) → narrows m n words x ≡ b → IsLess (after_step m n words x) (made_among m n (after_step m n words x) xs) → IsLess words (made_among m n words xs) →
              IsLess words (if b then x ∷ made_among m n (after_step m n words x) xs else made_among m n words xs)
          by_test true is e f = inr (elim e [
            | inl none ↦ subst (λ made. sum (after_steps m n (after_step m n words x) made) < sum words) (sym none) (after_step-less words x is)
            | inr less ↦ (let first = after_step-less words x is in omega (arith, first, less))
          ])
          by_test false is e f = f

  -- ---- ruled steps

  -- after the last pass, further ones make none
  pub made-further : (words : List ℕ) (steps : List Step) (ruled : AreRuledSteps m n words steps) (more : ℕ) → made_among m n words (passes_of n (more + ruled.passes)) ≡ steps
  made-further words steps ruled zero = ap (λ k. made_among m n words (passes_of n k)) (zero-add ruled.passes) ∙ sym ruled.steps_are
  made-further words steps ruled (suc more) =
      let before = made-further words steps ruled more in
      let count : suc more + ruled.passes ≡ suc (more + ruled.passes) = omega arith in
      ap (λ k. made_among m n words (passes_of n k)) count
      ∙ made-append words (passes_of n (more + ruled.passes)) (all_steps n)
      ∙ ap (made_then (all_steps n) words) before
      ∙ ap (λ ss. steps ++ ss) ruled.ended
      ∙ append-nil steps

  pub ruled-unique : (words : List ℕ) (xs ys : List Step) → AreRuledSteps m n words xs → AreRuledSteps m n words ys → xs ≡ ys
  ruled-unique words xs ys a b =
      let same : b.passes + a.passes ≡ a.passes + b.passes = omega arith in
      sym (made-further words xs a b.passes) ∙ ap (λ k. made_among m n words (passes_of n k)) same ∙ made-further words ys b a.passes

  passes-join : (first more : ℕ) → passes_of n (more + first) ≡ passes_of n first ++ passes_of n more
  passes-join first zero = ap (passes_of n) (zero-add first) ∙ sym (append-nil (passes_of n first))
  passes-join first (suc more) =
      let count : suc more + first ≡ suc (more + first) = omega arith in
      ap (passes_of n) count ∙ ap (λ ss. ss ++ all_steps n) (passes-join first more) ∙ append_assoc (passes_of n first) (passes_of n more) (all_steps n)

  -- what is made of some passes and a part of the next is where the ruled steps begin
  pub ruled-begins : (words : List ℕ) (whole first left : List Step) (passes : ℕ) → AreRuledSteps m n words whole → all_steps n ≡ first ++ left →
      (rest : List Step) × (whole ≡ made_among m n words (passes_of n passes ++ first) ++ rest)
  ruled-begins words whole first left passes ruled e =
      let gone = passes_of n passes ++ first in
      let further = left ++ passes_of n ruled.passes in
      let count : suc passes + ruled.passes ≡ ruled.passes + suc passes = omega arith in (
        made_among m n (after_steps m n words (made_among m n words gone)) further,
        sym (made-further words whole ruled (suc passes)) ∙ ap (λ k. made_among m n words (passes_of n k)) count
            ∙ ap (made_among m n words) (passes-join (suc passes) ruled.passes
            ∙ ap (λ ss. passes_of n passes ++ ss ++ passes_of n ruled.passes) e
            ∙ ap (λ ss. ss ++ passes_of n ruled.passes) (sym (append_assoc (passes_of n passes) first left))
            ∙ append_assoc gone left (passes_of n ruled.passes))
            ∙ made-append words gone further,
      )

  passes-front : (count : ℕ) → all_steps n ++ passes_of n count ≡ passes_of n (suc count)
  passes-front zero = append-nil (all_steps n)
  passes-front (suc count) =
      sym (append_assoc (all_steps n) (passes_of n count) (all_steps n)) ∙ ap (λ ss. ss ++ all_steps n) (passes-front count)

  -- a pass, and the ruled steps of the network after it
  ruled-after : (words : List ℕ) (steps : List Step) → AreRuledSteps m n (after_steps m n words (made_among m n words (all_steps n))) steps →
      AreRuledSteps m n words (made_among m n words (all_steps n) ++ steps)
  ruled-after words steps ruled =
      let first = made_among m n words (all_steps n) in
      record {
        passes = suc ruled.passes;
        steps_are = ap (λ ss. first ++ ss) ruled.steps_are ∙ sym (made-append words (all_steps n) (passes_of n ruled.passes)) ∙ ap (made_among m n words) (passes-front ruled.passes);
        ended = ap (λ ws. made_among m n ws (all_steps n)) (after-append words first steps) ∙ ruled.ended;
      }

  -- each network has ruled steps
  pub ruled_steps : (words : List ℕ) → (steps : List Step) × AreRuledSteps m n words steps
  ruled_steps words = by_sum (suc (sum words)) words (omega arith)
    where
      none : (ws : List ℕ) → made_among m n ws (all_steps n) ≡ [] → AreRuledSteps m n ws []
      none ws e = record { passes = 0; steps_are = refl; ended = e }

      by_sum : (fuel : ℕ) (ws : List ℕ) → sum ws < fuel → (steps : List Step) × AreRuledSteps m n ws steps
      by_sum zero ws l = absurd (omega arith)
      by_sum (suc fuel) ws l = elim (some-or-none (made_among m n ws (all_steps n))) [
        | inl e ↦ ([], none ws e)
        | inr some ↦
            (let less = sum-made ws (all_steps n) some in
            let rest = by_sum fuel (after_steps m n ws (made_among m n ws (all_steps n))) (omega arith) in
            (made_among m n ws (all_steps n) ++ rest.0, ruled-after ws rest.0 rest.1))
      ]

  -- ---- the closure

  pub KeepsClosed-steps : (words : List ℕ) (steps : List Step) → IsCalculus m → All (IsProperStep n) steps → KeepsClosed m n words (after_steps m n words steps)
  KeepsClosed-steps words [] k t = KeepsClosed-refl m n words
  KeepsClosed-steps words (step ∷ steps) k t =
      KeepsClosed-trans m n words (after_step m n words step) (after_steps m n (after_step m n words step) steps)
      (KeepsClosed-along m n words step.i step.j step.k k (All-head (IsProperStep n) step steps t))
      (KeepsClosed-steps (after_step m n words step) steps k (All-tail (IsProperStep n) step steps t))

  -- where no step makes a set less, the network is closed
  closed-ended : (words : List ℕ) → IsCalculus m → IsNetwork m n words → made_among m n words (all_steps n) ≡ [] → IsClosed m n words
  closed-ended words k net e = IsClosed-pairs m n words k net (λ i l o h j t.
      let stays = step-among n i j l (λ step. narrows m n words step ≡ false) t o (made-none words (all_steps n) e) in
      subst (λ ws. IsClosedAt m n ws i j l) (after_step-same words (record { i = i; j = j; k = l }) stays) (IsClosedAt-along m n words i j l k net t))

  passes-proper : (count : ℕ) → All (IsProperStep n) (passes_of n count)
  passes-proper count = All-below (IsProperStep n) (λ _. all_steps n) count (λ _ _. all_steps-proper n)

  pub ruled-proper : (words : List ℕ) (steps : List Step) → AreRuledSteps m n words steps → All (IsProperStep n) steps
  ruled-proper words steps ruled =
      subst (All (IsProperStep n)) (sym ruled.steps_are) (All-made (IsProperStep n) words (passes_of n ruled.passes) (passes-proper ruled.passes))

  -- the ruled steps lead to the closure
  pub ruled-closure : (words : List ℕ) (steps : List Step) → IsCalculus m → IsNetwork m n words → AreRuledSteps m n words steps → IsClosure m n words (after_steps m n words steps)
  ruled-closure words steps k net ruled =
      let kept = KeepsClosed-steps words steps k (ruled-proper words steps ruled) in
      IsClosure-kept m n words (after_steps m n words steps) net kept
      (closed-ended (after_steps m n words steps) k (IsNetwork-kept m n words (after_steps m n words steps) net kept) ruled.ended)

  -- ---- up to the first empty set

  pub cut-one : (words : List ℕ) (xs rest ys more : List Step) → xs ++ rest ≡ ys ++ more → NoneEmptyBefore m n words xs → NoneEmptyBefore m n words ys →
      Contains (after_steps m n words xs) 0 ⊎ (rest ≡ []) → Contains (after_steps m n words ys) 0 ⊎ (more ≡ []) → xs ≡ ys
  cut-one words [] rest [] more e a b f g = refl
  cut-one words [] rest (y ∷ ys) more e a b f g = absurd (elim f [
    | inl empty ↦ b.0 empty
    | inr none ↦ (let bad : [] ≡ y ∷ (ys ++ more) = sym none ∙ e in cc)
  ])
  cut-one words (x ∷ xs) rest [] more e a b f g = absurd (elim g [
    | inl empty ↦ a.0 empty
    | inr none ↦ (let bad : x ∷ (xs ++ rest) ≡ [] = e ∙ none in cc)
  ])
  cut-one words (x ∷ xs) rest (y ∷ ys) more e a b f g =
      let same : y ≡ x = sym (head-same _ _ _ _ e) in
      let b' : NoneEmptyBefore m n (after_step m n words x) ys = subst (λ s. NoneEmptyBefore m n (after_step m n words s) ys) same b.1 in
      let g' : Contains (after_steps m n (after_step m n words x) ys) 0 ⊎ (more ≡ []) = subst (λ s. Contains (after_steps m n (after_step m n words s) ys) 0 ⊎ (more ≡ [])) same g in
      ap (λ ss. x ∷ ss) (cut-one (after_step m n words x) xs rest ys more (tail-same _ _ _ _ e) a.1 b' f g') ∙ ap (λ s. s ∷ ys) (sym same)

  pub cut-unique : (words : List ℕ) (xs ys : List Step) → AreCutSteps m n words xs → AreCutSteps m n words ys → xs ≡ ys
  cut-unique words xs ys a b =
      cut-one words xs a.rest ys b.rest (sym a.whole_is ∙ ruled-unique words a.whole b.whole a.ruled b.ruled ∙ b.whole_is) a.before b.before a.ended b.ended
