-- Networks narrowed by lists of facts, and their closures.
use Rattle.std.proofs.Common.{◌≡◌, ℕ, ◌≤◌, true, false, cond, List, [], ◌∷◌, length, set, refl, sym, ◌∙◌, arith, inl, inr}
use Rattle.std.specs.Prelude.{bit_and, slice_index, slice_set, nat_lt}
use Rattle.std.proofs.lemmas.Bool.{cases_lt}
use Rattle.std.proofs.lemmas.List.{length-set, get_or-set_same}
use Rattle.std.proofs.Math.ListN.{get_or-eq_default}
use Rattle.calculus_table.specs.Algebra.{Algebra}
use Rattle.calculus_table.specs.Composition.{converse}
use Rattle.calculus_table.proofs.Sets.{IsWithin-trans, IsWithin-meet, IsWithin-meet_r}
use Rattle.network_words.specs.Edge.{edge_at}
use Rattle.network_words.specs.Network.{Refines, narrowed_at}
use Rattle.network_words.specs.Facts.{narrowed_by}
use Rattle.network_words.specs.Closure.{IsClosure}
use Rattle.network_words.specs.declared.fact.Fact.{Fact}
use Rattle.network_words.proofs.Networks.{Refines-refl, Refines-trans, set-cases, length-narrowed_at, narrowed_at-within, IsClosure-between, IsClosure-from}

-- ---- one set met

-- the list with the set at a place met with x
abbrev met_place : List ℕ → ℕ → ℕ → List ℕ
met_place words e x = slice_set words e (bit_and (slice_index words e) x)

set_past : (xs : List ℕ) (e a d : ℕ) → length xs ≤ e → d ≡ e → slice_index (slice_set xs e a) d ≡ slice_index xs d
set_past xs e a d h i =
    get_or-eq_default (set xs e a) 0 (omega (arith, length-set xs e a)) ∙ sym (get_or-eq_default xs 0 (omega arith))

-- what is within one list met at a place, and within a second list, is within the second met there
carries-place : (xs ys zs : List ℕ) (e x : ℕ) → length zs ≡ length ys → Refines xs (met_place ys e x) → Refines xs zs → Refines xs (met_place zs e x)
carries-place xs ys zs e x l p q = record {
  each = λ d. elim (set-cases zs e (bit_and (slice_index zs e) x) d) [
    | inl same ↦ rw same (q.each d)
    | inr here ↦ elim (cases_lt e (length ys)) [
      | inl b ↦ rw (here.1, here.0) (IsWithin-meet _ _ _ (q.each e)
          (IsWithin-trans _ _ _ (rw (get_or-set_same ys e (bit_and (slice_index ys e) x) 0 b) at (p.each e)) (IsWithin-meet_r (slice_index ys e) x)))
      | inr o ↦ rw (set_past zs e (bit_and (slice_index zs e) x) d (omega arith) here.0) (q.each d)
    ]
  ];
}

pub narrowed_at-carries : (m : Algebra) (n : ℕ) (xs ys zs : List ℕ) (i j x : ℕ) → length zs ≡ length ys → Refines xs (narrowed_at m n ys i j x) → Refines xs zs → Refines xs (narrowed_at m n zs i j x)
narrowed_at-carries m n xs ys zs i j x l =
    elim (nat_lt i j) as (λ b. Refines xs (cond b (met_place ys (edge_at n i j) x) (met_place ys (edge_at n j i) (converse m x))) → Refines xs zs →
    Refines xs (cond b (met_place zs (edge_at n i j) x) (met_place zs (edge_at n j i) (converse m x)))) [
      | true ↦ carries-place xs ys zs (edge_at n i j) x l
      | false ↦ carries-place xs ys zs (edge_at n j i) (converse m x) l
    ]

-- a lesser network met is within the greater met
pub narrowed_at-mono : (m : Algebra) (n : ℕ) (xs ys : List ℕ) (i j x : ℕ) → length xs ≡ length ys → Refines xs ys → Refines (narrowed_at m n xs i j x) (narrowed_at m n ys i j x)
narrowed_at-mono m n xs ys i j x l w =
    narrowed_at-carries m n (narrowed_at m n xs i j x) xs ys i j x (sym l) (Refines-refl (narrowed_at m n xs i j x)) (Refines-trans _ _ _ (narrowed_at-within m n xs i j x) w)

-- ---- a list of facts met

pub length-narrowed_by : (m : Algebra) (n : ℕ) (words : List ℕ) (facts : List Fact) → length (narrowed_by m n words facts) ≡ length words
length-narrowed_by m n words [] = refl
length-narrowed_by m n words (fact ∷ facts) =
    length-narrowed_by m n (narrowed_at m n words fact.i fact.j fact.rel) facts ∙ length-narrowed_at m n words fact.i fact.j fact.rel

pub narrowed_by-within : (m : Algebra) (n : ℕ) (words : List ℕ) (facts : List Fact) → Refines (narrowed_by m n words facts) words
narrowed_by-within m n words [] = Refines-refl words
narrowed_by-within m n words (fact ∷ facts) =
    Refines-trans _ _ _ (narrowed_by-within m n (narrowed_at m n words fact.i fact.j fact.rel) facts) (narrowed_at-within m n words fact.i fact.j fact.rel)

pub narrowed_by-mono : (m : Algebra) (n : ℕ) (xs ys : List ℕ) (facts : List Fact) → length xs ≡ length ys → Refines xs ys → Refines (narrowed_by m n xs facts) (narrowed_by m n ys facts)
narrowed_by-mono m n xs ys [] l w = w
narrowed_by-mono m n xs ys (fact ∷ facts) l w =
    narrowed_by-mono m n (narrowed_at m n xs fact.i fact.j fact.rel) (narrowed_at m n ys fact.i fact.j fact.rel) facts
    (length-narrowed_at m n xs fact.i fact.j fact.rel ∙ l ∙ sym (length-narrowed_at m n ys fact.i fact.j fact.rel))
    (narrowed_at-mono m n xs ys fact.i fact.j fact.rel l w)

-- what is within one network met with facts, and within a second network, is within the second met with the facts
pub narrowed_by-carries : (m : Algebra) (n : ℕ) (xs ys zs : List ℕ) (facts : List Fact) → length zs ≡ length ys → Refines xs (narrowed_by m n ys facts) → Refines xs zs → Refines xs (narrowed_by m n zs facts)
narrowed_by-carries m n xs ys zs [] l p q = q
narrowed_by-carries m n xs ys zs (fact ∷ facts) l p q =
    let ys' = narrowed_at m n ys fact.i fact.j fact.rel in
    let zs' = narrowed_at m n zs fact.i fact.j fact.rel in
    narrowed_by-carries m n xs ys' zs' facts (length-narrowed_at m n zs fact.i fact.j fact.rel ∙ l ∙ sym (length-narrowed_at m n ys fact.i fact.j fact.rel)) p
    (narrowed_at-carries m n xs ys zs fact.i fact.j fact.rel l (Refines-trans _ _ _ p (narrowed_by-within m n ys' facts)) q)

-- ---- the closure of what is met

pub met-from_closure : (m : Algebra) (n : ℕ) (words closure : List ℕ) (facts : List Fact) (met : List ℕ) → IsClosure m n words closure →
    IsClosure m n (narrowed_by m n closure facts) met → IsClosure m n (narrowed_by m n words facts) met
met-from_closure m n words closure facts met c p =
    IsClosure-from m n (narrowed_by m n words facts) (narrowed_by m n closure facts) met p
    (length-narrowed_by m n closure facts ∙ c.length_is ∙ sym (length-narrowed_by m n words facts))
    (narrowed_by-mono m n closure words facts c.length_is c.within)
    (λ other l closed w. narrowed_by-carries m n other words closure facts c.length_is w
    (c.greatest other (l ∙ length-narrowed_by m n words facts) closed (Refines-trans _ _ _ w (narrowed_by-within m n words facts))))

pub met-of_closure : (m : Algebra) (n : ℕ) (words closure : List ℕ) (facts : List Fact) (met : List ℕ) → IsClosure m n words closure →
    IsClosure m n (narrowed_by m n words facts) met → IsClosure m n (narrowed_by m n closure facts) met
met-of_closure m n words closure facts met c p =
    IsClosure-between m n (narrowed_by m n words facts) (narrowed_by m n closure facts) met p
    (length-narrowed_by m n closure facts ∙ c.length_is ∙ sym (length-narrowed_by m n words facts))
    (narrowed_by-carries m n met words closure facts c.length_is p.within
    (c.greatest met (p.length_is ∙ length-narrowed_by m n words facts) p.closed (Refines-trans _ _ _ p.within (narrowed_by-within m n words facts))))
    (narrowed_by-mono m n closure words facts c.length_is c.within)
