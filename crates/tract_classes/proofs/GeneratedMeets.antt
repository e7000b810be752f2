-- Intersections of generators.
use Rattle.std.proofs.Common.{◌≡◌, ℕ, ◌-◌, ◌+◌, ◌^◌, ◌<◌, ◌≤◌, List, [], ◌∷◌, ◌++◌, length, get_or, sym, ap, ◌∙◌, subst, arith, inl, inr}
use Rattle.std.specs.Prelude.{bit_and, Contains, All, fold}
use Rattle.std.proofs.lemmas.Bool.{cases_eq, cases_lt, eq-eqb, ne_eqb, cond-true, cond-false}
use Rattle.std.proofs.lemmas.Nat.{and_assoc, and_comm}
use Rattle.std.proofs.lemmas.List.Sums.{fold_push}
use Rattle.std.proofs.lemmas.List.Elements.{All-head, All-tail, All-push, Contains-get_or}
use Rattle.std.proofs.lemmas.Nat.Bits.{bit_at_ones, bit_at_above}
use Rattle.calculus_table.specs.Rel.{IsWithin}
use Rattle.calculus_table.proofs.Sets.{IsWithin-refl, IsWithin-trans, IsWithin-meet, IsWithin-meet_l, meet-within, within-meet}
use Rattle.tract_classes.specs.Class.{EachMember, EachPair, HasMeet}
use Rattle.tract_classes.specs.Generators.{meet_around, meet_of_around, Generate, HasMeets}
use Rattle.tract_classes.proofs.Ascending.{at_place}

-- ---- one set more

pub around-within : (a x g : ℕ) → bit_and a g ≡ a → meet_around a x g ≡ bit_and x g
around-within a x g e = cond-true _ _ _ (eq-eqb (bit_and a g) a e)

pub around-apart : (a x g : ℕ) → (bit_and a g ≡ a → ⊥) → meet_around a x g ≡ x
around-apart a x g ne = cond-false _ _ _ (ne_eqb (bit_and a g) a ne)

-- what is around a stays around it, and within what was there
IsWithin-around : (a x g : ℕ) → IsWithin a x → IsWithin a (meet_around a x g)
IsWithin-around a x g w = elim (cases_eq (bit_and a g) a) [
  | inl e ↦ subst (IsWithin a) (sym (around-within a x g e)) (IsWithin-meet a x g w (within-meet a g e))
  | inr ne ↦ subst (IsWithin a) (sym (around-apart a x g ne)) w
]

around-less : (a x g : ℕ) → IsWithin (meet_around a x g) x
around-less a x g = elim (cases_eq (bit_and a g) a) [
  | inl e ↦ subst (λ y. IsWithin y x) (sym (around-within a x g e)) (IsWithin-meet_l x g)
  | inr ne ↦ subst (λ y. IsWithin y x) (sym (around-apart a x g ne)) (IsWithin-refl x)
]

fold-around : (a x : ℕ) (sets : List ℕ) → IsWithin a x → IsWithin a (fold (meet_around a) x sets)
fold-around a x [] w = w
fold-around a x (g ∷ sets) w = fold-around a (meet_around a x g) sets (IsWithin-around a x g w)

fold-less : (a x : ℕ) (sets : List ℕ) → IsWithin (fold (meet_around a) x sets) x
fold-less a x [] = IsWithin-refl x
fold-less a x (g ∷ sets) = IsWithin-trans _ _ _ (fold-less a (meet_around a x g) sets) (around-less a x g)

-- each word is within that of all bits
word-within : (a : ℕ) → a < 2 ^ 64 → IsWithin a (2 ^ 64 - 1)
word-within a l = record {
  each = λ r h. elim (cases_lt r 64) [
    | inl less ↦ bit_at_ones 64 r less
    | inr ge ↦ absurd (omega (arith, h, bit_at_above a 64 r l ge))
  ];
}

pub meet-around_itself : (sets : List ℕ) (a : ℕ) → a < 2 ^ 64 → meet_of_around (sets ++ a ∷ []) a ≡ a
meet-around_itself sets a l =
    let x : ℕ = meet_of_around sets a in
    let around : IsWithin a x = fold-around a (2 ^ 64 - 1) sets (word-within a l) in
    fold_push (meet_around a) (2 ^ 64 - 1) sets a ∙ around-within a x a (meet-within a a (IsWithin-refl a)) ∙ and_comm x a ∙ meet-within a x around

pub meet-around_more : (sets : List ℕ) (a g : ℕ) → meet_of_around sets a ≡ a → meet_of_around (sets ++ g ∷ []) a ≡ a
meet-around_more sets a g e = fold_push (meet_around a) (2 ^ 64 - 1) sets g ∙ ap (λ x. meet_around a x g) e ∙ elim (cases_eq (bit_and a g) a) [
  | inl same ↦ around-within a a g same ∙ same
  | inr ne ↦ around-apart a a g ne
]

-- ---- members taken from the last on

-- the sets are members, and each member from place k on is the intersection of those that it is within
pub record GenerateFrom (class : List ℕ) (k : ℕ) (sets : List ℕ) : Type 0 where
  pub members : All (Contains class) sets
  pub each : (j : ℕ) → k ≤ j → j < length class → meet_of_around sets (get_or class j 0) ≡ get_or class j 0

module _ (class : List ℕ) (k : ℕ) (sets : List ℕ) (h : GenerateFrom class (k + 1) sets) where
  pub GenerateFrom-more : (word : ℕ) → word ≡ get_or class k 0 → k < length class → word < 2 ^ 64 → GenerateFrom class k (sets ++ word ∷ [])
  GenerateFrom-more word at inside small = record {
    members = All-push (Contains class) sets word h.members (subst (Contains class) (sym at) (Contains-get_or class k 0 inside));
    each = λ j le below. elim (cases_lt k j) [
      | inl less ↦ meet-around_more sets (get_or class j 0) word (h.each j (omega arith) below)
      | inr ge ↦ (let same : k ≡ j = omega arith in
          subst (λ x. meet_of_around (sets ++ word ∷ []) x ≡ x) (at ∙ ap (λ i. get_or class i 0) same) (meet-around_itself sets word small))
    ];
  }

pub Generate-all : (class sets : List ℕ) → GenerateFrom class 0 sets → Generate class sets
Generate-all class sets h = record {
  members = h.members;
  each = λ a c. subst (λ x. meet_of_around sets x ≡ x) (at_place class a c) (h.each c.0 (omega arith) c.1);
}

-- ---- all pairs of members

-- the intersection of a member with some sets, one after another
meets-along : (class : List ℕ) (a b x : ℕ) (sets : List ℕ) → EachMember class (HasMeets class sets) → Contains class (bit_and a x) →
    Contains class (bit_and a (fold (meet_around b) x sets))
meets-along class a b x [] meets c = c
meets-along class a b x (g ∷ sets) meets c =
    meets-along class a b (meet_around b x g) sets (λ y d. All-tail (HasMeet class y) g sets (meets y d)) (elim (cases_eq (bit_and b g) b) [
      | inl e ↦ subst (λ y. Contains class (bit_and a y)) (sym (around-within b x g e))
          (subst (Contains class) (and_assoc g a x) (All-head (HasMeet class (bit_and a x)) g sets (meets (bit_and a x) c)))
      | inr ne ↦ subst (λ y. Contains class (bit_and a y)) (sym (around-apart b x g ne)) c
    ])

module _ (class sets : List ℕ) (generate : Generate class sets) where
  pub pairs-from_meets : EachMember class (HasMeets class sets) → EachPair class (HasMeet class)
  pairs-from_meets meets a b first second =
      let all : IsWithin a (2 ^ 64 - 1) = subst (λ x. IsWithin x (2 ^ 64 - 1)) (generate.each a first) (fold-less a (2 ^ 64 - 1) sets) in
      subst (λ x. Contains class (bit_and a x)) (generate.each b second)
      (meets-along class a b (2 ^ 64 - 1) sets meets (subst (Contains class) (sym (meet-within a (2 ^ 64 - 1) all)) first))

  pub meets-from_pairs : EachPair class (HasMeet class) → EachMember class (HasMeets class sets)
  meets-from_pairs pairs a first k d below = pairs a (get_or sets k d) first (generate.members k d below)
