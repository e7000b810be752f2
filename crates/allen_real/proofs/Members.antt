-- Members of classes of equal end points, one more end point at a time.
use Rattle.std.proofs.Common.{◌≡◌, ℕ, zero, suc, ◌+◌, ◌*◌, ◌<◌, ◌≤◌, Bool, true, false, List, [], ◌∷◌, ◌++◌}
use Rattle.std.proofs.Common.{length, refl, ◌∙◌, ap, subst, arith, ◌⊎◌, inl, inr}
use Rattle.std.proofs.lemmas.Bool.{cases_lt, cases_Bool}
use Rattle.std.proofs.lemmas.List.{length-append, get_or_append_left}
use Rattle.std.proofs.lemmas.List.Elements.{All-push, All-cons}
use Rattle.std.proofs.lemmas.List.Quantifiers.{Any-push, all_pairs_push}
use Rattle.allen_real.specs.declared.end_points.EndPoint.{EndPoint}
use Rattle.allen_real.specs.EndPoints.{end_point, is_below, Differ, AreEqual, number_of}
use Rattle.allen_real.specs.Classes.{HasClass, IsNew, AreMembers}
use Rattle.allen_real.proofs.Comparisons.{not_below-itself}

number-same : (i j : ℕ) (a b : Bool) → number_of (end_point i a) ≡ number_of (end_point j b) →
    end_point i a ≡ end_point j b
number-same i j false false e = (let h : i ≡ j = omega arith in ap (λ k. end_point k false) h)
number-same i j true true e = (let h : i ≡ j = omega arith in ap (λ k. end_point k true) h)
number-same i j false true e = absurd (omega arith)
number-same i j true false e = absurd (omega arith)

pub number-below : (n i : ℕ) (is_end : Bool) → i < n → number_of (end_point i is_end) < 2 * n
number-below n i false h = omega arith
number-below n i true h = omega arith

module _ (n : ℕ) (relations : List ℕ) where
  pub members-none : AreMembers n relations 0 []
  members-none = record {
    of_nodes = λ k d h. absurd (omega arith);
    differ = λ j k d o h. absurd (omega arith);
    each = λ q h. absurd (omega arith);
    few = omega arith;
  }

  -- the next end point is in a class that has a member
  pub members-known : (members : List EndPoint) (q : EndPoint) → AreMembers n relations (number_of q) members →
      HasClass n relations members q → AreMembers n relations (number_of q + 1) members
  members-known members q m known = record {
    of_nodes = m.of_nodes;
    differ = m.differ;
    each = λ p h. elim (cases_lt (number_of p) (number_of q)) [
      | inl l ↦ m.each p l
      | inr g ↦ subst (HasClass n relations members) (number-same q.node p.node q.is_end p.is_end (omega arith)) known
    ];
    few = omega (arith, m.few);
  }

  equal-itself : (q : EndPoint) → AreEqual n relations q q
  equal-itself q = record { not_below = not_below-itself n relations q; not_above = not_below-itself n relations q }

  kept : (members : List EndPoint) (q p : EndPoint) → HasClass n relations members p →
      HasClass n relations (members ++ q ∷ []) p
  kept members q p h =
      let within : h.0 < length (members ++ q ∷ []) = omega (arith, length-append members (q ∷ []), h.2) in
      (h.0, h.1, within, get_or_append_left members (q ∷ []) h.1 h.0 h.2 ∙ h.3, h.4)

  -- or is the first of its class
  pub members-new : (members : List EndPoint) (q : EndPoint) → q.node < n →
      AreMembers n relations (number_of q) members → IsNew n relations members q →
      AreMembers n relations (number_of q + 1) (members ++ q ∷ [])
  members-new members q b m fresh = record {
    of_nodes = All-push (λ p. p.node < n) members q m.of_nodes b;
    differ = all_pairs_push (Differ n relations) members q m.differ fresh;
    each = λ p h. elim (cases_lt (number_of p) (number_of q)) [
      | inl l ↦ kept members q p (m.each p l)
      | inr g ↦ (let same : q ≡ p = number-same q.node p.node q.is_end p.is_end (omega arith) in
          subst (HasClass n relations (members ++ q ∷ [])) same
          (Any-push (λ p. AreEqual n relations p q) members q (equal-itself q)))
    ];
    few = omega (arith, length-append members (q ∷ []), m.few);
  }

  -- ---- members there are

  compared : (p q : EndPoint) → AreEqual n relations p q ⊎ Differ n relations p q
  compared p q = elim (cases_Bool (is_below n relations p q)) [
    | inl l ↦ inr (inl l)
    | inr g ↦ elim (cases_Bool (is_below n relations q p)) [
      | inl l ↦ inr (inr l)
      | inr h ↦ inl (record { not_below = g; not_above = h })
    ]
  ]

  class-or_new : (members : List EndPoint) (q : EndPoint) → HasClass n relations members q ⊎ IsNew n relations members q
  class-or_new [] q = inr (λ k d h. absurd (omega arith))
  class-or_new (p ∷ members) q = elim (compared p q) [
    | inl e ↦ inl (0, p, omega arith, refl, e)
    | inr d ↦ elim (class-or_new members q) [
      | inl h ↦ inl (suc h.0, h.1, omega (arith, h.2), h.3, h.4)
      | inr f ↦ inr (All-cons (λ p. Differ n relations p q) p members d f)
    ]
  ]

  abbrev Members : ℕ → Type 0
  Members count = (members : List EndPoint) × AreMembers n relations count members

  members-next : (q : EndPoint) → q.node < n → Members (number_of q) → Members (number_of q + 1)
  members-next q b m = elim (class-or_new m.0 q) [
    | inl known ↦ (m.0, members-known m.0 q m.1 known)
    | inr fresh ↦ (m.0 ++ q ∷ [], members-new m.0 q b m.1 fresh)
  ]

  members-upto : (i : ℕ) → i ≤ n → Members (2 * i)
  members-upto zero h = ([], members-none)
  members-upto (suc i) h =
      let begin = members-next (end_point i false) (omega arith) (members-upto i (omega arith)) in
      let end = members-next (end_point i true) (omega arith) begin in
      let e : 2 * i + 1 + 1 ≡ 2 * suc i = omega arith in
      subst Members e end

  pub members-there : Members (2 * n)
  members-there = members-upto n (omega arith)
