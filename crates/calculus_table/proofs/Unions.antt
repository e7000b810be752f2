-- A union over the members of a set, one member after another.
use Rattle.std.proofs.Common.{◌≡◌, ℕ, ◌<◌, subst, sym, ◌⊎◌, inl, inr}
use Rattle.std.specs.Prelude.{bit_and, bit_or}
use Rattle.std.proofs.lemmas.Bool.{cases_eq}
use Rattle.calculus_table.specs.Rel.{Has, IsWithin, IsWithout}
use Rattle.calculus_table.specs.Algebra.{Algebra}
use Rattle.calculus_table.specs.Composition.{full_of, union_below, if_has}
use Rattle.calculus_table.proofs.Sets.{Has-meet, Has-meet_r, not_Has-empty, IsWithin-trans, IsWithin-antisym, IsWithin-empty, IsWithin-meet_l, IsWithin-union, IsWithin-union_l, IsWithin-union_r}
use Rattle.calculus_table.proofs.Members.{InUnion, union_below-member, Has-union_below, if_has-member, Has-if_has, Has-full, full-member}

-- the union of f r over the members r of a below n
abbrev pub union_over : ℕ → (ℕ → ℕ) → ℕ → ℕ
union_over n f a = union_below n (λ r. if_has a r (f r))

-- all is the union over the members of a but those that are left
pub record IsUnionBut (n : ℕ) (f : ℕ → ℕ) (a left all : ℕ) : Type 0 where
  pub within : IsWithin left a
  pub below : (r : ℕ) → Has left r → r < n
  pub sound : IsWithin all (union_over n f a)
  pub seen : (r : ℕ) → r < n → Has a r → Has left r ⊎ IsWithin (f r) all

pub union_over-has : (n : ℕ) (f : ℕ → ℕ) (a r : ℕ) → r < n → Has a r → IsWithin (f r) (union_over n f a)
union_over-has n f a r l h = record {
  each = λ t p. Has-union_below n (λ r. if_has a r (f r)) t r l (Has-if_has a r (f r) t h p);
}

-- at first each base relation is left
pub IsUnionBut-start : (m : Algebra) (f : ℕ → ℕ) (a : ℕ) → IsUnionBut m.size f a (bit_and a (full_of m)) 0
IsUnionBut-start m f a = record {
  within = IsWithin-meet_l a (full_of m);
  below = λ r h. full-member m r (Has-meet_r a (full_of m) r h);
  sound = IsWithin-empty _;
  seen = λ r l h. inl (Has-meet a (full_of m) r h (Has-full m r l));
}

-- one member is taken from what is left
pub IsUnionBut-step : (n : ℕ) (f : ℕ → ℕ) (a left all r rest : ℕ) → IsUnionBut n f a left all → IsWithout left r rest → IsUnionBut n f a rest (bit_or all (f r))
IsUnionBut-step n f a left all r rest u p = record {
  within = IsWithin-trans rest left a p.within u.within;
  below = λ q h. u.below q (p.within.each q h);
  sound = IsWithin-union all (f r) _ u.sound (union_over-has n f a r (u.below r p.member) (u.within.each r p.member));
  seen = λ q l h. elim (u.seen q l h) [
    | inl x ↦ elim (cases_eq q r) [
      | inl e ↦ inr (subst (λ k. IsWithin (f k) (bit_or all (f r))) (sym e) (IsWithin-union_r all (f r)))
      | inr ne ↦ inl (p.others q x ne)
    ]
    | inr y ↦ inr (IsWithin-trans (f q) all (bit_or all (f r)) y (IsWithin-union_l all (f r)))
  ];
}

-- at last nothing is left
pub IsUnionBut-end : (n : ℕ) (f : ℕ → ℕ) (a left all : ℕ) → left ≡ 0 → IsUnionBut n f a left all → all ≡ union_over n f a
IsUnionBut-end n f a left all none u = IsWithin-antisym all (union_over n f a) u.sound (record {
  each = λ t h. let i : InUnion n (λ r. if_has a r (f r)) t = union_below-member n (λ r. if_has a r (f r)) t h in
      let p = if_has-member a i.at (f i.at) t i.member in
      elim (u.seen i.at i.below p.0) [
        | inl x ↦ absurd (not_Has-empty i.at (subst (λ s. Has s i.at) none x))
        | inr y ↦ y.each t p.1
      ];
})
