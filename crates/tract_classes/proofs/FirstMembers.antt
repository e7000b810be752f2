-- The first member without a property, and the first two.
use Rattle.std.proofs.Common.{◌≡◌, ℕ, ◌+◌, ◌<◌, ◌≤◌, List, length, get_or, Bool, true, false, sym, ap, subst, arith, inl, inr}
use Rattle.std.specs.Prelude.{Contains, IsTrue, ◌↔◌}
use Rattle.std.specs.List.Sorted.{IsStrictlyIncreasing}
use Rattle.std.proofs.lemmas.Bool.{both_ways, cases_lt}
use Rattle.tract_classes.specs.Class.{EachMember, EachPair}
use Rattle.tract_classes.specs.ClassFault.{IsFirstMember, IsFirstPair}
use Rattle.tract_classes.proofs.Ascending.{at_place, Contains-at, earlier}

-- the first k members have the property
abbrev pub EachBefore : List ℕ → (ℕ → Type 0) → ℕ → Type 0
EachBefore class P k = (j : ℕ) → j < k → P (get_or class j 0)

module _ (class : List ℕ) (ascending : IsStrictlyIncreasing class) (P : ℕ → Type 0) where
  pub each_member : EachBefore class P (length class) → EachMember class P
  each_member before a c = subst P (at_place class a c) (before c.0 c.1)

  pub first_member : (k a : ℕ) → k < length class → get_or class k 0 ≡ a → EachBefore class P k → ¬ P a → IsFirstMember class P a
  first_member k a below e before here = record {
    member = Contains-at class k a below e;
    here = here;
    before = λ b l c. subst P (at_place class b c) (before c.0 (earlier class ascending c.0 k c.1 below (omega (arith, at_place class b c))));
  }

-- a set that was looked up is a member, or is none
pub is_member : (class : List ℕ) (has : Bool) (a b : ℕ) → IsTrue has ↔ Contains class a → has ≡ true → a ≡ b → Contains class b
is_member class has a b f t e = subst (Contains class) e (f.0 t)

pub is_none : (class : List ℕ) (has : Bool) (a b : ℕ) → IsTrue has ↔ Contains class a → has ≡ false → a ≡ b → ¬ Contains class b
is_none class has a b f t e c = both_ways has t (f.1 (subst (Contains class) (sym e) c))

-- a loop over the members of a class, where these are its items
module _ (class items : List ℕ) (ascending : IsStrictlyIncreasing class) (value : items ≡ class) (k : ℕ) where
  item : get_or class k 0 ≡ get_or items k 0
  item = ap (λ xs. get_or xs k 0) (sym value)

  pub one_more : (P : ℕ → Type 0) → EachBefore class P k → P (get_or items k 0) → EachBefore class P (k + 1)
  one_more P before here j l = elim (cases_lt j k) [
    | inl h ↦ before j h
    | inr g ↦ (let e : k ≡ j = omega arith in subst (λ i. P (get_or class i 0)) e (subst P (sym item) here))
  ]

  pub no_more : (P : ℕ → Type 0) → EachBefore class P k → length items ≤ k → EachMember class P
  no_more P before h = each_member class ascending P (λ j l. before j (omega (arith, ap length value)))

  pub found : (P : ℕ → Type 0) → EachBefore class P k → k < length items → ¬ P (get_or items k 0) → IsFirstMember class P (get_or items k 0)
  found P before below here = first_member class ascending P k (get_or items k 0) (omega (arith, ap length value)) item before here

  pub not_each : (P : ℕ → Type 0) → k < length items → ¬ P (get_or items k 0) → ¬ EachMember class P
  not_each P below here each =
      here (each (get_or items k 0) (Contains-at class k (get_or items k 0) (omega (arith, ap length value)) item))

  -- the same for pairs, of which those with the first k members are looked at
  pub no_more_pairs : (P : ℕ → ℕ → Type 0) → EachBefore class (λ a. EachMember class (P a)) k → length items ≤ k → EachPair class P
  no_more_pairs P before h a b c d = no_more (λ x. EachMember class (P x)) before h a c b d

  pub found_pair : (P : ℕ → ℕ → Type 0) (b : ℕ) → EachBefore class (λ a. EachMember class (P a)) k → k < length items →
      IsFirstMember class (P (get_or items k 0)) b → IsFirstPair class P (get_or items k 0) b
  found_pair P b before below second = record {
    first = Contains-at class k (get_or items k 0) (omega (arith, ap length value)) item;
    second = second;
    before = λ x y l c d. subst (λ z. P z y) (at_place class x c)
        (before c.0 (earlier class ascending c.0 k c.1 (omega (arith, ap length value)) (omega (arith, at_place class x c, item))) y d);
  }
