-- The members of single sets, of the full set, of unions, of compositions and of converses.
use Rattle.std.proofs.Common.{◌≡◌, ℕ, zero, suc, ◌^◌, ◌<◌, cond, true, false, Bool, refl, sym, subst, arith, inl, inr}
use Rattle.std.specs.Prelude.{◌==◌, ◌↔◌}
use Rattle.std.specs.Int.{bit_at}
use Rattle.std.proofs.lemmas.Bool.{eqb-true, eq-eqb, cases_eq, cases_lt}
use Rattle.std.proofs.lemmas.Nat.Bits.{bit_at-pow_other, bit_at_ones, bit_at_ones_above}
use Rattle.calculus_table.specs.Rel.{Has, IsWithin}
use Rattle.calculus_table.specs.Algebra.{Algebra, converse_at, entry_at}
use Rattle.calculus_table.specs.Composition.{full_of, union_below, if_has, row_composition, composition, converse, InComposition, InConverse}
use Rattle.calculus_table.specs.Calculus.{IsTable}
use Rattle.calculus_table.proofs.Sets.{Has-union, Has-union_l, Has-union_r, not_Has-empty, Has-single}

-- ---- single sets and the full set

pub single-member : (r t : ℕ) → Has (2 ^ r) t → t ≡ r
single-member r t h = elim (cases_eq t r) [ inl e ↦ e | inr ne ↦ absurd (omega (arith, bit_at-pow_other r t ne)) ]

pub Has-full : (m : Algebra) (t : ℕ) → t < m.size → Has (full_of m) t
Has-full m t h = bit_at_ones m.size t h

pub full-member : (m : Algebra) (t : ℕ) → Has (full_of m) t → t < m.size
full-member m t h = elim (cases_lt t m.size) [ inl l ↦ l | inr g ↦ absurd (omega (arith, bit_at_ones_above m.size t g)) ]

-- ---- unions

-- some k below n has t in f k
pub record InUnion (n : ℕ) (f : ℕ → ℕ) (t : ℕ) : Type 0 where
  pub at : ℕ
  pub below : at < n
  pub member : Has (f at) t

pub union_below-member : (n : ℕ) (f : ℕ → ℕ) (t : ℕ) → Has (union_below n f) t → InUnion n f t
unfolding union_below
union_below-member zero f t h = absurd (not_Has-empty t h)
union_below-member (suc n) f t h = elim (Has-union (union_below n f) (f n) t h) [
  | inl x ↦ (let r : InUnion n f t = union_below-member n f t x in record { at = r.at; below = omega arith; member = r.member })
  | inr y ↦ record { at = n; below = omega arith; member = y }
]

pub Has-union_below : (n : ℕ) (f : ℕ → ℕ) (t k : ℕ) → k < n → Has (f k) t → Has (union_below n f) t
unfolding union_below
Has-union_below zero f t k l h = absurd (omega arith)
Has-union_below (suc n) f t k l h = elim (cases_lt k n) [
  | inl x ↦ Has-union_l (union_below n f) (f n) t (Has-union_below n f t k x h)
  | inr y ↦ (let e : k ≡ n = omega arith in Has-union_r (union_below n f) (f n) t (subst (λ j. Has (f j) t) e h))
]

-- ---- a set under a condition

cond-member : (b : Bool) (x t : ℕ) → Has (cond b x 0) t → (b ≡ true) × Has x t
cond-member true x t h = (refl, h)
cond-member false x t h = absurd (not_Has-empty t h)

pub if_has-member : (a r x t : ℕ) → Has (if_has a r x) t → Has a r × Has x t
if_has-member a r x t h =
    let p = cond-member (bit_at a r == 1) x t h in (eqb-true (bit_at a r) 1 p.0, p.1)

pub Has-if_has : (a r x t : ℕ) → Has a r → Has x t → Has (if_has a r x) t
Has-if_has a r x t p h = subst (λ b. Has (cond b x 0) t) (sym (eq-eqb (bit_at a r) 1 p)) h

-- ---- composition and converse by their members

pub composition-member : (m : Algebra) (a b t : ℕ) → IsTable m → Has (composition m a b) t → InComposition m a b t
composition-member m a b t k h =
    let u : InUnion m.size (λ r. if_has a r (row_composition m r b)) t = union_below-member m.size (λ r. if_has a r (row_composition m r b)) t h in
    let p = if_has-member a u.at (row_composition m u.at b) t u.member in
    let v : InUnion m.size (λ s. if_has b s (entry_at m u.at s)) t = union_below-member m.size (λ s. if_has b s (entry_at m u.at s)) t p.1 in
    let q = if_has-member b v.at (entry_at m u.at v.at) t v.member in
    record {
      first = u.at;
      second = v.at;
      first_in = p.0;
      second_in = q.0;
      composes = record {
        first_below = u.below;
        second_below = v.below;
        below = full-member m t ((k.entry_within u.at v.at u.below v.below).each t q.1);
        member = q.1;
      };
    }

pub Has-composition : (m : Algebra) (a b t : ℕ) → InComposition m a b t → Has (composition m a b) t
Has-composition m a b t i =
    Has-union_below m.size (λ r. if_has a r (row_composition m r b)) t i.first i.composes.first_below
    (Has-if_has a i.first (row_composition m i.first b) t i.first_in
    (Has-union_below m.size (λ s. if_has b s (entry_at m i.first s)) t i.second i.composes.second_below
    (Has-if_has b i.second (entry_at m i.first i.second) t i.second_in i.composes.member)))

pub converse-member : (m : Algebra) (a t : ℕ) → Has (converse m a) t → InConverse m a t
converse-member m a t h =
    let u : InUnion m.size (λ r. if_has a r (2 ^ converse_at m r)) t = union_below-member m.size (λ r. if_has a r (2 ^ converse_at m r)) t h in
    let p = if_has-member a u.at (2 ^ converse_at m u.at) t u.member in
    record { base = u.at; below = u.below; base_in = p.0; is_converse = sym (single-member (converse_at m u.at) t p.1) }

pub Has-converse : (m : Algebra) (a t : ℕ) → InConverse m a t → Has (converse m a) t
Has-converse m a t i =
    Has-union_below m.size (λ r. if_has a r (2 ^ converse_at m r)) t i.base i.below
    (Has-if_has a i.base (2 ^ converse_at m i.base) t i.base_in
    (subst (λ u. Has (2 ^ converse_at m i.base) u) i.is_converse (Has-single (converse_at m i.base))))

-- the members of a composition, and what has them
pub composition-members : (m : Algebra) (a b t : ℕ) → IsTable m → Has (composition m a b) t ↔ InComposition m a b t
composition-members m a b t k = (composition-member m a b t k, Has-composition m a b t)

pub converse-members : (m : Algebra) (a t : ℕ) → Has (converse m a) t ↔ InConverse m a t
converse-members m a t = (converse-member m a t, Has-converse m a t)

pub composition-within : (m : Algebra) (a b : ℕ) → IsTable m → IsWithin (composition m a b) (full_of m)
composition-within m a b k = record {
  each = λ t h. Has-full m t (composition-member m a b t k h).composes.below;
}

pub converse-within : (m : Algebra) (a : ℕ) → IsTable m → IsWithin (converse m a) (full_of m)
converse-within m a k = record {
  each = λ t h. let i : InConverse m a t = converse-member m a t h in
      Has-full m t (subst (λ u. u < m.size) i.is_converse (k.converse_below i.base i.below));
}
