-- Sets turned round and composed with another.
use Rattle.std.proofs.Common.{◌≡◌, ℕ, ◌+◌, ◌-◌, ◌*◌, ◌/◌, ◌%◌, ◌^◌, ◌<◌, ◌≤◌, List, length, get_or, sym, ap, ◌∙◌, subst, add-one, arith, inl, inr}
use Rattle.std.specs.Prelude.{bit_or, Contains, slice_index}
use Rattle.std.specs.Int.Bits.{or_shifted_r}
use Rattle.std.proofs.lemmas.Bool.{cases_lt}
use Rattle.std.proofs.lemmas.Nat.{pow-add, pow_pos, div-add-mod', mod_below}
use Rattle.std.proofs.Math.Nat.{pow-le-pow_right, pow-succ', mul-le-mul_right, one-mul}
use Rattle.std.proofs.lemmas.List.Elements.{Contains-get_or}
use Rattle.calculus_table.specs.Algebra.{Algebra}
use Rattle.calculus_table.specs.Composition.{full_of, composition, converse}
use Rattle.calculus_table.specs.Calculus.{IsTable, IsCalculus}
use Rattle.calculus_table.proofs.Sets.{not_Has-empty, empty-within, IsWithin-le}
use Rattle.calculus_table.proofs.Compositions.{single-member, composition-member, converse-member, composition-within, composition-union_l, converse-union, converse-converse, converse-composition}
use Rattle.tract_classes.specs.Class.{AreSetsOf, EachMember, EachPair, HasConverse, HasComposition}
use Rattle.tract_classes.specs.Turned.{turned, HasTurned, EachFrom, IsTableOf, looked_up, HasLookedUp}
use Rattle.tract_classes.proofs.Ascending.{at_place}

-- ---- the empty set, no base relation, and a union

composition-empty : (m : Algebra) (b : ℕ) → IsTable m → composition m 0 b ≡ 0
composition-empty m b k = empty-within _ (record { each = λ t h. absurd (not_Has-empty _ (composition-member m 0 b t k h).first_in) })

pub turned-empty : (m : Algebra) (b x : ℕ) → IsTable m → converse m x ≡ 0 → turned m b x ≡ 0
turned-empty m b x k e = ap (λ a. composition m a b) e ∙ composition-empty m b k

pub converse-of_empty : (m : Algebra) → converse m 0 ≡ 0
converse-of_empty m = empty-within _ (record { each = λ t h. absurd (not_Has-empty _ (converse-member m 0 t h).base_in) })

pub converse-beyond : (m : Algebra) (r : ℕ) → m.size ≤ r → converse m (2 ^ r) ≡ 0
converse-beyond m r beyond = empty-within _ (record {
  each = λ t h. let i = converse-member m (2 ^ r) t h in
      let e : i.base ≡ r = single-member r i.base i.base_in in
      absurd (omega (arith, i.below));
})

pub turned-union : (m : Algebra) (b x y : ℕ) → IsTable m → turned m b (bit_or x y) ≡ bit_or (turned m b x) (turned m b y)
turned-union m b x y k = ap (λ a. composition m a b) (converse-union m x y) ∙ composition-union_l m (converse m x) (converse m y) b k

-- ---- tables

-- the places of a table up to 2 ^ k
pub record IsTableBelow (m : Algebra) (b first k : ℕ) (table : List ℕ) : Type 0 where
  pub each : (d : ℕ) → d < 2 ^ k → slice_index table d ≡ turned m b (d * 2 ^ first)

pub IsTableBelow-none : (m : Algebra) (b first : ℕ) (table : List ℕ) → IsTable m → slice_index table 0 ≡ 0 → IsTableBelow m b first 0 table
IsTableBelow-none m b first table k e = record {
  each = λ d l. let none : d ≡ 0 = omega (arith, l) in
      let empty : d * 2 ^ first ≡ 0 = ap (λ n. n * 2 ^ first) none ∙ omega arith in
      ap (slice_index table) none ∙ e ∙ sym (turned-empty m b (d * 2 ^ first) k (ap (converse m) empty ∙ converse-of_empty m));
}

-- the set of a place and one base relation more
one_more : (first k d : ℕ) → d < 2 ^ k → bit_or (d * 2 ^ first) (2 ^ (first + k)) ≡ (2 ^ k + d) * 2 ^ first
one_more first k d l =
    let power : 2 ^ (first + k) ≡ 2 ^ k * 2 ^ first = ap (λ n. 2 ^ n) (omega arith) ∙ pow-add 2 k first in
    let most : (d + 1) * 2 ^ first ≤ 2 ^ k * 2 ^ first = mul-le-mul_right (2 ^ first) (omega arith) in
    let below : d * 2 ^ first < 2 ^ (first + k) = omega (arith, power, most, pow_pos first) in
    ap (bit_or (d * 2 ^ first)) (sym (one-mul (2 ^ (first + k)))) ∙ or_shifted_r 1 (first + k) (d * 2 ^ first) below
    ∙ omega (arith, power)

pub IsTableBelow-more : (m : Algebra) (b first k : ℕ) (table next : List ℕ) (word : ℕ) → IsTable m → IsTableBelow m b first k table →
    word ≡ turned m b (2 ^ (first + k)) →
    ((d : ℕ) → d < 2 ^ k → slice_index next d ≡ slice_index table d) →
    ((d : ℕ) → d < 2 ^ k → slice_index next (2 ^ k + d) ≡ bit_or (slice_index table d) word) → IsTableBelow m b first (k + 1) next
IsTableBelow-more m b first k table next word t h e before here = record {
  each = λ d l. elim (cases_lt d (2 ^ k)) [
    | inl less ↦ before d less ∙ h.each d less
    | inr ge ↦ above d (d - 2 ^ k) (omega arith) (omega (arith, pow-succ' 2 k, l, ap (λ n. 2 ^ n) (add-one k)))
  ];
}
  where
    above : (d s : ℕ) → d ≡ 2 ^ k + s → s < 2 ^ k → slice_index next d ≡ turned m b (d * 2 ^ first)
    above d s at l =
        ap (slice_index next) at ∙ here s l ∙ ap (λ x. bit_or x word) (h.each s l) ∙ ap (bit_or (turned m b (s * 2 ^ first))) e
        ∙ sym (turned-union m b (s * 2 ^ first) (2 ^ (first + k)) t) ∙ ap (turned m b) (one_more first k s l) ∙ ap (λ x. turned m b (x * 2 ^ first)) (sym at)

pub IsTableOf-all : (m : Algebra) (b first : ℕ) (table : List ℕ) → IsTableBelow m b first 8 table → IsTableOf m b first table
IsTableOf-all m b first table h = record { each = λ d l. h.each d (omega arith) }

-- the two bytes of a set
bytes_of : (a : ℕ) → bit_or (a % 256 * 2 ^ 0) (a / 256 * 2 ^ 8) ≡ a
bytes_of a =
    let one : a % 256 * 2 ^ 0 ≡ a % 256 = omega arith in
    ap (λ x. bit_or x (a / 256 * 2 ^ 8)) one ∙ or_shifted_r (a / 256) 8 (a % 256) (mod_below a 256 (omega arith)) ∙ div-add-mod' a 256

pub looked_up-turned : (m : Algebra) (b a : ℕ) (low high : List ℕ) → IsTable m → a < 65536 → IsTableOf m b 0 low → IsTableOf m b 8 high →
    looked_up low high a ≡ turned m b a
looked_up-turned m b a low high k l first second =
    let one : a / 256 % 256 ≡ a / 256 = omega arith in
    ap (λ x. bit_or x (slice_index high (a / 256 % 256))) (first.each (a % 256) (mod_below a 256 (omega arith)))
    ∙ ap (bit_or (turned m b (a % 256 * 2 ^ 0))) (ap (slice_index high) one ∙ second.each (a / 256) (omega arith))
    ∙ sym (turned-union m b (a % 256 * 2 ^ 0) (a / 256 * 2 ^ 8) k) ∙ ap (turned m b) (bytes_of a)

-- ---- all pairs of members

-- the sets of up to 16 base relations
pub sets-below : (m : Algebra) (class : List ℕ) → m.size ≤ 16 → AreSetsOf m class → EachMember class (λ a. a < 65536)
sets-below m class few sets a c =
    let most : 2 ^ m.size ≤ 2 ^ 16 = pow-le-pow_right {n = 2} (omega arith) few in
    omega (arith, IsWithin-le a (full_of m) (sets a c))

-- what is looked up for members is what they give turned round
module _ (m : Algebra) (class : List ℕ) (b i : ℕ) (low high : List ℕ) (k : IsTable m) (few : m.size ≤ 16) (sets : AreSetsOf m class)
    (first : IsTableOf m b 0 low) (second : IsTableOf m b 8 high) where
  same : (j : ℕ) → j < length class → looked_up low high (get_or class j 0) ≡ turned m b (get_or class j 0)
  same j below = looked_up-turned m b (get_or class j 0) low high k (sets-below m class few sets (get_or class j 0) (Contains-get_or class j 0 below)) first second

  pub from_looked_up : EachFrom class i (HasLookedUp class low high) → EachFrom class i (HasTurned m class b)
  from_looked_up each j le below = subst (Contains class) (same j below) (each j le below)

  pub to_looked_up : EachFrom class i (HasTurned m class b) → EachFrom class i (HasLookedUp class low high)
  to_looked_up each j le below = subst (Contains class) (sym (same j below)) (each j le below)

module _ (m : Algebra) (class : List ℕ) (k : IsCalculus m) (sets : AreSetsOf m class) (converses : EachMember class (HasConverse m class)) where
  twice : (a : ℕ) → Contains class a → converse m (converse m a) ≡ a
  twice a c = converse-converse m a k (sets a c)

  -- the composition of two members, from that of their converses in the other order
  from_converse : (a b : ℕ) → Contains class (composition m (converse m b) (converse m a)) → Contains class (composition m a b)
  from_converse a b c = subst (Contains class)
      (ap (converse m) (sym (converse-composition m a b k)) ∙ converse-converse m (composition m a b) k (composition-within m a b k.table))
      (converses (composition m (converse m b) (converse m a)) c)

  pub pairs-from_turned : ((i : ℕ) → i < length class → EachFrom class i (HasTurned m class (get_or class i 0))) → EachPair class (HasComposition m class)
  pairs-from_turned each a b first second =
      let turn : Contains class (converse m a) = converses a first in
      elim (cases_lt turn.0 second.0) [
        | inl less ↦ from_converse a b (subst (λ x. Contains class (composition m (converse m b) x)) (at_place class (converse m a) turn)
            (subst (λ x. Contains class (composition m (converse m x) (get_or class turn.0 0))) (at_place class b second) (each turn.0 turn.1 second.0 (omega arith) second.1)))
        | inr ge ↦ subst (λ x. Contains class (composition m x b)) (ap (converse m) (at_place class (converse m a) turn) ∙ twice a first)
            (subst (λ x. Contains class (composition m (converse m (get_or class turn.0 0)) x)) (at_place class b second) (each second.0 second.1 turn.0 (omega arith) turn.1))
      ]

  -- and what is turned round is a pair
  pub turned-from_pairs : EachPair class (HasComposition m class) → (i : ℕ) → i < length class → EachFrom class i (HasTurned m class (get_or class i 0))
  turned-from_pairs pairs i l j le below =
      pairs (converse m (get_or class j 0)) (get_or class i 0) (converses (get_or class j 0) (Contains-get_or class j 0 below)) (Contains-get_or class i 0 l)
