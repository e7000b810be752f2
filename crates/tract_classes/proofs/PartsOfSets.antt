-- The parts of sets.
use Rattle.std.proofs.Common.{◌≡◌, ◌≢◌, ℕ, zero, suc, ◌+◌, ◌^◌, ◌<◌, ◌≤◌, List, [], ◌∷◌, length, get_or, refl, sym, ap, ◌∙◌, subst, arith, inl, inr}
use Rattle.std.specs.Prelude.{Contains, All, bit_and, bit_or, bit_xor, count_ones}
use Rattle.std.proofs.lemmas.Bool.{cases_lt, cases_eq}
use Rattle.std.proofs.lemmas.Nat.{zero_from_ones, pow_pos}
use Rattle.std.proofs.lemmas.List.Elements.{All-nil, All-cons, All-weaker}
use Rattle.std.proofs.lemmas.List.Kept.{AllPairs-cons}
use Rattle.calculus_table.specs.Rel.{Has, IsWithin}
use Rattle.calculus_table.proofs.Sets.{IsWithin-refl, IsWithin-trans, meet-within, within-meet}
use Rattle.calculus_table.proofs.Members.{single-member}
use Rattle.tract_classes.specs.Class.{IsClass, HasBasesOf}
use Rattle.tract_classes.specs.Parts.{ComesAfter, IsLargestWithin, AreParts, AreDisjoint, IsPartition, PartsExist, PartsAreOne, PartsArePartition, MemberIsItsPart}
use Rattle.tract_classes.proofs.Counts.{count-within, count_zero}
use Rattle.tract_classes.proofs.Leftovers.{left-within, left-apart, left-union, left-less, empty-from, apart-within, xor_self}
use Rattle.tract_classes.proofs.LargestMembers.{IsLargestBefore, IsLargestBefore-none, IsLargestBefore-kept, IsLargestBefore-next, IsLargestBefore-all}

-- ---- the largest member within a set

-- the set itself, where it is a member
pub largest_itself : (class : List ℕ) (a : ℕ) → Contains class a → IsLargestWithin class a a
largest_itself class a c = record {
  member = c;
  within = IsWithin-refl a;
  largest = λ b _ w ne. inl (count-within b a w ne);
}

-- a single base relation of the set is within it
single-within : (set r : ℕ) → Has set r → IsWithin (2 ^ r) set
single-within set r h = record { each = λ t e. subst (Has set) (sym (single-member r t e)) h }

-- it isn't empty
pub largest_some : (class : List ℕ) (set a : ℕ) → HasBasesOf class set → set ≢ 0 → IsLargestWithin class set a → a ≢ 0
largest_some class set a bases some h e = some (empty-from set (λ r has.
    elim (h.largest (2 ^ r) (bases r has) (single-within set r has) (λ same. omega (arith, pow_pos r))) [
      | inl l ↦ omega (arith, zero-count a e)
      | inr (same, l) ↦ (let none : 2 ^ r ≡ 0 = zero_from_ones (2 ^ r) (same ∙ zero-count a e) in omega (arith, pow_pos r))
    ]))
  where
    zero-count : (x : ℕ) → x ≡ 0 → count_ones x ≡ 0
    zero-count x e = ap count_ones e ∙ count_zero

-- there is one, found among the first members
module _ (class : List ℕ) (is : IsClass class) (set : ℕ) where
  next_largest : (k a : ℕ) → k < length class → IsLargestBefore class set k a → (b : ℕ) × IsLargestBefore class set (k + 1) b
  next_largest k a below h =
      let x = get_or class k 0 in
      elim (cases_eq (bit_and x set) x) [
        | inl e ↦ elim (cases_lt (count_ones a) (count_ones x)) [
          | inl more ↦ (x, IsLargestBefore-next class is set k a below h (within-meet x set e) more)
          | inr fewer ↦ (a, IsLargestBefore-kept class is set k a below h (λ _. fewer))
        ]
        | inr ne ↦ (a, IsLargestBefore-kept class is set k a below h (λ w. absurd (ne (meet-within x set w))))
      ]

  some_largest : (k : ℕ) → k ≤ length class → (a : ℕ) × IsLargestBefore class set k a
  some_largest zero h = (0, IsLargestBefore-none class is set)
  some_largest (suc k) h =
      let before = some_largest k (omega arith) in
      let next = next_largest k before.0 (omega arith) before.1 in
      (next.0, subst (λ j. IsLargestBefore class set j next.0) (omega arith) next.1)

  largest_exists : (a : ℕ) × IsLargestWithin class set a
  largest_exists = let found = some_largest (length class) (omega arith) in (found.0, IsLargestBefore-all class is set found.0 found.1)

largest_one : (class : List ℕ) (set a b : ℕ) → IsLargestWithin class set a → IsLargestWithin class set b → a ≡ b
largest_one class set a b h k = elim (cases_eq a b) [
  | inl e ↦ e
  | inr ne ↦ absurd (differ (h.largest b k.member k.within (λ e. ne (sym e))) (k.largest a h.member h.within ne))
]
  where
    differ : ComesAfter a b → ComesAfter b a → ⊥
    differ (inl l) (inl m) = omega arith
    differ (inl l) (inr m) = omega (arith, m.0)
    differ (inr l) (inl m) = omega (arith, l.0)
    differ (inr l) (inr m) = omega (arith, l.1, m.1)

-- ---- parts

-- what the largest member leaves has its base relations in the class too
pub HasBasesOf-left : (class : List ℕ) (set a : ℕ) → HasBasesOf class set → IsWithin a set → HasBasesOf class (bit_xor set a)
HasBasesOf-left class set a h w r has = h r ((left-within set a w).each r has)

parts_within : (d : ℕ) (class : List ℕ) (set : ℕ) → set ≤ d → IsClass class → HasBasesOf class set → (parts : List ℕ) × AreParts class set parts
parts_within zero class set le is bases = ([], omega arith)
parts_within (suc d) class set le is bases = elim (cases_eq set 0) [
  | inl e ↦ ([], e)
  | inr some ↦ (
      let found = largest_exists class is set in
      let less : bit_xor set found.0 < set = left-less set found.0 found.1.within (largest_some class set found.0 bases some found.1) in
      let rest = parts_within d class (bit_xor set found.0) (omega arith) is (HasBasesOf-left class set found.0 bases found.1.within) in
      (found.0 ∷ rest.0, (some, found.1, rest.1)))
]

pub parts_exist : PartsExist
parts_exist class set is bases = parts_within set class set (omega arith) is bases

pub parts_one : PartsAreOne
parts_one class set [] [] h k = refl
parts_one class set [] (b ∷ others) h k = absurd (k.0 h)
parts_one class set (a ∷ parts) [] h k = absurd (h.0 k)
parts_one class set (a ∷ parts) (b ∷ others) h k =
    let e : a ≡ b = largest_one class set a b h.1 k.1 in
    let rest : parts ≡ others = parts_one class (bit_xor set a) parts others h.2 (subst (λ x. AreParts class (bit_xor set x) others) (sym e) k.2) in
    ap (λ x. x ∷ parts) e ∙ ap (λ xs. b ∷ xs) rest

pub member_part : MemberIsItsPart
member_part class a c some = (some, largest_itself class a c, xor_self a)

-- ---- the partition

-- the parts of a set are a partition of it, and each is within it
pub record IsPartitionWithin (class : List ℕ) (set : ℕ) (parts : List ℕ) : Type 0 where
  pub partition : IsPartition class set parts
  pub within : All (λ a. IsWithin a set) parts

pub partition_within : (class : List ℕ) (set : ℕ) (parts : List ℕ) → HasBasesOf class set → AreParts class set parts → IsPartitionWithin class set parts
partition_within class set [] bases h = record {
  partition = record { members = All-nil (Contains class); some = All-nil (λ a. a ≢ 0); disjoint = λ i j d l below. absurd (omega arith); union = sym h };
  within = All-nil (λ a. IsWithin a set);
}
partition_within class set (a ∷ parts) bases (some, largest, rest) =
    let w = largest.within in
    let more : IsPartitionWithin class (bit_xor set a) parts = partition_within class (bit_xor set a) parts (HasBasesOf-left class set a bases w) rest in
    record {
      partition = record {
        members = All-cons (Contains class) a parts largest.member more.partition.members;
        some = All-cons (λ x. x ≢ 0) a parts (largest_some class set a bases some largest) more.partition.some;
        disjoint = AllPairs-cons AreDisjoint a parts
            (All-weaker (λ x. IsWithin x (bit_xor set a)) (AreDisjoint a) (λ x v. apart-within a (bit_xor set a) x v (left-apart set a w)) parts more.within)
            more.partition.disjoint;
        union = ap (bit_or a) more.partition.union ∙ left-union set a w;
      };
      within = All-cons (λ x. IsWithin x set) a parts w
          (All-weaker (λ x. IsWithin x (bit_xor set a)) (λ x. IsWithin x set) (λ x v. IsWithin-trans x (bit_xor set a) set v (left-within set a w)) parts more.within);
    }

pub parts_partition : PartsArePartition
parts_partition class set parts is bases h = (partition_within class set parts bases h).partition
