-- Tests that compute: whether a table of numbers has its shape and its names are distinct, and whether it obeys the four laws.
use Rattle.std.specs.Prelude.{ℕ, zero, suc, ◌*◌, ◌^◌, Bool, true, not, ◌&&◌, ◌||◌, ◌==◌, nat_lt, nat_le, List, [], length, slice_index_or}
use Rattle.std.specs.Int.{bit_at}
use Rattle.std.specs.Str.{bytes_eq}
use Rattle.calculus_table.specs.Algebra.{Algebra, converse_at, entry_at}
use Rattle.calculus_table.specs.declared.TheConstants.{MAX_BASES}

-- the test holds at each number below the bound
abbrev pub each_below : ℕ → (ℕ → Bool) → Bool
each_below zero test = true
each_below (suc n) test = test n && each_below n test

-- the entry of r and s has members below the size alone
abbrev pub is_entry_within : Algebra → ℕ → ℕ → Bool
is_entry_within m r s = nat_lt (entry_at m r s) (2 ^ m.size)

abbrev pub is_row_within : Algebra → ℕ → Bool
is_row_within m r = each_below m.size (is_entry_within m r)

abbrev pub is_converse_below : Algebra → ℕ → Bool
is_converse_below m r = nat_lt (converse_at m r) m.size

-- the table has the right shape
abbrev pub has_shape : Algebra → Bool
has_shape m =
    nat_lt 0 m.size && nat_le m.size MAX_BASES && nat_lt m.identity m.size && (length m.converses == m.size) && (length m.table == m.size * m.size) && each_below m.size (is_converse_below m) && each_below m.size (is_row_within m)

-- the converse of the converse of r is r, and the identity is its own converse
abbrev pub obeys_involution : Algebra → ℕ → Bool
obeys_involution m r =
    (converse_at m (converse_at m r) == r) && (not (r == m.identity) || converse_at m r == r)

-- the identity composed with r, on either side, is r alone
abbrev pub obeys_identity : Algebra → ℕ → Bool
obeys_identity m r = (entry_at m m.identity r == 2 ^ r) && (entry_at m r m.identity == 2 ^ r)

-- t is in r;s as much as its converse in the composition of the converses in the other order
abbrev pub obeys_converse : Algebra → ℕ → ℕ → ℕ → Bool
obeys_converse m r s t =
    bit_at (entry_at m r s) t == bit_at (entry_at m (converse_at m s) (converse_at m r)) (converse_at m t)

-- t is in r;s as much as r in t;(the converse of s)
abbrev pub obeys_cycle : Algebra → ℕ → ℕ → ℕ → Bool
obeys_cycle m r s t = bit_at (entry_at m r s) t == bit_at (entry_at m t (converse_at m s)) r

-- a test of each triple of base relations
abbrev pub each_third : Algebra → (ℕ → ℕ → ℕ → Bool) → ℕ → ℕ → Bool
each_third m test r s = each_below m.size (test r s)

abbrev pub each_pair : Algebra → (ℕ → ℕ → ℕ → Bool) → ℕ → Bool
each_pair m test r = each_below m.size (each_third m test r)

abbrev pub each_triple : Algebra → (ℕ → ℕ → ℕ → Bool) → Bool
each_triple m test = each_below m.size (each_pair m test)

-- the name at j is another than the name at k
abbrev pub is_other_name : List (List ℕ) → ℕ → ℕ → Bool
is_other_name names k j = not (bytes_eq (slice_index_or names j []) (slice_index_or names k []))

abbrev pub is_new_name : List (List ℕ) → ℕ → Bool
is_new_name names k = each_below k (is_other_name names k)

abbrev pub are_distinct : List (List ℕ) → Bool
are_distinct names = each_below (length names) (is_new_name names)
