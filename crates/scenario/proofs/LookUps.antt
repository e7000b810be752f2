-- What the search for a triple reads: places among the base relations, and compositions in the table.
use Rattle.std.proofs.Common.{◌≡◌, ℕ, Bool, List, ◌+◌, ◌-◌, ◌*◌, ◌<◌, ◌↔◌, IsTrue, length, ap, ◌∙◌, arith, rules}
use Rattle.std.specs.Prelude.{slice_index}
use Rattle.std.proofs.Math.ListN.{get_or}
use Rattle.std.proofs.lemmas.Grind.{get_or_default_zero}
use Rattle.calculus_table.specs.Rel.{Has}
use Rattle.calculus_table.specs.Algebra.{Algebra, entry_at}
use Rattle.network_words.specs.Edge.{edge_at}
use Rattle.network_words.proofs.Edges.{edge_at-lt}
use Rattle.scenario.specs.Entries.{BeginsWithTable}
use Rattle.scenario.specs.ScenarioFault.{HasShape, ComposesAt}
use Rattle.scenario.proofs.Rows.{edge_at-after, edge_at-next}

-- the place of two base relations in a table, row by row
row_place-lt : (r s n : ℕ) → r < n → s < n → r * n + s < n * n
row_place-lt r s n p q = search rules

-- the triple of i, j and k, whose edges are `pair` from i to j, one after `next`, the first from j, and one after `pair`
module _ (m : Algebra) (n : ℕ) (relations : List ℕ) (i j k pair next : ℕ) (shape : HasShape m n relations) (o : i < j) (o2 : j < k) (b : k < n) (is_pair : pair ≡ edge_at n i j) (is_next : next ≡ edge_at n j (j + 1)) where
  next_is : next + (k - j - 1) ≡ edge_at n j k
  next_is = omega (arith, is_next, edge_at-next n j k o2)

  outer_is : pair + (k - j) ≡ edge_at n i k
  outer_is = omega (arith, is_pair, edge_at-after n i j k o o2)

  pub next-lt : next + (k - j - 1) < length relations
  next-lt = omega (arith, next_is, shape.length_is, edge_at-lt n j k o2 b)

  pub outer-lt : pair + (k - j) < length relations
  outer-lt = omega (arith, outer_is, shape.length_is, edge_at-lt n i k (omega arith) b)

  first-lt : slice_index relations pair < m.size
  first-lt = shape.below pair (omega (arith, is_pair, edge_at-lt n i j o (omega arith)))

  second-lt : slice_index relations (next + (k - j - 1)) < m.size
  second-lt = shape.below (next + (k - j - 1)) (omega (arith, next-lt, shape.length_is))

  -- the composition of the base relations of the first two, as it is looked up
  module _ (entries : List ℕ) (size r s : ℕ) (table : BeginsWithTable m entries) (is_size : size ≡ m.size) (first : r ≡ slice_index relations pair) (second : s ≡ slice_index relations (next + (k - j - 1))) where
    abbrev place : ℕ
    place = slice_index relations pair * m.size + slice_index relations (next + (k - j - 1))

    place-lt : place < m.size * m.size
    place-lt = row_place-lt (slice_index relations pair) (slice_index relations (next + (k - j - 1))) m.size first-lt second-lt

    pub entry-lt : r * size + s < length entries
    entry-lt = rw (first, second, is_size) (omega (arith, place-lt, table.room))

    entry-read : (x : ℕ) → x ≡ get_or entries (r * size + s) x → x ≡ entry_at m (slice_index relations (edge_at n i j)) (slice_index relations (edge_at n j k))
    entry-read x h =
        let at_place : x ≡ get_or entries place x = rw (first, second, is_size) at h in
        at_place ∙ get_or_default_zero entries place x (omega (arith, place-lt, table.room)) ∙ table.each place place-lt
        ∙ ap (λ e. entry_at m (slice_index relations e) (slice_index relations (next + (k - j - 1)))) is_pair
        ∙ ap (λ e. entry_at m (slice_index relations (edge_at n i j)) (slice_index relations e)) next_is

    -- its test tells whether the triple composes
    pub ComposesAt-read : (x t : ℕ) (b : Bool) → x ≡ get_or entries (r * size + s) x → t ≡ slice_index relations (pair + (k - j)) → IsTrue b ↔ Has x t → IsTrue b ↔ ComposesAt m n relations i j k
    ComposesAt-read x t b read whole h = rw (entry-read x read, whole ∙ ap (slice_index relations) outer_is) at h
