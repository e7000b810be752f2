-- The input that a demonstration makes for itself from a seed: rectangles and relations that are drawn. The draws are those of a
-- linear congruential generator (Lehmer 1951) with the constants of Numerical Recipes.
use Rattle.std.specs.Prelude.{◌≡◌, ℕ, zero, suc, ◌+◌, ◌*◌, ◌/◌, ◌%◌, ◌<◌, ◌==◌, Bool, true, false, List, [], ◌∷◌, length, slice_index, slice_index_or, pos, if◌then◌else◌}
use Rattle.calculus_table.specs.Composition.{full_of}
use Rattle.calculus_builtin.specs.Rcc8.{rcc8_algebra}
use Rattle.network_words.specs.Edge.{edge_count, edge_at}
use Rattle.network_words.specs.Network.{Network}
use Rattle.poly_exact.specs.declared.points.Point.{Point}
use Rattle.poly_exact.specs.Kept.{kept}
use Rattle.geo_facts.specs.Facts.{IsRcc8}
use Rattle.geo_facts.specs.LineForm.{point_from}

-- ---- draws

-- the generator's state after x
abbrev pub advance : ℕ → ℕ
advance x = (1664525 * x + 1013904223) % 4294967296

-- the state after k draws
unfoldable pub state : ℕ → ℕ → ℕ
state seed zero = seed
state seed (suc k) = advance (state seed k)

-- what is drawn below m with this state
abbrev pub drawn : ℕ → ℕ → ℕ
drawn m x = x / 65536 % m

-- ---- the rectangles

-- the corners of a rectangle, from the lower left one counterclockwise
abbrev pub corners : ℕ → ℕ → ℕ → ℕ → List Point
corners left bottom width height =
    point_from (pos left) (pos bottom) ∷ point_from (pos (left + width)) (pos bottom)
    ∷ point_from (pos (left + width)) (pos (bottom + height)) ∷ point_from (pos left) (pos (bottom + height)) ∷ []

-- the rectangle of the four draws after the state x: left and bottom, width and height
abbrev pub rectangle_after : ℕ → List Point
rectangle_after x =
    corners (drawn 100 (advance x)) (drawn 100 (advance (advance x))) (drawn 40 (advance (advance (advance x))) + 1)
    (drawn 40 (advance (advance (advance (advance x)))) + 1)

-- the ring of a node
abbrev pub demo_ring : ℕ → ℕ → List Point
demo_ring seed node = kept (rectangle_after (state seed (4 * node)))

-- ---- the relations

-- after the state x a relation is forgotten
abbrev pub is_forgotten_after : ℕ → Bool
is_forgotten_after x = drawn 4 (advance x) == 0

-- the edge of n nodes with this number is forgotten
abbrev pub is_forgotten : ℕ → ℕ → ℕ → Bool
is_forgotten seed n edge = is_forgotten_after (state seed (4 * n + edge))

-- the set of two rings, for an edge that is forgotten or not: all base relations, or that of the rings
abbrev pub IsDrawnWord : Bool → List Point → List Point → ℕ → Type 0
IsDrawnWord true vs ws word = word ≡ full_of rcc8_algebra
IsDrawnWord false vs ws word = IsRcc8 vs ws word

-- how many of the first edges aren't forgotten
unfoldable pub kept_below : ℕ → ℕ → ℕ → ℕ
kept_below seed n zero = 0
kept_below seed n (suc edge) = kept_below seed n edge + (if is_forgotten seed n edge then 0 else 1)

-- the edges of n nodes with numbers below e have their sets
abbrev pub HaveDrawnWords : ℕ → ℕ → List ℕ → ℕ → Type 0
HaveDrawnWords seed n words e = (i j : ℕ) → i < j → j < n → edge_at n i j < e →
    IsDrawnWord (is_forgotten seed n (edge_at n i j)) (demo_ring seed i) (demo_ring seed j) (slice_index words (edge_at n i j))

-- the network of the seed, and how many of its edges aren't forgotten
pub record IsDemo (seed n : ℕ) (net : Network) (count : ℕ) : Type 0 where
  pub nodes : net.nodes ≡ n
  pub full : net.full ≡ full_of rcc8_algebra
  pub names : net.names ≡ []
  pub length_is : length net.words ≡ edge_count n
  pub words : HaveDrawnWords seed n net.words (edge_count n)
  pub count_is : count ≡ kept_below seed n (edge_count n)

-- ---- on the way

-- the ring of a node among rings
abbrev pub ring_of : List (List Point) → ℕ → List Point
ring_of rings node = slice_index_or rings node []

-- the rings of the first nodes, and the state after
pub record AreDemoRings (seed nodes : ℕ) (rings : List (List Point)) : Type 0 where
  pub length_is : length rings ≡ nodes
  pub each : (node : ℕ) → node < nodes → ring_of rings node ≡ demo_ring seed node

-- before the draw of the edge with number e
pub record IsDemoTo (seed n x : ℕ) (words : List ℕ) (count e : ℕ) : Type 0 where
  pub state_is : x ≡ state seed (4 * n + e)
  pub words_are : HaveDrawnWords seed n words e
  pub count_is : count ≡ kept_below seed n e

-- a drawn relation of two rings, and whether it counts
pub record IsDrawn (x : ℕ) (vs ws : List Point) (word count : ℕ) : Type 0 where
  pub word_is : IsDrawnWord (is_forgotten_after x) vs ws word
  pub count_is : count ≡ (if is_forgotten_after x then 0 else 1)
