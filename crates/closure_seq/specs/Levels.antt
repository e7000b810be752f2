-- Levels of sets of base relations: the top, and a trail of what was replaced.
use Rattle.std.specs.Prelude.{◌≡◌, ℕ, ◌-◌, ◌<◌, ◌≤◌, List, [], ◌∷◌, ◌++◌, length, drop, map, All, slice_index, slice_set}
use Rattle.calculus_table.specs.Rel.{IsWithin}
use Rattle.network_words.specs.Edge.{edge_count, edge_at}
use Rattle.network_words.specs.declared.TheConstants.{MAX_NODES}
use Rattle.closure_seq.specs.declared.levels.Change.{Change}

-- what contracts see of levels: the nodes, the set of all base relations, the words of the top, those of the levels below it,
-- the first one first, and the changes of the top against the level below, the first one first
pub record LevelSets : Type 0 where
  pub nodes : ℕ
  pub full : ℕ
  pub top : List ℕ
  pub below : List (List ℕ)
  pub changes : List Change

-- a set for each edge
pub record AreSets (n full : ℕ) (sets : List ℕ) : Type 0 where
  pub length_is : length sets ≡ edge_count n
  pub within : (e : ℕ) → IsWithin (slice_index sets e) full

-- a change of the edge from i to j
pub record IsChange (n full : ℕ) (change : Change) : Type 0 where
  pub order : change.i < change.j
  pub below : change.j < n
  pub edge_is : change.edge ≡ edge_at n change.i change.j
  pub within : IsWithin change.old full

-- the sets before the changes, of which the first came first
abbrev pub restored : List ℕ → List Change → List ℕ
restored sets [] = sets
restored sets (c ∷ cs) = slice_set (restored sets cs) c.edge c.old

-- the sets of each level, which began when the trail had so many changes
abbrev pub levels_below : List ℕ → List Change → List ℕ → List (List ℕ)
levels_below sets trail marks = map (λ mark. restored sets (drop mark trail)) marks

-- the changes since the last mark
abbrev pub last_changes : List Change → List ℕ → List Change
last_changes trail marks = drop (slice_index marks (length marks - 1)) trail

-- undoing its changes, the last first, makes the top the level below
pub record IsRestoredBelow (a : LevelSets) : Type 0 where
  pub each : (bs : List (List ℕ)) (b : List ℕ) → a.below ≡ bs ++ b ∷ [] → b ≡ restored a.top a.changes

-- levels begin one after another, and each change is of an edge
pub record IsTrail (n full : ℕ) (sets : List ℕ) (trail : List Change) (marks : List ℕ) : Type 0 where
  pub bounded : n ≤ MAX_NODES
  pub top : AreSets n full sets
  pub changes : All (IsChange n full) trail
  pub ascending : (i j : ℕ) → i ≤ j → j < length marks → slice_index marks i ≤ slice_index marks j
  pub within : (j : ℕ) → j < length marks → slice_index marks j ≤ length trail
