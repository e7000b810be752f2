-- What a table of edge words was opened with, and what contracts see of the table and of its passes.
use Rattle.std.specs.Prelude.{◌≡◌, ℕ, ◌<◌, ◌≤◌, IsTrue, List, [], ◌∷◌, length}
use Rattle.atomic_table.specs.Seated.{TableId}
use Rattle.calculus_table.specs.Algebra.{Algebra}
use Rattle.calculus_table.specs.Composition.{full_of}
use Rattle.calculus_table.specs.Calculus.{IsCalculus}
use Rattle.network_words.specs.Edge.{edge_count}
use Rattle.network_words.specs.Network.{Network}
use Rattle.network_words.specs.declared.TheConstants.{MAX_NODES}
use Rattle.narrow_core.specs.Actor.{ActorState}
use Rattle.narrow_core.specs.Machine.{IsProperActor}
use Rattle.edge_table.specs.declared.rule.Opening.{Opening}

-- the opening over a network, with this weight, in the calculus of this algebra, whose names play no part
abbrev pub opening_over : Network → ℕ → Algebra → Opening
opening_over net weight m = record { nodes = net.nodes; words = net.words; weight = weight; calculus = record { names = []; algebra = m } }

-- the first of these openings
abbrev pub opening_of : List Opening → Opening
opening_of [] = record {
  nodes = 0;
  words = [];
  weight = 0;
  calculus = record { names = []; algebra = record { size = 0; identity = 0; converses = []; table = [] } };
}
opening_of (o ∷ os) = o

-- the words of a table: with one node, which has no edge, there is one word that is never used
abbrev pub padded : List ℕ → List ℕ
padded [] = 0 ∷ []
padded (x ∷ xs) = x ∷ xs

-- the algebra of the calculus with which the table was opened
abbrev pub algebra_of : Opening → Algebra
algebra_of o = o.calculus.algebra

-- what contracts see of a table: which it is, and its opening
pub record OpenState : Type 0 where
  pub id : TableId
  pub opening : Opening

-- what contracts see of a pass: the table that it belongs to, the nodes and the full set of its opening, the actor that it is, and
-- how often it has loaded a word and has made a `fetch_and`
pub record PassState : Type 0 where
  pub id : TableId
  pub nodes : ℕ
  pub full : ℕ
  pub actor : ActorState
  pub loads : ℕ
  pub fetch_ands : ℕ

-- what contracts see of a token of a closed table: its opening, its last pass, and the words that it was closed with
pub record ClosedState : Type 0 where
  pub opening : Opening
  pub pass : PassState
  pub words : List ℕ

-- the pass belongs to the table
pub record IsPassOf (table : OpenState) (pass : PassState) : Type 0 where
  pub id : pass.id ≡ table.id
  pub nodes : pass.nodes ≡ table.opening.nodes
  pub full : pass.full ≡ full_of (algebra_of table.opening)

-- what every table keeps: the nodes of its opening, a word for each edge, and a calculus
pub record IsOpen (nodes : ℕ) (table : OpenState) : Type 0 where
  pub nodes_are : nodes ≡ table.opening.nodes
  pub some : 0 < nodes
  pub bounded : nodes ≤ MAX_NODES
  pub length_is : length table.opening.words ≡ edge_count table.opening.nodes
  pub words : table.id.words ≡ length (padded table.opening.words)
  pub slots : table.id.slots ≡ 0
  pub calculus : IsCalculus (algebra_of table.opening)

-- what every pass keeps: it is live, holds no slot of the table, and has seen a set for each edge and stated proper facts
pub record IsPass (weight : ℕ) (carried : List (ℕ × ℕ)) (pass : PassState) : Type 0 where
  pub carries : carried ≡ []
  pub live : IsTrue pass.actor.is_live
  pub weighs : weight ≡ pass.actor.weight
  pub proper : IsProperActor pass.nodes pass.full pass.actor
