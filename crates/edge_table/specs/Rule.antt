-- The rule of the table: its words and the actors of its passes are a machine of which the bound holds.
use Rattle.std.specs.Prelude.{◌≡◌, ℕ, ◌+◌, ◌≤◌, false, [], length, map, take, slice_index}
use Rattle.atomic_table.specs.Table.{State, Me}
use Rattle.calculus_table.specs.Composition.{full_of}
use Rattle.network_words.specs.Edge.{edge_count}
use Rattle.network_words.specs.declared.fact.Fact.{Fact}
use Rattle.narrow_core.specs.Actor.{fresh, seeing, stating, giving, joining}
use Rattle.narrow_core.specs.Machine.{CoreState}
use Rattle.narrow_core.specs.Bound.{Holds}
use Rattle.edge_table.specs.Opening.{padded, algebra_of}
use Rattle.edge_table.specs.declared.TheConstants.{MAX_WEIGHT}
use Rattle.edge_table.specs.declared.rule.Opening.{Opening}
use Rattle.edge_table.specs.declared.sight.Sight.{Sight}

-- the machine that the table is: its actors are those of the passes, whose counts play no part
abbrev pub core_of : Opening → State ℕ Sight → CoreState
core_of o s = record {
  nodes = o.nodes;
  full = full_of (algebra_of o);
  opening = o.words;
  opening_weight = o.weight;
  words = take (edge_count o.nodes) s.words;
  actors = map (λ (v : Sight). v.actor) s.views;
}

-- what the table keeps between any two steps of anyone
pub record IsKept (o : Opening) (s : State ℕ Sight) : Type 0 where
  pub bounded : o.weight ≤ MAX_WEIGHT
  pub length_is : length s.words ≡ length (padded o.words)
  pub holds : Holds (algebra_of o) (core_of o s)

-- ---- views

-- the view of the first pass
abbrev pub first_view : Opening → Sight
first_view o = record { actor = fresh o.weight o.words; loads = 0; fetch_ands = 0 }

-- the view of a pass that has given away some of its weight
abbrev pub keeping : ℕ → Sight → Sight
keeping left v = record v { actor = giving left v.actor }

-- the view of a pass that begins with this weight and has seen the same as another
abbrev pub beginning : ℕ → Sight → Sight
beginning weight v = record { actor = fresh weight v.actor.seen; loads = 0; fetch_ands = 0 }

-- the view of a pass that has taken over what another has, and its counts
abbrev pub uniting : Sight → Sight → Sight
uniting v w = record {
  actor = joining v.actor w.actor;
  loads = v.loads + w.loads;
  fetch_ands = v.fetch_ands + w.fetch_ands;
}

-- what is left of a pass that was joined to another
abbrev pub no_view : Sight
no_view = record { actor = record { is_live = false; weight = 0; mine = []; seen = [] }; loads = 0; fetch_ands = 0 }

-- ---- what a step tells a pass

-- a load: its actor has seen the set x on the edge e, and now has just that set there
pub record Loads (e x : ℕ) (v w : Me ℕ Sight) : Type 0 where
  pub after : w.0 ≡ record v.0 { actor = seeing e x v.0.actor; loads = v.0.loads + 1 }
  pub carries : w.1 ≡ v.1
  pub shown : slice_index w.0.actor.seen e ≡ x

-- the same of a `fetch_and`
pub record Meets (e x : ℕ) (v w : Me ℕ Sight) : Type 0 where
  pub after : w.0 ≡ record v.0 { actor = seeing e x v.0.actor; fetch_ands = v.0.fetch_ands + 1 }
  pub carries : w.1 ≡ v.1
  pub shown : slice_index w.0.actor.seen e ≡ x

-- the same of a `fetch_and` that states a fact too
pub record States (fact : Fact) (e x : ℕ) (v w : Me ℕ Sight) : Type 0 where
  pub after : w.0 ≡ record v.0 { actor = seeing e x (stating fact v.0.actor); fetch_ands = v.0.fetch_ands + 1 }
  pub carries : w.1 ≡ v.1
  pub shown : slice_index w.0.actor.seen e ≡ x

-- the view stays, and its weight is within the limit
pub record Weighs (v w : Me ℕ Sight) : Type 0 where
  pub same : w ≡ v
  pub bounded : v.0.actor.weight ≤ MAX_WEIGHT
