-- Why names or facts are refused.
use Rattle.std.specs.Prelude.{ℕ, ◌+◌, List, [], ◌∷◌, Bool, not, ◌&&◌, ◌==◌, nat_lt, Option, Some, None, if◌then◌else◌}
use Rattle.calculus_table.specs.Calculus.{IsFirstRepeat}
use Rattle.network_words.specs.declared.fact.Fact.{Fact}
use Rattle.network_words.specs.declared.net.NetFault.{NetFault}
use Rattle.network_words.specs.declared.net.NetFault.TheVariants.{Nodes, NoNode, SelfEdge, NameTwice, Memory}

-- the place that is named is the first at which a name occurs again; out of memory has no cause in the names
abbrev pub IsNamesFaultOf : List (List ℕ) → NetFault → Type 0
IsNamesFaultOf names (NameTwice at) = IsFirstRepeat names at
IsNamesFaultOf names Memory = Unit {0}
IsNamesFaultOf names Nodes = ⊥
IsNamesFaultOf names (NoNode at) = ⊥
IsNamesFaultOf names (SelfEdge at) = ⊥

-- both nodes of the fact are below n
abbrev pub has_nodes : ℕ → Fact → Bool
has_nodes n fact = nat_lt fact.i n && nat_lt fact.j n

-- the first fault of the facts, of which the first stands at place `at`: of one fact, that a node isn't there comes first
abbrev pub first_fault : ℕ → ℕ → List Fact → Option NetFault
first_fault n at [] = None
first_fault n at (fact ∷ facts) =
    if not (has_nodes n fact) then Some (NoNode at)
    else (if fact.i == fact.j then Some (SelfEdge at) else first_fault n (at + 1) facts)
