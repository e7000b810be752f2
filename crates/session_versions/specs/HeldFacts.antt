-- Facts that sessions have stated and not withdrawn.
use Rattle.std.specs.Prelude.{ℕ, ◌<◌, ◌==◌, List, map, find, All, AllPairs, Option}
use Rattle.network_words.specs.declared.fact.Fact.{Fact}

-- what contracts see of a held fact: its number, the name of the session that stated it, and the fact
pub record HeldFact : Type 0 where
  pub number : ℕ
  pub session : List ℕ
  pub fact : Fact

-- the facts alone
abbrev pub facts_of : List HeldFact → List Fact
facts_of helds = map (λ held. held.fact) helds

-- the numbers rise from fact to fact, and each is below `next`
pub record AreNumbered (helds : List HeldFact) (next : ℕ) : Type 0 where
  pub rising : AllPairs (λ a b. a.number < b.number) helds
  pub below : All (λ held. held.number < next) helds

-- the fact with this number
abbrev pub held_with : ℕ → List HeldFact → Option HeldFact
held_with number helds = find (λ held. held.number == number) helds
