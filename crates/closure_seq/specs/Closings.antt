-- What closing does to a network, and from where it goes on.
use Rattle.std.specs.Prelude.{◌≡◌, ℕ, List}
use Rattle.calculus_table.specs.Algebra.{Algebra}
use Rattle.network_words.specs.Network.{Network, Refines}
use Rattle.network_words.specs.Closure.{IsClosure}
use Rattle.edge_propagation.specs.Worklist.{Worklist}
use Rattle.edge_propagation.specs.Propagation.{IsInStep}
use Rattle.closure_seq.specs.Paths.{IsClosedNetwork}

-- the network's sets became those of its closure, and the rest of it stayed
pub record HasClosed (m : Algebra) (old new : Network) : Type 0 where
  pub closure : IsClosure m old.nodes old.words new.words
  pub rest : new ≡ record old { words = new.words }

-- the pairs have the sets of a closed network, within which these words lie
pub record IsWithinPairs (m : Algebra) (n : ℕ) (words : List ℕ) (work : Worklist) : Type 0 where
  pub larger : List ℕ
  pub closed : IsClosedNetwork m n larger
  pub in_step : IsInStep m n larger work
  pub within : Refines words larger
