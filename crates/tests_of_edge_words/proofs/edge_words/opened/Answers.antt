use Rattle.std.proofs.Common.{[], replicate, sym, subst}
use Rattle.network_words.specs.Edge.{edge_count}
use Rattle.network_words.specs.Network.{Network, IsNetwork}
use Rattle.network_words.proofs.NetsOfFacts.{IsNetworkOfFacts-none, IsNetwork-from_facts}
use Rattle.tests_of_edge_words.proofs.edge_words.opened.Goals as goal

pub open-requires-clause-network : goal.open-requires-clause-network
open-requires-clause-network c =
    let m = c.args.c.now.algebra in
    let n = c.args.nodes in
    subst (λ (net : Network). IsNetwork m net.nodes net.words) (sym c.in-Ok.ensures.ok)
    (subst (λ full. IsNetwork m n (replicate (edge_count n) full)) (sym c.full.ensures) (IsNetwork-from_facts m n [] _ (IsNetworkOfFacts-none m n)))
