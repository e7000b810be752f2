use Rattle.std.proofs.Common.{rules, ◌≡◌, ℕ, List, sym, subst}
use Rattle.network_words.specs.Network.{IsNetwork}
use Rattle.closure_seq.specs.Paths.{IsClosedNetwork}
use Rattle.closure_seq.proofs.Counted.{IsClosedNetwork-closure}
use Rattle.tests_of_closures.proofs.closures.close_from.Goals as goal

pub close_within-requires-clause-closed : goal.close_within-requires-clause-closed
close_within-requires-clause-closed g c =
    let m = c.args.c.now.algebra in
    let other = c.args.other in
    let net : IsNetwork m other.nodes other.words = search rules in
    let nodes : other.nodes ≡ c.args.net.now.nodes = search rules in
    let closure = c.close_with.ensures.closure in
    let closed = IsClosedNetwork-closure m other.nodes other.words c.close_with.new.net.words net closure in
    subst (λ n. IsClosedNetwork m n c.words.result.now) nodes
    (subst (λ (ws : List ℕ). IsClosedNetwork m other.nodes ws) (sym c.words.ensures.value) closed)
