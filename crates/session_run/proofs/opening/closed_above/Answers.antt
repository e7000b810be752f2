-- The network of the newest version is closed, and so is the one with full sets.
use Rattle.std.proofs.Common.{◌≡◌, ℕ, List, [], replicate, ap, ◌∙◌}
use Rattle.calculus_table.specs.Composition.{full_of}
use Rattle.network_words.specs.Edge.{edge_count}
use Rattle.network_words.specs.Network.{Network, IsNetwork}
use Rattle.network_words.specs.Closure.{IsClosed}
use Rattle.session_versions.specs.HeldFacts.{facts_of}
use Rattle.session_versions.proofs.Closures.{IsClosureOfFacts-none, IsNetwork-closure_of_facts}
use Rattle.session_run.proofs.Made.{if_ok-same}
use Rattle.session_run.proofs.opening.closed_above.Goals as goal

pub returns-then-not-fewer-clause-network : goal.returns-then-not-fewer-clause-network
returns-then-not-fewer-clause-network g c =
    let store = c.args.store.now in
    if_ok-same (λ (net : Network). IsNetwork store.calculus store.nodes net.words) c.copy.result c.newest_words.result.now c.copy.ensures
    (rw c.newest_words.ensures (IsNetwork-closure_of_facts store.calculus store.nodes (facts_of store.newest.facts) store.newest.net.words c.requires.store.newest.closure))

pub returns-then-not-fewer-clause-closed : goal.returns-then-not-fewer-clause-closed
returns-then-not-fewer-clause-closed g c =
    let store = c.args.store.now in
    if_ok-same (λ (net : Network). IsClosed store.calculus store.nodes net.words) c.copy.result c.newest_words.result.now c.copy.ensures
    (rw c.newest_words.ensures c.requires.store.newest.closure.closed.closed)

pub returns-clause-network : goal.returns-clause-network
returns-clause-network g c =
    let store = c.args.store.now in
    let full : ℕ → List ℕ = λ (k : ℕ). replicate (edge_count k) (full_of store.calculus) in
    let words : c.in-Ok.net.words ≡ full store.nodes =
    ap (λ (x : Network). x.words) c.in-Ok.ensures.ok ∙ ap (replicate (edge_count c.nodes.result)) (c.full.ensures ∙ ap full_of c.requires.calculus) ∙ ap full c.nodes.ensures in
    rw words (IsNetwork-closure_of_facts store.calculus store.nodes [] (full store.nodes) (IsClosureOfFacts-none store.calculus store.nodes c.requires.store.calculus))

pub returns-clause-closed : goal.returns-clause-closed
returns-clause-closed g c =
    let store = c.args.store.now in
    let full : ℕ → List ℕ = λ (k : ℕ). replicate (edge_count k) (full_of store.calculus) in
    let words : c.in-Ok.net.words ≡ full store.nodes =
    ap (λ (x : Network). x.words) c.in-Ok.ensures.ok ∙ ap (replicate (edge_count c.nodes.result)) (c.full.ensures ∙ ap full_of c.requires.calculus) ∙ ap full c.nodes.ensures in
    rw words (IsClosureOfFacts-none store.calculus store.nodes c.requires.store.calculus).closed.closed
