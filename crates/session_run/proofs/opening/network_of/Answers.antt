-- The network gains one fact after another.
use Rattle.std.proofs.Common.{◌≡◌, ap, ◌∙◌, sym, subst, ℕ, List, [], replicate}
use Rattle.std.proofs.lemmas.List.{take_all}
use Rattle.calculus_table.specs.Composition.{full_of}
use Rattle.network_words.specs.Edge.{edge_count}
use Rattle.network_words.specs.Network.{Network}
use Rattle.network_words.specs.Facts.{IsNetworkOfFacts}
use Rattle.network_words.proofs.NetsOfFacts.{IsNetworkOfFacts-none}
use Rattle.session_versions.specs.HeldFacts.{HeldFact, facts_of}
use Rattle.session_run.proofs.Made.{network_step, proper_pair}
use Rattle.session_run.proofs.opening.network_of.Goals as goal

pub narrow-requires-clause-proper : goal.narrow-requires-clause-proper
narrow-requires-clause-proper g c =
    proper_pair (g.C.Compose.algebra c.args.c.now) c.args.nodes c.loop-held.net.nodes c.args.helds.now c.loop-held.held-index c.held-item.result c.held.inside.fact c.loop-held-test.true
    c.held-item.is (ap (λ (h : HeldFact). h.fact) c.held.view_is) c.requires.proper c.loop-held.invariant.nodes

pub loop-held-preserved : goal.loop-held-preserved
loop-held-preserved g c =
    let step = network_step (g.C.Compose.algebra c.args.c.now) c.args.nodes c.args.helds.now c.loop-held.held-index c.held-item.result c.held.inside.fact c.loop-held.net c.narrow.new.self
    c.loop-held-test.true c.held-item.is (ap (λ (h : HeldFact). h.fact) c.held.view_is) c.requires.proper c.loop-held.invariant.nodes c.loop-held.invariant.words c.narrow.ensures in
    record { nodes = step.0; words = step.1 }

pub returns-clause-words : goal.returns-clause-words
returns-clause-words g c =
    subst (λ (hs : List HeldFact). IsNetworkOfFacts (g.C.Compose.algebra c.args.c.now) c.args.nodes (facts_of hs) c.loop-held.net.words)
    (take_all c.loop-held.held-index c.args.helds.now c.loop-held-test.false) c.loop-held.invariant.words

pub loop-held-init : goal.loop-held-init
loop-held-init g c =
    let m = g.C.Compose.algebra c.args.c.now in
    let n = c.args.nodes in
    let words : c.in-Ok.net.words ≡ replicate (edge_count n) (full_of m) =
    ap (λ (x : Network). x.words) c.in-Ok.ensures.ok ∙ ap (replicate (edge_count n)) c.full.ensures in
    record {
      nodes = ap (λ (x : Network). x.nodes) c.in-Ok.ensures.ok;
      words = subst (λ (ws : List ℕ). IsNetworkOfFacts m n [] ws) (sym words) (IsNetworkOfFacts-none m n);
    }
