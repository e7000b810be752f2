use Rattle.std.proofs.Common.{◌<◌, sym, ap, ◌∙◌, subst}
use Rattle.std.specs.Prelude.{All}
use Rattle.closure_seq.proofs.Trails.{All-init}
use Rattle.network_words.specs.Edge.{edge_count}
use Rattle.network_words.specs.Network.{Network}
use Rattle.stepped_networks.specs.declared.stepped.Replaced.{Replaced}
use Rattle.stepped_networks.specs.Networks.{restored}
use Rattle.stepped_networks.proofs.Trails.{restored-last, words-then}
use Rattle.stepped_networks.proofs.stepped.undo.Goals as goal

pub loop-last-preserved : goal.loop-last-preserved
loop-last-preserved c =
    let net = c.loop-last.net in
    let inv = c.loop-last.invariant in
    let last = c.in-Some.last in
    let items = c.in-Some.ensures.items in
    let words = ap (λ (y : Network). y.words) c.set.ensures in
    let nodes = ap (λ (y : Network). y.nodes) c.set.ensures in
    record {
      rest = words-then c.args.net.now net c.set.new.self _ inv.rest c.set.ensures;
      edges = rw nodes (All-init (λ (r : Replaced). r.edge < edge_count net.nodes) c.pop.new.self.items last (subst (All (λ (r : Replaced). r.edge < edge_count net.nodes)) items inv.edges));
      left = rw words (sym (restored-last net.words c.pop.new.self.items last) ∙ ap (restored net.words) (sym items) ∙ inv.left);
    }
