use Rattle.std.proofs.Common.{ℕ, [], replicate, ap, ◌∙◌}
use Rattle.network_words.specs.Edge.{edge_count}
use Rattle.network_words.specs.Network.{Network}
use Rattle.network_file.proofs.NamesLine.{fresh_network}
use Rattle.network_file.proofs.reading.read_nodes.Goals as goal

pub returns-in-Ok-clause-fresh : goal.returns-in-Ok-clause-fresh
returns-in-Ok-clause-fresh c =
    let n = c.in-Some-nodes_form.nodes in
    let made : ℕ → Network = λ full. record { nodes = n; full = full; words = replicate (edge_count n) full; names = [] } in
    fresh_network c.args.c.now n c.in-Ok.net (c.in-Ok.ensures.ok ∙ ap made c.full.ensures)
