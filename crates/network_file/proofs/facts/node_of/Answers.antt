use Rattle.std.proofs.Common.{ap, sym, ◌∙◌}
use Rattle.std.specs.Option.{ok_or}
use Rattle.calculus_table.proofs.PlacesOfNames.{place_of-find}
use Rattle.network_file.specs.FormsRead.{node_read}
use Rattle.network_file.specs.NetworkFile.{node_of}
use Rattle.network_file.specs.declared.fault.FileFault.TheVariants.{Unknown}
use Rattle.network_file.proofs.facts.node_of.Goals as goal

pub returns-in-Name-clause-value : goal.returns-in-Name-clause-value
returns-in-Name-clause-value c =
    let net = c.args.net.now in
    let found = place_of-find net.names c.in-Name.name.now net.nodes c.find.result c.nodes-nodes.ensures.shape.distinct c.find.ensures in
    c.ok_or.ensures.value ∙ ap (λ o. ok_or o (Unknown c.args.line)) found ∙ ap (λ t. node_of net.nodes net.names c.args.line (node_read t)) (sym c.in-Name.is)
