use Rattle.network_file.proofs.WholeFiles.{file-read, IsNetwork-from_file}
use Rattle.network_file.proofs.reading.read.Goals as goal

pub returns-clause-ok : goal.returns-clause-ok
returns-clause-ok c =
    file-read c.args.c.now c.args.bytes.now c.in_ok-net.net c.read_names.new.net c.read_facts.new.net c.new-lines.result c.read_nodes.new.lines c.read_names.new.lines
    c.new-lines.ensures c.in_ok-net.ensures.ok c.in_ok-net.ensures.end c.in_ok-net.ensures.fresh c.in_ok-read_names.ensures.ok c.in_ok-read_names.ensures.end c.in_ok-read_names.ensures.kept c.in_ok-read_facts.ensures.ok

pub returns-clause-network : goal.returns-clause-network
returns-clause-network c = IsNetwork-from_file c.args.c.now c.args.bytes.now c.read_facts.new.net (returns-clause-ok c)
