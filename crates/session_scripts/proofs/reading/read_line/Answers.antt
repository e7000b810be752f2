use Rattle.std.proofs.Common.{◌^◌, ◌-◌, length, sym, subst}
use Rattle.session_scripts.specs.Batches.{IsBatchFor}
use Rattle.session_scripts.specs.CommandsRead.{line_read}
use Rattle.session_scripts.proofs.Fitting.{IsBatchFor-with_line}
use Rattle.session_scripts.proofs.reading.read_line.Goals as goal

pub returns-clause-fits : goal.returns-clause-fits
returns-clause-fits c = λ fits.
    let full = 2 ^ length c.args.bases.now - 1 in
    let line = line_read c.script_line-said.result in
    subst (IsBatchFor full c.args.nodes) (sym c.in_ok-add.ensures)
    (IsBatchFor-with_line full c.args.nodes c.args.reading.now.at c.args.reading.now.batch fits line c.script_line-said.ensures.sets)
