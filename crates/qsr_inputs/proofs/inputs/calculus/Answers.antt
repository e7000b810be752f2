use Rattle.qsr_inputs.proofs.Guides.{table_fetched}
use Rattle.qsr_inputs.proofs.inputs.calculus.Goals as goal

pub returns-in-Ok-None : goal.returns-in-Ok-None
returns-in-Ok-None g c =
    table_fetched g.F.Source.documents g.F.Source.faults g.F.Source.given g.F.Source.absent_openings c.args.word.now c.args.shelf.now c.table.new.shelf
    c.table.result (rw c.in-Ok-None.field-0-is at c.in-Ok-None.ensures) c.table.ensures
