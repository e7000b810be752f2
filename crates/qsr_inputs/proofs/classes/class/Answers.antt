use Rattle.qsr_inputs.proofs.Guides.{builtin_guides, class_file_fetched}
use Rattle.qsr_inputs.proofs.classes.class.Goals as goal

pub returns-in-Ok-Some-clause-guides : goal.returns-in-Ok-Some-clause-guides
returns-in-Ok-Some-clause-guides g c =
    builtin_guides c.args.c.now c.size.ensures.calculus c.args.word.now c.in-Ok-Some.class c.requires
    (rw c.size.ensures.value at (rw c.in-Ok-Some.field-0-is at c.in-Ok-Some.ensures))

pub returns-in-Ok-None-clause-class : goal.returns-in-Ok-None-clause-class
returns-in-Ok-None-clause-class g c =
    class_file_fetched g.F.Source.documents g.F.Source.faults g.F.Source.given g.F.Source.absent_openings c.args.word.now c.args.shelf.now c.class_file.new.shelf
    c.args.c.now c.class_file.result (rw c.size.ensures.value at (rw c.in-Ok-None.field-0-is at c.in-Ok-None.ensures)) c.class_file.ensures.class
