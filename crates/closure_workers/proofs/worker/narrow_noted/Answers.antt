use Rattle.closure_workers.proofs.Looks.{LooksOn-refl, LooksOn-trans}
use Rattle.closure_workers.proofs.worker.narrow_noted.Goals as goal

pub loop-note-init : goal.loop-note-init
loop-note-init g c = record { looks_on = LooksOn-refl c.requires.looking }

pub loop-note-preserved : goal.loop-note-preserved
loop-note-preserved g c = record { looks_on = LooksOn-trans c.loop-note.invariant.looks_on c.narrow_note.ensures.looks_on }
