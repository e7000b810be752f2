use Rattle.closure_seq.proofs.Trails.{restored-below}
use Rattle.closure_seq.proofs.levels.Levels.changes.Goals as goal

pub returns-clause-restored : goal.returns-clause-restored
returns-clause-restored c =
    rw (← c.self.view_is) (record { each = λ bs b e. restored-below c.self.inside.words.items c.self.inside.trail.items c.self.inside.marks.items bs b e })
