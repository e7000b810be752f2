use Rattle.std.proofs.Common.{ap, ◌∙◌}
use Rattle.closure_seq.specs.Levels.{LevelSets}
use Rattle.closure_seq.proofs.Standing.{IsStanding-pushed, IsStanding-restored, taken-back}
use Rattle.closure_seq.proofs.narrowing.push_level.Goals as goal

pub close_level-requires-clause-standing : goal.close_level-requires-clause-standing
close_level-requires-clause-standing g c =
    rw c.in_default.ensures.level (IsStanding-pushed (g.C.Compose.algebra c.args.c.now) c.args.pairs.now c.args.levels.now c.args.tables.now.bases c.requires.standing)

pub returns-in-Err-close_level-clause-standing : goal.returns-in-Err-close_level-clause-standing
returns-in-Err-close_level-clause-standing g c =
    let b = c.take_back.ensures in
    let e = c.in-Err-close_level.ensures in
    let old = c.args.levels.now in
    let new = c.take_back.new.levels in
    let kept = taken-back old c.push.new.self c.close_level.new.levels new c.in_default.ensures.level e.rest b.below b.nodes b.full in
    IsStanding-restored (g.C.Compose.algebra c.args.c.now) c.args.pairs.now c.take_back.new.pairs old new c.args.tables.now.bases c.close_level.new.tables.bases c.requires.standing
    (ap (λ (y : LevelSets). y.nodes) kept) (ap (λ (y : LevelSets). y.full) kept) (ap (λ (y : LevelSets). y.top) kept) (ap (λ (y : LevelSets). y.below) kept)
    (b.planes ∙ e.planes) e.tables b.in_step b.quiet

pub returns-in-Err-close_level-clause-empty : goal.returns-in-Err-close_level-clause-empty
returns-in-Err-close_level-clause-empty g c = λ why. (rw c.in_default.ensures.level at c.in-Err-close_level.ensures.empty) why
