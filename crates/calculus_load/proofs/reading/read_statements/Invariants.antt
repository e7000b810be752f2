use Rattle.std.proofs.Common.{◌≡◌, length}
use Rattle.calculus_load.specs.TableFile.{statements}
use Rattle.calculus_load.proofs.reading.read_statements.Given as goal

abbrev pub decreases-loop-line : goal.decreases-loop-line
decreases-loop-line l = length l.lines.lines

abbrev pub invariant-loop-line : goal.invariant-loop-line
invariant-loop-line l = record {
  told : statements l.lines.end l.lines.lines l.draft ≡ statements l.fn.lines.end l.fn.lines.lines l.fn.draft;
  names : l.bases ≡ l.draft.names;
}
