use Rattle.std.proofs.Common.{◌≡◌, length}
use Rattle.tract_classes.specs.Class.{IsClassBelow}
use Rattle.tract_classes.specs.ClassFile.{sets_from}
use Rattle.tract_classes.proofs.loading.read_sets.Given as goal

abbrev pub decreases-loop-line : goal.decreases-loop-line
decreases-loop-line l = length l.lines.lines

abbrev pub invariant-loop-line : goal.invariant-loop-line
invariant-loop-line l = record {
  told : sets_from l.bases l.lines.end l.lines.lines l.members.items ≡ sets_from l.bases l.fn.lines.end l.fn.lines.lines l.fn.members.items;
  class : IsClassBelow (length l.bases) l.members.items;
}
