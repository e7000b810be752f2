use Rattle.std.proofs.Common.{ℕ, ◌<◌}
use Rattle.std.specs.Prelude.{slice_index}
use Rattle.tract_classes.specs.Turned.{EachFrom, HasTurned}
use Rattle.tract_classes.proofs.compositions.has_each_composition.Given as goal

abbrev pub invariant-loop-k : goal.invariant-loop-k
invariant-loop-k g l = (i : ℕ) → i < l.k → EachFrom l.class i (HasTurned (g.C.Compose.algebra l.c) l.class (slice_index l.class i))
