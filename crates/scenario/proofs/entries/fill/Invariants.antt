use Rattle.std.proofs.Common.{◌≡◌, ℕ, ◌<◌}
use Rattle.std.specs.Prelude.{slice_index}
use Rattle.scenario.proofs.entries.fill.Given as goal

abbrev pub invariant-loop-e : goal.invariant-loop-e
invariant-loop-e g l = (d : ℕ) → d < l.e → slice_index l.entries d ≡ slice_index (g.C.Compose.algebra l.c).table d
