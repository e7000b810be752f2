use Rattle.std.proofs.Common.{◌≡◌, ◌≢◌, ℕ, ◌+◌, ◌*◌, ◌<◌}
use Rattle.std.specs.Prelude.{slice_index}
use Rattle.compose_fast.specs.Nibbles.{byte}
use Rattle.compose_fast.proofs.tables.put_set.Given as goal

abbrev pub invariant-loop-p : goal.invariant-loop-p
invariant-loop-p g l = record {
  here : (q : ℕ) → q < l.p → slice_index l.bytes (256 * q + l.at) ≡ byte l.a q;
  elsewhere : (e : ℕ) → ((q : ℕ) → q < l.p → e ≢ 256 * q + l.at) → slice_index l.bytes e ≡ slice_index l.initial.bytes e;
}
