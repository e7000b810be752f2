use Rattle.std.proofs.Common.{◌≡◌, map, length}
use Rattle.std.specs.String.{string_bytes}
use Rattle.named_sets.specs.Keys.{AreKeys}
use Rattle.named_sets.proofs.base_names.hints_for.Given as goal

abbrev pub invariant-loop-r : goal.invariant-loop-r
invariant-loop-r l = record {
  keyed : AreKeys (map string_bytes l.names) l.hints.keys;
  count : length l.hints.keys ≡ 64;
}
