use Rattle.std.proofs.Common.{◌≡◌, map, take, length}
use Rattle.std.specs.String.{string_bytes}
use Rattle.calculus_builtin.proofs.constant.owned.Given as goal

abbrev pub invariant-loop-name : goal.invariant-loop-name
invariant-loop-name l = record {
  bytes : map string_bytes l.owned.items ≡ map (λ name. name.now) (take l.name-index l.names);
  count : length l.owned.items ≡ l.name-index;
}
