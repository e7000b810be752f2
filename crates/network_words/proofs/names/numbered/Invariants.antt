use Rattle.std.proofs.Common.{◌≡◌, ◌++◌, length, map}
use Rattle.std.specs.String.{string_bytes}
use Rattle.std.specs.Vec.Iter.{into_iter_items, into_iter_len}
use Rattle.calculus_table.specs.Calculus.{AreDistinct}
use Rattle.network_words.proofs.names.numbered.Given as goal

abbrev pub invariant-loop-name : goal.invariant-loop-name
invariant-loop-name l = record {
  whole : l.numbered.keys ++ into_iter_items l.name-iterator ≡ l.fn.names.items;
  left : into_iter_len l.name-iterator ≡ length (into_iter_items l.name-iterator);
  distinct : AreDistinct (map string_bytes l.numbered.keys);
}
