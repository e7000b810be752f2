use Rattle.std.proofs.Common.{◌<◌, Some, map, length, refl, sym, ap, ◌∙◌, arith, rules}
use Rattle.std.specs.String.{string_bytes}
use Rattle.std.proofs.lemmas.List.{length-set}
use Rattle.calculus_table.proofs.PlacesOfNames.{name_read}
use Rattle.named_sets.proofs.Keys.{AreKeys-none, AreKeys-set}
use Rattle.named_sets.proofs.base_names.hints_for.Goals as goal

pub loop-r-init : goal.loop-r-init
loop-r-init c = record {
  keyed = AreKeys-none (map string_bytes c.args.names.now) 64;
  count = refl;
}

pub loop-r-preserved : goal.loop-r-preserved
loop-r-preserved c =
    let names = c.args.names.now in
    let r = c.loop-r.r in
    let below : r < length names = search rules in
    let inside : r < length c.loop-r.hints.keys = omega (arith, c.requires, c.loop-r.invariant.count, below) in
    record {
      keyed = AreKeys-set (map string_bytes names) c.loop-r.hints.keys r c.key_of-key.result inside c.loop-r.invariant.keyed (λ some. record {
        name = c.as_bytes-name.result.now;
        there = name_read names r c.index-names-r.result below c.index-names-r.is ∙ ap Some (sym c.as_bytes-name.ensures.value);
        is = c.key_of-key.ensures some;
      });
      count = length-set c.loop-r.hints.keys r c.key_of-key.result ∙ c.loop-r.invariant.count;
    }
