use Rattle.std.proofs.Common.{sym, subst}
use Rattle.tract_classes.specs.Generators.{Generate}
use Rattle.tract_classes.proofs.GeneratedMeets.{pairs-from_meets, meets-from_pairs}
use Rattle.tract_classes.proofs.meets.has_each_meet.Goals as goal

pub returns : goal.returns
returns c =
    let class = c.args.class.now in
    let generate : Generate class c.deref.result.now = subst (Generate class) (sym c.deref.ensures.value) c.in_ok-sets.ensures in (
      λ has. pairs-from_meets class c.deref.result.now generate (c.has_meets.ensures.0 has),
      λ pairs. c.has_meets.ensures.1 (meets-from_pairs class c.deref.result.now generate pairs),
    )
