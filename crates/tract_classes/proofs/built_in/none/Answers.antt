use Rattle.std.proofs.Common.{sym, subst}
use Rattle.tract_classes.specs.Class.{IsClass}
use Rattle.tract_classes.proofs.BuiltInClasses.{singles-class}
use Rattle.tract_classes.proofs.built_in.none.Goals as goal

pub new-requires : goal.new-requires
new-requires c = subst IsClass (sym c.in-Ok.ensures) (singles-class c.args.size c.requires)
