use Rattle.std.proofs.Common.{◌≡◌, ◌≤◌, length, subst, sym, ap, arith}
use Rattle.tract_classes.specs.Class.{IsClassBelow, IsSetBelow}
use Rattle.tract_classes.specs.ClassFile.{with_member}
use Rattle.tract_classes.specs.declared.TheConstants.{MAX_MEMBERS}
use Rattle.tract_classes.proofs.ReadClasses.{IsClassBelow-with}
use Rattle.tract_classes.proofs.loading.read_line.Goals as goal

pub returns-clause-class : goal.returns-clause-class
returns-clause-class c =
    let n = length c.args.bases.now in
    let class = c.args.members.now.items in
    let e : c.insert.new.sets.items ≡ with_member c.word.result class = c.in-Ok.ensures.ok in
    let few : length (with_member c.word.result class) ≤ MAX_MEMBERS = omega (arith, c.if-len-gt-MAX_MEMBERS.false, c.len.ensures, ap length e, c.insert.new.sets.ok.0) in
    subst (IsClassBelow n) (sym e) (IsClassBelow-with n c.word.result class c.requires (subst (IsSetBelow n) (sym c.word.ensures) c.in-Some.ensures.within) few)
