use Rattle.std.proofs.Common.{subst}
use Rattle.calculus_table.specs.Rel.{IsWithin}
use Rattle.calculus_table.specs.Composition.{full_of}
use Rattle.calculus_table.proofs.Members.{full-member}
use Rattle.tests_of_calculus_files.proofs.classes.parts_in.Goals as goal

pub parts-requires : goal.parts-requires
parts-requires c r has =
    let m = c.args.c.now.algebra in
    let within : IsWithin c.args.set (full_of m) = subst (IsWithin c.args.set) c.full.ensures (c.within.ensures.0 c.if-not-within.false) in
    c.has_bases.ensures c.if-not-has_bases.false r (full-member m r (within.each r has))
