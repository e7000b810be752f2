use Rattle.std.proofs.Common.{◌≡◌, sym, subst, rules}
use Rattle.narrow_core.specs.Machine.{AreSets, IsCore, opened}
use Rattle.narrow_core.specs.Bound.{Bound}
use Rattle.narrow_core.proofs.Runs.{opened-bound, opened-core}
use Rattle.narrow_core.proofs.Steps.{state_of}
use Rattle.narrow_core.proofs.machine.Core.new.Goals as goal

pub invariant_of-result : goal.invariant_of-result
invariant_of-result c =
    let net = c.args.net.now in
    let sets : AreSets net.nodes net.full net.words = record { length_is = c.words.ensures.length_is; within = c.requires.within } in
    let e : state_of c.in_ok-copy.field-0 c.in_ok-opening.opening.items c.args.weight c.push.new.self.items ≡ opened net c.args.weight = search rules in
    record { core = subst IsCore (sym e) (opened-core net c.args.weight c.requires.some sets); fits = c.ranges.weight.fits }

pub returns-clause-bound : goal.returns-clause-bound
returns-clause-bound c =
    let e : state_of c.in_ok-copy.field-0 c.in_ok-opening.opening.items c.args.weight c.push.new.self.items ≡ opened c.args.net.now c.args.weight = search rules in
    λ m. subst (Bound m) (sym e) (opened-bound m c.args.net.now c.args.weight c.requires.some)
