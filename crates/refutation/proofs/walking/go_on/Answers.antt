use Rattle.std.proofs.Common.{◌≡◌, ◌∷◌, reverse, ap, ◌∙◌}
use Rattle.stepped_networks.specs.Networks.{NetworkStack}
use Rattle.refutation.specs.Ways.{IsFinished}
use Rattle.refutation.proofs.Ways.{standing-last, standing-before, under-some, reverse-front, stack-left}
use Rattle.refutation.proofs.walking.go_on.Goals as goal

pub is_finished-requires : goal.is_finished-requires
is_finished-requires c =
    let s = c.loop-way.networks in
    rw c.deref.ensures.value (standing-last c.args.networks.now.algebra c.args.net.now.nodes c.args.net.now.words c.args.nodes.now c.args.x c.requires.below (reverse c.loop-way.way.items) (s.top ∷ s.under) c.loop-way.invariant.standing)

pub leave-requires : goal.leave-requires
leave-requires c =
    let s = c.loop-way.networks in
    let f : IsFinished c.args.nodes.now (reverse c.loop-way.way.items) = rw c.deref.ensures.value at (c.is_finished.ensures.finished c.loop-way-test.true) in
    under-some c.args.networks.now.algebra c.args.net.now.nodes c.args.net.now.words c.args.nodes.now c.args.x c.requires.below (reverse c.loop-way.way.items) s.top s.under c.loop-way.invariant.standing f

pub loop-way-preserved : goal.loop-way-preserved
loop-way-preserved c =
    let s = c.loop-way.networks in
    let new = c.leave.new.self in
    let m = c.args.networks.now.algebra in
    let net = c.args.net.now in
    let nodes = c.args.nodes.now in
    let xs = c.loop-way.way.items in
    let f : IsFinished nodes (reverse xs) = rw c.deref.ensures.value at (c.is_finished.ensures.finished c.loop-way-test.true) in
    let before : reverse c.pop-last.new.self.items ≡ f.before = ap reverse c.pop-last.ensures.rest ∙ reverse-front xs f.before f.at f.way_is _ c.loop-way.way.ok.0 in
    let under : s.under ≡ new.top ∷ new.under = ap (λ (y : NetworkStack). y.under) c.leave.ensures in
    record {
      standing = rw (before, ← under) (standing-before m net.nodes net.words nodes c.args.x c.requires.below (reverse xs) s.top s.under c.loop-way.invariant.standing f);
      rest = stack-left c.args.networks.now s new c.loop-way.invariant.rest c.leave.ensures;
    }
