use Rattle.std.proofs.Common.{◌≡◌, length, refl, subst, sym, arith}
use Rattle.std.specs.Prelude.{IfOk}
use Rattle.minimal_net.specs.Searching.{AreLabelsOfShare, task_over}
use Rattle.minimal_net.proofs.network_labels.shared.Goals as goal

pub map_indices-requires-after_bounds : goal.map_indices-requires-after_bounds
map_indices-requires-after_bounds g c κs within = λ i below. (
  below,
  c.requires.shares,
  record {
    calculus = c.lawful.ensures;
    network = c.requires.network;
    closed = c.requires.closed;
    is_class = c.ends_early-is_straight.ensures.class;
    bases = c.requires.bases;
    size_is = refl;
    straight = c.ends_early-is_straight.ensures.straight;
  },
)

pub returns-in-Ok-clause-each : goal.returns-in-Ok-clause-each
returns-in-Ok-clause-each g c = λ k d share below is.
    let pieces = c.in-Ok.pieces.items in
    let count : length pieces ≡ c.args.shares = omega (arith, c.in-Ok.ensures.len, c.in-Ok.pieces.ok.0) in
    let t = task_over (g.C.Compose.algebra c.args.c.now) c.args.closed.now.nodes c.args.class.now c.args.closed.now.words
    c.args.budget c.ends_early-is_straight.result in
    let met = (c.in-Ok.ensures.each k d (omega (arith, below, count))).1.met in
    subst (λ w. AreLabelsOfShare t k w share.items) (sym count)
    (subst (λ r. IfOk r (λ labels. AreLabelsOfShare t k c.args.shares labels.items)) is met)
