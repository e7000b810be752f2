use Rattle.std.proofs.Common.{◌+◌, ap, ◌∙◌, arith}
use Rattle.minimal_net.proofs.Counting.{counts-more}
use Rattle.minimal_net.proofs.counts.count_labels.Goals as goal

pub loop-edge-preserved : goal.loop-edge-preserved
loop-edge-preserved c =
    let old = c.loop-edge.counts in
    let small = c.loop-edge.invariant.small in
    record {
      counts = counts-more c.args.labels.now c.loop-edge.edge-index c.edge-item.result old _ c.loop-edge-test.true c.edge-item.is
          c.loop-edge.invariant.counts (ap (λ x. old.held + x) (c.from.ensures ∙ c.count.ensures))
          (ap (λ x. old.refuted + x) (c.from-in-loop-edge.ensures ∙ c.count-in-loop-edge.ensures))
          (ap (λ x. old.undecided + x) (c.from-in-loop-edge-2.ensures ∙ c.count-in-loop-edge-2.ensures));
      small = record {
        held = omega (arith, small.held, c.from.ensures, c.count.type_inv);
        refuted = omega (arith, small.refuted, c.from-in-loop-edge.ensures, c.count-in-loop-edge.type_inv);
        undecided = omega (arith, small.undecided, c.from-in-loop-edge-2.ensures, c.count-in-loop-edge-2.type_inv);
      };
    }
