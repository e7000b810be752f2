use Rattle.std.proofs.Common.{ap, ◌∙◌}
use Rattle.std.specs.Prelude.{bit_or}
use Rattle.minimal_net.specs.declared.edge_labels.EdgeLabels.{EdgeLabels}
use Rattle.minimal_net.proofs.LabelsOfEdges.{put-held, put-refuted, put-open, put-outcome}
use Rattle.minimal_net.proofs.edge_labels.EdgeLabels.put.Goals as goal

pub returns-in-Held : goal.returns-in-Held
returns-in-Held c =
    let old : EdgeLabels = c.args.self.now in
    put-outcome c.args.base _ _ old _ c.in-Held.is (put-held c.args.base old _
    (ap (λ a. record old { held = a }) (c.union-self.ensures ∙ ap (bit_or old.held) c.single-single.ensures)))

pub returns-in-Refuted : goal.returns-in-Refuted
returns-in-Refuted c =
    let old : EdgeLabels = c.args.self.now in
    put-outcome c.args.base _ _ old _ c.in-Refuted.is (put-refuted c.args.base old _
    (ap (λ a. record old { refuted = a }) (c.union-self-in-Refuted.ensures ∙ ap (bit_or old.refuted) c.single-single.ensures)))

pub returns-in-Open : goal.returns-in-Open
returns-in-Open c =
    let old : EdgeLabels = c.args.self.now in
    put-outcome c.args.base _ _ old _ c.in-Open.is (put-open c.args.base old _
    (ap (λ a. record old { undecided = a }) (c.union-self-in-Open.ensures ∙ ap (bit_or old.undecided) c.single-single.ensures)))
