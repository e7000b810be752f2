use Rattle.std.proofs.Common.{ℕ, ◌≡◌, ◌+◌, ◌*◌, ◌∷◌, [], length, ap, ◌∙◌, sym, subst, arith}
use Rattle.std.proofs.lemmas.List.{length-append}
use Rattle.std.proofs.Math.Nat.{add-mul}
use Rattle.minimal_net.specs.declared.edge_labels.EdgeLabels.{EdgeLabels}
use Rattle.minimal_net.specs.Searching.{Task, task_of, AreLabelsAt}
use Rattle.minimal_net.proofs.Shares.{AreFirst, first-more, share-whole}
use Rattle.minimal_net.proofs.labeller.Labeller.share.Goals as goal

pub loop-edge-preserved : goal.loop-edge-preserved
loop-edge-preserved c =
    let t = task_of c.args.self.now in
    let inv = c.loop-edge.invariant in
    let labels = c.loop-edge.labels.items in
    let l = c.in_ok-found.found in
    let k = length labels in
    let step = c.args.step in
    let P : ℕ → EdgeLabels → Type 0 = λ j. AreLabelsAt t (c.args.first + j * step) in
    let long : length c.push.new.self.items ≡ k + 1 = ap length c.in-Ok.ensures.items ∙ length-append labels (l ∷ []) in
    record {
      task = c.in_ok-found.ensures.task ∙ inv.task;
      idle = c.in_ok-found.ensures.idle;
      next = omega (arith, inv.next, ap (λ j. j * step) long, add-mul k 1 step);
      labels = subst (AreFirst P) (sym c.in-Ok.ensures.items) (first-more P labels l inv.labels
          (subst (λ e. AreLabelsAt t e l) inv.next
          (subst (λ (u : Task). AreLabelsAt u c.loop-edge.edge l) inv.task c.in_ok-found.ensures.labels)));
    }

pub returns : goal.returns
returns c =
    let inv = c.loop-edge.invariant in
    share-whole (task_of c.args.self.now) c.args.first c.args.step c.loop-edge.edge c.loop-edge.labels.items inv.labels inv.next
    (omega (arith, c.loop-edge-test.false, c.edges-edges.ensures))
