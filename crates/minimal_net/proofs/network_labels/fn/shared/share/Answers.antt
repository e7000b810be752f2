use Rattle.std.proofs.Common.{subst}
use Rattle.std.specs.Prelude.{IfOk}
use Rattle.minimal_net.specs.Searching.{Task, AreLabelsOfShare}
use Rattle.minimal_net.proofs.network_labels.fn.shared.share.Goals as goal

pub returns : goal.returns
returns g c =
    subst (λ (t : Task). IfOk c.share.result (λ labels. AreLabelsOfShare t c.args.k c.captures.shares labels.items))
    c.in_ok-labeller.ensures.task c.share.ensures
