-- All that is told of a verdict on the network of a search.
use Rattle.std.proofs.Common.{◌+◌, ◌*◌, ◌≤◌, length}
use Rattle.calculus_table.specs.Calculus.{IsCalculus}
use Rattle.split_search.specs.declared.verdict.Verdict.{Verdict}
use Rattle.split_search.specs.Searches.{Task, IsTask}
use Rattle.split_search.specs.Verdicts.{nodes_of}
use Rattle.split_search.specs.Walks.{IsToldOf}
use Rattle.split_search.proofs.Whole.{IsVerdictOf}
use Rattle.split_search.proofs.Truths.{told}

pub told-of : (t : Task) → IsTask t → IsCalculus t.algebra → (v : Verdict) → IsVerdictOf t v →
    length (nodes_of v) ≤ 64 * t.budget + 1 → IsToldOf t v
told-of t is calculus v ruled few =
    let all = told t.algebra t.nodes t.class t.budget t.net.words calculus is.network is.bases v ruled few is.few in
    record { ruled = all.ruled; is_true = all.is_true; splits = all.splits; nodes = all.nodes }
