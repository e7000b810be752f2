use Rattle.std.proofs.Common.{refl}
use Rattle.compose_fast.proofs.Stores.{stored-both, stored-both-before}
use Rattle.compose_fast.proofs.LaneLemmas.{HasLanes-zeros}
use Rattle.compose_fast.proofs.tables.clear_table.Goals as goal

pub returns-clause-here : goal.returns-clause-here
returns-clause-here c = λ d l. rw (c.store-2.ensures, c.store.ensures)
    (stored-both c.args.bases.now _ _ (λ _. 0) (λ _. 0) (λ _. 0) c.args.at HasLanes-zeros HasLanes-zeros c.requires (λ k b. refl) (λ k b. refl) d l)

pub returns-clause-before : goal.returns-clause-before
returns-clause-before c = λ e l. rw (c.store-2.ensures, c.store.ensures) (stored-both-before c.args.bases.now _ _ (λ _. 0) (λ _. 0) c.args.at e HasLanes-zeros HasLanes-zeros l)
