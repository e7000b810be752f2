use Rattle.std.proofs.Common.{◌≡◌, ◌+◌, ◌*◌, ◌≤◌, [], length, sym, ap, subst, arith}
use Rattle.std.specs.Prelude.{is_some}
use Rattle.std.proofs.lemmas.Option.{MatchOption-at_none}
use Rattle.calculus_table.specs.Calculus.{IsCalculus}
use Rattle.split_search.specs.declared.verdict.Verdict.TheVariants.{Yes, No, Budget}
use Rattle.split_search.specs.Searches.{Task, task_of, held_of, end_of, IsGoing, HasStopped}
use Rattle.split_search.proofs.Whole.{IsVerdictOf, nodes-few, no-of, stop-after, stop-few, found-of, spent-of}
use Rattle.split_search.proofs.Tellings.{told-of}
use Rattle.split_search.proofs.walking.Walk.finish.Goals as goal

pub returns-in_default : goal.returns-in_default
returns-in_default g c =
    let t = task_of c.args.self.search in
    let s = c.run_out.new.self.search in
    let held = held_of s in
    let tree = c.into_tree.result in
    let over = c.in_ok-run_out.ensures.over in
    let none : held.open_splits ≡ [] = over.none (ap is_some c.in_default.is) in
    let going : IsGoing t held s.path.top =
    subst (λ (k : Task). IsGoing k held s.path.top) c.in_ok-run_out.ensures.task
    (MatchOption-at_none _ _ c.in_default.is over.walk.state) in
    let ruled : IsVerdictOf t (No tree) =
    subst (λ xs. IsVerdictOf t (No xs)) (sym c.into_tree.ensures) (no-of t held s.path.top none going) in
    let few : length tree ≤ 64 * t.budget + 1 =
    omega (arith, nodes-few t held going.bound, ap length c.into_tree.ensures) in
    told-of t c.requires.walk.task (subst IsCalculus (sym c.requires.calculus) c.lawful.ensures) (No tree) ruled few

pub returns-in-Found : goal.returns-in-Found
returns-in-Found g c =
    let t = task_of c.args.self.search in
    let s = c.run_out.new.self in
    let closed = held_of c.close_all.new.self in
    let tree = c.into_tree-tree.result in
    let h : HasStopped t (end_of c.in-Some.stop) closed =
    stop-after (task_of s.search) t _ s.stop c.in-Some.stop (held_of s.search) closed c.in_ok-run_out.ensures.task
    c.in_ok-run_out.ensures.over.walk.state c.in-Some.is c.in_ok-close_all.ensures.stopped in
    let ruled : IsVerdictOf t (Yes c.in-Found.scenario tree) =
    found-of t c.in-Some.stop closed h c.in_ok-close_all.ensures.closed tree c.into_tree-tree.ensures
    c.in-Found.scenario c.in-Found.is in
    told-of t c.requires.walk.task (subst IsCalculus (sym c.requires.calculus) c.lawful.ensures)
    (Yes c.in-Found.scenario tree) ruled (stop-few t c.in-Some.stop closed h tree c.into_tree-tree.ensures)

pub returns-in-Spent : goal.returns-in-Spent
returns-in-Spent g c =
    let t = task_of c.args.self.search in
    let s = c.run_out.new.self in
    let closed = held_of c.close_all.new.self in
    let tree = c.into_tree-tree.result in
    let h : HasStopped t (end_of c.in-Some.stop) closed =
    stop-after (task_of s.search) t _ s.stop c.in-Some.stop (held_of s.search) closed c.in_ok-run_out.ensures.task
    c.in_ok-run_out.ensures.over.walk.state c.in-Some.is c.in_ok-close_all.ensures.stopped in
    let ruled : IsVerdictOf t (Budget tree) = spent-of t c.in-Some.stop closed h c.in_ok-close_all.ensures.closed tree
    c.into_tree-tree.ensures c.in-Spent.is in
    told-of t c.requires.walk.task (subst IsCalculus (sym c.requires.calculus) c.lawful.ensures) (Budget tree) ruled
    (stop-few t c.in-Some.stop closed h tree c.into_tree-tree.ensures)
