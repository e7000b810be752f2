use Rattle.std.proofs.Common.{◌≡◌, ◌≤◌, sym, ◌∙◌, arith}
use Rattle.std.specs.Prelude.{false, is_some}
use Rattle.split_search.specs.Searches.{task_of, held_of}
use Rattle.split_search.proofs.Budgets.{task-within, going-within, going-here, going-state}
use Rattle.split_search.proofs.walking.Walk.within.Goals as goal

pub returns-clause-walk : goal.returns-clause-walk
returns-clause-walk c =
    let s = c.args.self.search in
    let e : is_some c.args.self.stop ≡ false = sym c.is_some.ensures ∙ c.if-is_some.false in
    let few : s.count ≤ c.args.budget = (let h = c.if-self-budget.false in omega (arith, h)) in
    record {
      task = task-within (task_of s) c.args.budget c.requires.budget c.requires.walk.task;
      state = going-state c.args.self.stop _ _ e
          (going-within (task_of s) c.args.budget (held_of s) s.path.top few
          (going-here c.args.self.stop _ _ e c.requires.walk.state));
    }
