use Rattle.std.proofs.Common.{refl, sym, ap, subst, ◌∙◌}
use Rattle.std.specs.Prelude.{MatchOption}
use Rattle.network_words.specs.Closure.{IsClosure}
use Rattle.split_search.specs.Candidates.{GuidedLevels}
use Rattle.split_search.specs.Way.{Held}
use Rattle.split_search.specs.Searches.{Task, IsTask, held_of, end_of, IsAtChild, IsGoing, HasStopped}
use Rattle.split_search.proofs.Whole.{task-first, task-is, child-first}
use Rattle.split_search.proofs.walking.Walk.new.Goals as goal

pub visit-requires-clause-task : goal.visit-requires-clause-task
visit-requires-clause-task g c =
    let m = g.C.Compose.algebra c.args.c.now in
    let is = task-first c.args.net c.args.class.now c.size.result c.args.budget c.in_ok-path.path c.in_ok-levels.levels
    m c.args.net.nodes c.in_ok-path.ensures
    c.in_ok-levels.ensures.algebra_is c.in_ok-levels.ensures.nodes_are in
    subst IsTask (sym is) (task-is m c.size.result c.args.net c.args.class.now c.args.budget c.size.ensures.calculus
    c.size.ensures.value c.requires.network
    c.requires.bases c.requires.budget)

pub visit-requires-clause-child : goal.visit-requires-clause-child
visit-requires-clause-child g c =
    let m = g.C.Compose.algebra c.args.c.now in
    let n = c.args.net.nodes in
    let path = c.in_ok-path.path in
    let t : Task = record {
      algebra = m;
      nodes = n;
      size = c.size.result;
      net = c.args.net;
      class = c.args.class.now;
      budget = c.args.budget;
    } in
    let is = task-first c.args.net c.args.class.now c.size.result c.args.budget path c.in_ok-levels.levels m n
    c.in_ok-path.ensures
    c.in_ok-levels.ensures.algebra_is c.in_ok-levels.ensures.nodes_are in
    let held : Held = record {
      open_splits = c.new-3.result.items;
      below = path.below;
      nodes = c.new-4.result.items;
      count = 0;
    } in
    subst (λ (x : Task). IsAtChild x held path.top) (sym is)
    (child-first t held path.top c.new-3.ensures.items (ap (λ (p : GuidedLevels). p.below) c.in_ok-path.ensures
    ∙ c.in_ok-levels.ensures.first)
    c.new-4.ensures.items refl c.requires.network
    (subst (IsClosure m n c.args.net.words) (sym (ap (λ (p : GuidedLevels). p.top) c.in_ok-path.ensures))
    c.in_ok-levels.ensures.closure))

pub returns-clause-walk : goal.returns-clause-walk
returns-clause-walk g c =
    let m = g.C.Compose.algebra c.args.c.now in
    let is = task-first c.args.net c.args.class.now c.size.result c.args.budget c.in_ok-path.path c.in_ok-levels.levels
    m c.args.net.nodes c.in_ok-path.ensures
    c.in_ok-levels.ensures.algebra_is c.in_ok-levels.ensures.nodes_are in
    let new = c.visit.new.self in
    let same = c.in_ok-stop.ensures.task in
    record {
      task = subst IsTask (sym same) (subst IsTask (sym is)
          (task-is m c.size.result c.args.net c.args.class.now c.args.budget c.size.ensures.calculus
          c.size.ensures.value
          c.requires.network c.requires.bases c.requires.budget));
      state = subst (λ (t : Task). MatchOption c.in_ok-stop.stop (IsGoing t (held_of new) new.path.top)
          (λ stop. HasStopped t (end_of stop) (held_of new))) (sym same)
          c.in_ok-stop.ensures.stop;
    }
