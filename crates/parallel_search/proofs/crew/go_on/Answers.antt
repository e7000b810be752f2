use Rattle.std.proofs.Common.{subst, sym}
use Rattle.std.specs.List.{All}
use Rattle.std.proofs.lemmas.List.Elements.{All-nil}
use Rattle.parallel_search.specs.Jobs.{IsJob}
use Rattle.parallel_search.proofs.Walking.{walk-kept}
use Rattle.parallel_search.proofs.crew.go_on.Goals as goal

pub keep_all-requires-clause-ahead : goal.keep_all-requires-clause-ahead
keep_all-requires-clause-ahead g c =
    let P = IsJob (g.C.Compose.algebra c.args.site.now.c.now) c.args.site.now.nodes c.args.site.now.class.now in
    record { jobs = subst (All P) (sym c.new.ensures.items) (All-nil P); done = c.look_on-nets.ensures.done }

pub arrive-requires-clause-walk : goal.arrive-requires-clause-walk
arrive-requires-clause-walk g c =
    walk-kept (g.C.Compose.algebra c.args.site.now.c.now) c.args.site.now.nodes c.args.site.now.class.now c.args.walk
    c.make_round.new.walk c.requires.walk c.in_ok-make_round.ensures.searched.walk
    c.in_ok-make_round.ensures.searched.task_is

pub returns : goal.returns
returns g c = record {
  walk = walk-kept (g.C.Compose.algebra c.args.site.now.c.now) c.args.site.now.nodes c.args.site.now.class.now
      c.args.walk c.make_round.new.walk c.requires.walk c.in_ok-make_round.ensures.searched.walk
      c.in_ok-make_round.ensures.searched.task_is;
  task_is = c.in_ok-make_round.ensures.searched.task_is;
  ahead = c.keep_all.ensures;
  child = tt;
}
