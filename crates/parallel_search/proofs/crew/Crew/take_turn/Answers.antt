use Rattle.std.proofs.Common.{Some}
use Rattle.std.proofs.lemmas.List.Elements.{All-pop}
use Rattle.parallel_search.specs.Jobs.{IsWalkBy}
use Rattle.parallel_search.proofs.crew.Crew.take_turn.Goals as goal

pub give-requires-clause-walk : goal.give-requires-clause-walk
give-requires-clause-walk g c =
    let P = IsWalkBy (g.C.Compose.algebra c.args.site.now.c.now) c.args.site.now.nodes c.args.site.now.class.now in
    (All-pop P c.args.self.inner.items c.pop.new.self.items (Some c.in-Some.walk) c.in-Some.ensures.items
    c.requires.crew.inner).1

pub give-requires-clause-crew : goal.give-requires-clause-crew
give-requires-clause-crew g c =
    let P = IsWalkBy (g.C.Compose.algebra c.args.site.now.c.now) c.args.site.now.nodes c.args.site.now.class.now in
    record {
      root = c.requires.crew.root;
      inner = (All-pop P c.args.self.inner.items c.pop.new.self.items (Some c.in-Some.walk) c.in-Some.ensures.items
          c.requires.crew.inner).0;
      ahead = c.requires.crew.ahead;
    }

pub go_on-requires-clause-walk : goal.go_on-requires-clause-walk
go_on-requires-clause-walk g c κs within =
    let P = IsWalkBy (g.C.Compose.algebra c.args.site.now.c.now) c.args.site.now.nodes c.args.site.now.class.now in
    (All-pop P c.args.self.inner.items c.pop.new.self.items (Some c.in-Some.walk) c.in-Some.ensures.items
    c.requires.crew.inner).1

pub push-requires-clause-walks : goal.push-requires-clause-walks
push-requires-clause-walks g c =
    let P = IsWalkBy (g.C.Compose.algebra c.args.site.now.c.now) c.args.site.now.nodes c.args.site.now.class.now in
    (All-pop P c.args.self.inner.items c.pop.new.self.items (Some c.in-Some.walk) c.in-Some.ensures.items
    c.requires.crew.inner).0

pub returns-clause-crew : goal.returns-clause-crew
returns-clause-crew g c = record {
  root = c.requires.crew.root;
  inner = c.in_ok-push_some.ensures;
  ahead = c.in_ok-walk.ensures.ahead;
}
