use Rattle.std.proofs.Common.{Some, None}
use Rattle.std.proofs.lemmas.List.Elements.{All-pop}
use Rattle.parallel_search.specs.Jobs.{IsWalkBy}
use Rattle.parallel_search.proofs.crew.Crew.give.Goals as goal

pub returns-in_default-clause-crew : goal.returns-in_default-clause-crew
returns-in_default-clause-crew g c =
    let P = IsWalkBy (g.C.Compose.algebra c.args.site.now.c.now) c.args.site.now.nodes c.args.site.now.class.now in
    record {
      root = c.in_ok-take_over.ensures.walk;
      inner = (All-pop P c.args.self.inner.items c.pop.new.self.items None c.in_default.ensures.items
          c.requires.crew.inner).0;
      ahead = c.requires.crew.ahead;
    }

pub take_over-requires-2-clause-walk : goal.take_over-requires-2-clause-walk
take_over-requires-2-clause-walk g c =
    let P = IsWalkBy (g.C.Compose.algebra c.args.site.now.c.now) c.args.site.now.nodes c.args.site.now.class.now in
    (All-pop P c.args.self.inner.items c.pop.new.self.items (Some c.in-Some.outer) c.in-Some.ensures.items
    c.requires.crew.inner).1

pub push-requires-clause-walks : goal.push-requires-clause-walks
push-requires-clause-walks g c =
    let P = IsWalkBy (g.C.Compose.algebra c.args.site.now.c.now) c.args.site.now.nodes c.args.site.now.class.now in
    (All-pop P c.args.self.inner.items c.pop.new.self.items (Some c.in-Some.outer) c.in-Some.ensures.items
    c.requires.crew.inner).0
