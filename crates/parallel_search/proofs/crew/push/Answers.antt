use Rattle.std.proofs.Common.{subst, sym}
use Rattle.std.specs.List.{All}
use Rattle.std.proofs.lemmas.List.Elements.{All-push}
use Rattle.parallel_search.specs.Jobs.{IsWalkBy}
use Rattle.parallel_search.proofs.crew.push.Goals as goal

pub returns : goal.returns
returns g c =
    let P = IsWalkBy (g.C.Compose.algebra c.args.site.now.c.now) c.args.site.now.nodes c.args.site.now.class.now in
    subst (All P) (sym c.in-Ok.ensures.items) (All-push P c.args.walks.now.items c.args.walk c.requires.walks
    c.requires.walk)
