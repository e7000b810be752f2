use Rattle.std.proofs.Common.{◌∙◌, subst, sym}
use Rattle.std.specs.List.{All}
use Rattle.std.proofs.lemmas.List.Elements.{All-push}
use Rattle.split_search.specs.declared.ahead.LaterChild.{LaterChild}
use Rattle.split_search.specs.Walks.{IsLaterChild}
use Rattle.split_search.proofs.walking.Walk.add_later.Goals as goal

pub loop-part-preserved : goal.loop-part-preserved
loop-part-preserved g c =
    let P = IsLaterChild (g.C.Compose.algebra c.args.c.now) c.args.self.now.search.net.nodes in
    let child : LaterChild = record { net = c.in_ok-net.net; number = c.loop-part.number; depth = c.args.level } in
    let own : P child = record {
      network = c.in_ok-net.ensures.network;
      nodes_are = c.in_ok-net.ensures.nodes ∙ c.nodes.ensures.value;
    } in
    subst (All P) (sym c.in-Ok.ensures.items) (All-push P c.loop-part.later.items child c.loop-part.invariant own)
