use Rattle.std.specs.List.{All}
use Rattle.split_search.specs.Walks.{IsLaterChild}
use Rattle.split_search.proofs.walking.Walk.add_later.Given as goal

abbrev pub invariant-loop-part : goal.invariant-loop-part
invariant-loop-part g l = All (IsLaterChild (g.C.Compose.algebra l.c) l.self.search.net.nodes) l.later.items
