use Rattle.std.specs.List.{All}
use Rattle.split_search.specs.Walks.{IsLaterChild}
use Rattle.split_search.proofs.walking.Walk.later_children.Given as goal

abbrev pub invariant-loop-level : goal.invariant-loop-level
invariant-loop-level g l = All (IsLaterChild (g.C.Compose.algebra l.c) l.self.search.net.nodes) l.later.items
