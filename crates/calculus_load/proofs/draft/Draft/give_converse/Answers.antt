use Rattle.std.proofs.Common.{map}
use Rattle.std.specs.String.{string_bytes}
use Rattle.calculus_load.proofs.Shapes.{HasShape-converse}
use Rattle.calculus_load.proofs.draft.Draft.give_converse.Goals as goal

pub invariant_of-self : goal.invariant_of-self
invariant_of-self c =
    let i = c.self.inside in
    HasShape-converse (record { names = map string_bytes i.names.items; identity = i.identity; converses = i.converses.items; entries = i.entries.items })
    c.args.of c.args.converse c.self.invariant (rw (← c.self.view_is) at c.requires.first) (rw (← c.self.view_is) at c.requires.second)
