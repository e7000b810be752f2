use Rattle.std.specs.Prelude.{slice_index}
use Rattle.calculus_table.proofs.Sets.{IsWithin-meet_l}
use Rattle.stepped_networks.proofs.networks.Networks.enter.Goals as goal

pub narrow-requires-clause-within : goal.narrow-requires-clause-within
narrow-requires-clause-within c = rw (c.meet-met.ensures, c.word.ensures) (IsWithin-meet_l (slice_index c.in-Closed.path.top c.args.edge) c.args.part)
