use Rattle.std.proofs.Common.{ℕ, ◌∙◌, ap, arith}
use Rattle.std.specs.Prelude.{slice_index}
use Rattle.edge_propagation.proofs.Planes.{AreBytesOf-empty, length-sets_in, sets_in-zero, zero-at}
use Rattle.edge_propagation.proofs.pairs.PairSets.set_planes.Goals as goal

pub invariant_of-self : goal.invariant_of-self
invariant_of-self c =
    let z = c.self.invariant.0 in
    let n = c.self.inside.nodes in
    let bytes = c.clear_to.new.all.items in
    let zero = λ (e : ℕ). ap (λ xs. slice_index xs e) c.clear_to.ensures.items ∙ zero-at _ e in (
      record { some = z.some; bounded = z.bounded; sets_length = length-sets_in bytes c.args.planes n; queued_length = z.queued_length },
      AreBytesOf-empty _ bytes c.requires (sets_in-zero bytes c.args.planes n zero) c.clear_to.ensures.items,
      c.self.invariant.2,
      omega (arith, c.clear_to.ensures.room, c.self.invariant.3),
      c.self.invariant.4,
    )
