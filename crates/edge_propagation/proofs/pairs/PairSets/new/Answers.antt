use Rattle.std.proofs.Common.{◌∙◌, ◌*◌, sym, refl, length, ap, arith, count_by}
use Rattle.std.proofs.lemmas.List.{length-replicate}
use Rattle.std.proofs.lemmas.Bool.{false≢true}
use Rattle.edge_propagation.proofs.Places.{count-none, none-set}
use Rattle.edge_propagation.proofs.Planes.{AreBytesOf-none, length-sets_in}
use Rattle.edge_propagation.proofs.pairs.PairSets.new.Goals as goal

pub invariant_of-result : goal.invariant_of-result
invariant_of-result c = (
  record {
    some = c.requires.some;
    bounded = c.requires.bounded;
    sets_length = length-sets_in c.in_ok-bytes.bytes.items 0 c.args.nodes;
    queued_length = ap length c.in_ok-queued.ensures ∙ length-replicate _ _;
  },
  AreBytesOf-none _ c.in_ok-bytes.bytes.items refl c.in_ok-bytes.ensures.none,
  sym (ap (count_by (λ b. b)) c.in_ok-queued.ensures ∙ count-none (256 * c.args.nodes)),
  omega (arith, c.in_ok-bytes.ensures.room),
  λ e h. absurd (false≢true (sym (none-set _ e) ∙ rw c.in_ok-queued.ensures at h)),
)
