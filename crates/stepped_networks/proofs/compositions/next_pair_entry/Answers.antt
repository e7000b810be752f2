use Rattle.std.proofs.Common.{◌-◌, ◌%◌, ap, ◌∙◌, arith}
use Rattle.std.specs.Prelude.{slice_index, bit_or}
use Rattle.stepped_networks.specs.Compositions.{pair_entry}
use Rattle.stepped_networks.proofs.Halves.{pair_entry-halves}
use Rattle.stepped_networks.proofs.compositions.next_pair_entry.Goals as goal

pub returns : goal.returns
returns c =
    let m = c.args.c.now in
    let e = c.args.e in
    let pairs = c.args.pairs.now in
    let high = e % 256 - e % 16 in
    let first = c.requires.each (e - high) (omega (arith, c.if-high-eq0.false, c.if-low-eq0.false)) in
    let second = c.requires.each (e - e % 16) (omega (arith, c.if-high-eq0.false, c.if-low-eq0.false)) in
    ap (λ x. bit_or x (slice_index pairs (e - e % 16))) first ∙ ap (bit_or (pair_entry m (e - high))) second
    ∙ pair_entry-halves m e c.lawful.ensures.table
