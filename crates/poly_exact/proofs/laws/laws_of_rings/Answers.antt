use Rattle.poly_exact.proofs.Local.{in_law, out_law}
use Rattle.poly_exact.proofs.Around.{around, inside}
use Rattle.poly_exact.proofs.laws.laws_of_rings.Goals as goal

pub returns : goal.returns
returns c = record {
  inside_is_open = in_law;
  outside_is_open = out_law;
  boundary_has_both_sides = around;
  ring_has_inside = inside;
}
