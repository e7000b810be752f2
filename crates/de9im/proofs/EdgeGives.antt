-- A place on one ring, in the other: near it are places in both, and places in the other alone.
use Rattle.std.proofs.Common.{List}
use lib.IntN.{pos}
use lib.Signed.{◌<ℤ◌}
use Rattle.poly_exact.specs.declared.points.Point.{Point}
use Rattle.poly_exact.specs.Places.{Place, Near}
use Rattle.poly_exact.specs.Rings.{vertex, next, IsOnRing, IsInRing, IsOutOfRing, IsSimple}
use Rattle.de9im.specs.Matrix.{Common}
use Rattle.poly_exact.proofs.Local.{in_law, out_law}
use Rattle.poly_exact.proofs.Inner.{inner}
use Rattle.poly_exact.proofs.Sides.{pair}

-- q holds of a box round each place of which it holds
module _ (vs : List Point) (simple : IsSimple vs) (q : Place → Type 0) (open_q : (m : Place) → pos 0 <ℤ m.w → q m → Near m q) where
  pub edge_gives : Common (IsOnRing vs) q → Common (IsInRing vs) q × Common (IsOutOfRing vs) q
  edge_gives c =
      let x = c.place in
      let o = c.first in
      let near = open_q x c.weight c.second in
      let i = inner (vertex vs o.edge) (vertex vs (next vs o.edge)) x near.n (simple.proper o.edge o.below) c.weight near.some o.on in
      let box = open_q i.m i.weight (near.each i.m i.near) in
      let p = pair vs simple o.edge o.below i.m i.weight i.within box.n box.some in (
        record { place = p.p; weight = p.near_p.weight; first = p.in_p; second = box.each p.p p.near_p },
        record { place = p.q; weight = p.near_q.weight; first = p.out_q; second = box.each p.q p.near_q },
      )

pub on_in : (vs ws : List Point) → IsSimple vs → Common (IsOnRing vs) (IsInRing ws) → Common (IsInRing vs) (IsInRing ws) × Common (IsOutOfRing vs) (IsInRing ws)
on_in vs ws s c = edge_gives vs s (IsInRing ws) (in_law ws) c

pub on_out : (vs ws : List Point) → IsSimple vs → Common (IsOnRing vs) (IsOutOfRing ws) → Common (IsInRing vs) (IsOutOfRing ws) × Common (IsOutOfRing vs) (IsOutOfRing ws)
on_out vs ws s c = edge_gives vs s (IsOutOfRing ws) (out_law ws) c
