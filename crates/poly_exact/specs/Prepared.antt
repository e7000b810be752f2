-- What a ring keeps beside its vertices: the west sides of its edges, and rectangles round all of them and round each block.
use Rattle.std.specs.Prelude.{List, Bool}
use Rattle.poly_exact.specs.declared.points.Point.{Point}
use Rattle.poly_exact.specs.declared.rects.Rect.{Rect}
use Rattle.poly_exact.specs.West.{IsRing}
use Rattle.poly_exact.specs.Rects.{AreBlocks, CoversAll}

pub record IsPrepared (vs : List Point) (west : List Bool) (rect : Rect) (blocks : List Rect) : Type 0 where
  pub ring : IsRing vs west
  pub covers : CoversAll rect vs
  pub prepared : AreBlocks blocks vs
