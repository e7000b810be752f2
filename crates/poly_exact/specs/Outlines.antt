-- A ring, borrowed, with all that is kept of it.
use Rattle.poly_exact.specs.declared.rings.Outline.{Outline}
use Rattle.poly_exact.specs.Prepared.{IsPrepared}

abbrev pub IsOutline : Outline → Type 0
IsOutline o = IsPrepared o.vertices.now o.west.now o.rect o.blocks.now
