-- The vertices that a list of points leaves.
use Rattle.std.specs.Prelude.{List, length, take, nat_lt, ◌-◌, ◌&&◌, Bool, if◌then◌else◌}
use Rattle.std.specs.List.{dedup}
use Rattle.std.specs.Ordering.{int_eq}
use Rattle.poly_exact.specs.declared.points.Point.{Point}
use Rattle.poly_exact.specs.Rings.{vertex}

abbrev pub same_point : Point → Point → Bool
same_point a b = int_eq a.x b.x && int_eq a.y b.y

-- without the last point, where it equals the first
abbrev pub without_closing : List Point → List Point
without_closing vs = (if nat_lt 1 (length vs) && same_point (vertex vs 0) (vertex vs (length vs - 1)) then take (length vs - 1) vs else vs)

-- each point that equals the one before it is dropped, and then the closing point: neighbours differ by then, so at most one point closes
abbrev pub kept : List Point → List Point
kept ps = without_closing (dedup same_point ps)
