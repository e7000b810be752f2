-- Rings whose rectangles are apart.
use Rattle.std.proofs.Common.{◌≤◌, refl, List, length, arith, ◌⊎◌, inl, inr}
use lib.IntN.{pos}
use lib.Signed.{◌<ℤ◌}
use Rattle.poly_exact.specs.declared.points.Point.{Point}
use Rattle.poly_exact.specs.declared.rects.Rect.{Rect}
use Rattle.poly_exact.specs.Places.{Place}
use Rattle.poly_exact.specs.Rings.{IsInRing, IsOutOfRing, IsSimple}
use Rattle.poly_exact.specs.Rects.{CoversAll}
use Rattle.de9im.specs.declared.matrices.Dim.TheVariants as dim
use Rattle.de9im.specs.declared.matrices.Matrix.{Matrix}
use Rattle.de9im.specs.Matrix.{Common}
use Rattle.de9im.specs.Matrices.{IsMatrix, AreRectsApart}
use Rattle.de9im.proofs.Commons.{Common-swap}
use Rattle.de9im.proofs.Disjoint.{apart_x, apart_y, on_alone, in_alone}

either : (p q : Type 0) → p ⊎ q → q ⊎ p
either p q h = elim h [ inl x ↦ inr x | inr x ↦ inl x ]

-- each point is out of one of the rings
one_out : (vs ws : List Point) (r s : Rect) → CoversAll r vs → CoversAll s ws → AreRectsApart r s → (z : Place) → pos 0 <ℤ z.w → IsOutOfRing vs z ⊎ IsOutOfRing ws z
one_out vs ws r s cv cw apart = elim apart [
  | inl h ↦ apart_x vs ws r.high.x s.low.x h (λ k b. (cv.each k b).right) (λ k b. (cw.each k b).left)
  | inr h1 ↦ elim h1 [
    | inl h ↦ (λ z w. either _ _ (apart_x ws vs s.high.x r.low.x h (λ k b. (cw.each k b).right) (λ k b. (cv.each k b).left) z w))
    | inr h2 ↦ elim h2 [
      | inl h ↦ apart_y vs ws r.high.y s.low.y h (λ k b. (cv.each k b).over) (λ k b. (cw.each k b).under)
      | inr h ↦ (λ z w. either _ _ (apart_y ws vs s.high.y r.low.y h (λ k b. (cw.each k b).over) (λ k b. (cv.each k b).under) z w))
    ]
  ]
]

abbrev pub apart_matrix : Matrix
apart_matrix = record { ii = dim.F; ib = dim.F; ie = dim.D2; bi = dim.F; bb = dim.F; be = dim.D1; ei = dim.D2; eb = dim.D1; ee = dim.D2 }

in_or_out : (vs : List Point) (z : Place) → IsInRing vs z → IsOutOfRing vs z → ⊥
in_or_out vs z i o = let e = o.even in let d = i.odd in omega arith

pub apart_is : (vs ws : List Point) (r s : Rect) → 3 ≤ length vs → 3 ≤ length ws → IsSimple vs → IsSimple ws → CoversAll r vs → CoversAll s ws → AreRectsApart r s → IsMatrix apart_matrix vs ws
apart_is vs ws r s fv fw sv sw cv cw apart =
    let out = one_out vs ws r s cv cw apart in
    let back = λ (z : Place) (w : pos 0 <ℤ z.w). either _ _ (out z w) in
    record {
      ii = inr (refl, λ c. elim (out c.place c.weight) [ inl o ↦ in_or_out vs c.place c.first o | inr o ↦ in_or_out ws c.place c.second o ]);
      ib = inr (refl, λ c. elim (out c.place c.weight) [ inl o ↦ in_or_out vs c.place c.first o | inr o ↦ o.off c.second ]);
      ie = inl (refl, in_alone vs ws sv (omega arith) out);
      bi = inr (refl, λ c. elim (out c.place c.weight) [ inl o ↦ o.off c.first | inr o ↦ in_or_out ws c.place c.second o ]);
      bb = inr (inr (refl, λ c. elim (out c.place c.weight) [ inl o ↦ o.off c.first | inr o ↦ o.off c.second ]));
      be = inl (refl, on_alone vs ws sv (omega arith) out);
      ei = inl (refl, Common-swap (in_alone ws vs sw (omega arith) back));
      eb = inl (refl, Common-swap (on_alone ws vs sw (omega arith) back));
      ee = refl;
    }
