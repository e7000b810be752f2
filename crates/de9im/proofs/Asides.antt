-- An edge beside the other ring's frame sees the outside alone.
use Rattle.std.proofs.Common.{refl, arith, inl, inr, List, true, false}
use lib.IntN.{pos}
use lib.Signed.{◌<ℤ◌}
use borrow.Author.Differences.{ints}
use Rattle.std.proofs.lemmas.Int.{clamps}
use Rattle.std.proofs.lemmas.Bool.{false≢true}
use Rattle.poly_exact.specs.declared.points.Point.{Point}
use Rattle.poly_exact.specs.declared.rects.Rect.{Rect}
use Rattle.poly_exact.specs.Places.{Place, IsOnEdge}
use Rattle.poly_exact.specs.Rings.{vertex, IsOutOfRing, IsInRing}
use Rattle.poly_exact.specs.Rects.{CoversAll, IsOff}
use Rattle.de9im.specs.Cuts.{IsSight}
use Rattle.poly_exact.proofs.Meets.{less_times}
use Rattle.poly_exact.proofs.VertexPlaces.{at, first_on}
use Rattle.poly_exact.proofs.Apart.{beyond_left, beyond_right, beyond_top, beyond_bottom}

module _ (a b : Point) (ws : List Point) (f : Rect) (fr : CoversAll f ws) (off : IsOff a b f) where
  all_out : (z : Place) → pos 0 <ℤ z.w → IsOnEdge a b z → IsOutOfRing ws z
  all_out z w o =
      let l = o.across.least in let g = o.across.greatest in
      let m = o.along.least in let n = o.along.greatest in
      elim off [
        | inl h ↦ (let x = h.0 in let y = h.1 in beyond_left ws z w (λ k kb. let q = (fr.each k kb).left in let s = less_times z.w a.x (vertex ws k).x w (omega (arith, ints)) in let t = less_times z.w b.x (vertex ws k).x w (omega (arith, ints)) in omega (arith, ints, clamps)))
        | inr o1 ↦ elim o1 [
          | inl h ↦ (let x = h.0 in let y = h.1 in beyond_right ws z w (λ k kb. let q = (fr.each k kb).right in let s = less_times z.w (vertex ws k).x a.x w (omega (arith, ints)) in let t = less_times z.w (vertex ws k).x b.x w (omega (arith, ints)) in omega (arith, ints, clamps)))
          | inr o2 ↦ elim o2 [
            | inl h ↦ (let x = h.0 in let y = h.1 in beyond_bottom ws z w (λ k kb. let q = (fr.each k kb).under in let s = less_times z.w a.y (vertex ws k).y w (omega (arith, ints)) in let t = less_times z.w b.y (vertex ws k).y w (omega (arith, ints)) in omega (arith, ints, clamps)))
            | inr h ↦ (let x = h.0 in let y = h.1 in beyond_top ws z w (λ k kb. let q = (fr.each k kb).over in let s = less_times z.w (vertex ws k).y a.y w (omega (arith, ints)) in let t = less_times z.w (vertex ws k).y b.y w (omega (arith, ints)) in omega (arith, ints, clamps)))
          ]
        ]
      ]

  not_in : (z : Place) → IsOutOfRing ws z → IsInRing ws z → ⊥
  not_in z o i = let e = o.even in let d = i.odd in omega arith

  pub off_sight : IsSight (record { inside = false; outside = true }) a b ws
  off_sight =
      let one : pos 0 <ℤ pos 1 = omega (arith, ints) in
      record {
        sound = record { inside = λ t. absurd (false≢true t); outside = λ t. record { place = at a; weight = one; first = first_on a b; second = all_out (at a) one (first_on a b) } };
        full = λ z w o h. record { inside = λ i. absurd (not_in z (all_out z w o) i); outside = λ i. refl };
      }
