-- Two rings have one matrix at most.
use Rattle.std.proofs.Common.{◌≡◌, List, inl, inr, sym, ◌∙◌}
use Rattle.poly_exact.specs.declared.points.Point.{Point}
use Rattle.poly_exact.specs.Rings.{IsOnRing}
use Rattle.poly_exact.specs.Met.{Shares}
use Rattle.de9im.specs.declared.matrices.Dim.{Dim}
use Rattle.de9im.specs.Matrix.{Common}
use Rattle.de9im.specs.Scans.{EdgePair}
use Rattle.de9im.specs.Matrices.{IsEntry, IsBoundaryEntry}
use Rattle.de9im.specs.Laws.{MatrixIsOne}

entry-one : (d x y : Dim) (thing : Type 0) → IsEntry x d thing → IsEntry y d thing → x ≡ y
entry-one d x y thing (inl h) (inl g) = h.0 ∙ sym g.0
entry-one d x y thing (inl h) (inr g) = absurd (g.1 h.1)
entry-one d x y thing (inr h) (inl g) = absurd (h.1 g.1)
entry-one d x y thing (inr h) (inr g) = h.0 ∙ sym g.0

-- two edges with two places in common have one on both rings
shared-met : (vs ws : List Point) → EdgePair vs ws Shares → Common (IsOnRing vs) (IsOnRing ws)
shared-met vs ws h = record {
  place = h.holds.p;
  weight = h.holds.weight_p;
  first = record { edge = h.e; below = h.below_e; on = h.holds.first_p };
  second = record { edge = h.f; below = h.below_f; on = h.holds.second_p };
}

boundary-one : (vs ws : List Point) (x y : Dim) → IsBoundaryEntry x vs ws → IsBoundaryEntry y vs ws → x ≡ y
boundary-one vs ws x y (inl h) (inl g) = h.0 ∙ sym g.0
boundary-one vs ws x y (inl h) (inr (inl g)) = absurd (g.1.0 h.1)
boundary-one vs ws x y (inl h) (inr (inr g)) = absurd (g.1 (shared-met vs ws h.1))
boundary-one vs ws x y (inr (inl h)) (inl g) = absurd (h.1.0 g.1)
boundary-one vs ws x y (inr (inl h)) (inr (inl g)) = h.0 ∙ sym g.0
boundary-one vs ws x y (inr (inl h)) (inr (inr g)) = absurd (g.1 h.1.1)
boundary-one vs ws x y (inr (inr h)) (inl g) = absurd (h.1 (shared-met vs ws g.1))
boundary-one vs ws x y (inr (inr h)) (inr (inl g)) = absurd (h.1 g.1.1)
boundary-one vs ws x y (inr (inr h)) (inr (inr g)) = h.0 ∙ sym g.0

pub matrix-one : MatrixIsOne
matrix-one vs ws m k h g =
    let ii = entry-one _ m.ii k.ii _ h.ii g.ii in
    let ib = entry-one _ m.ib k.ib _ h.ib g.ib in
    let ie = entry-one _ m.ie k.ie _ h.ie g.ie in
    let bi = entry-one _ m.bi k.bi _ h.bi g.bi in
    let bb = boundary-one vs ws m.bb k.bb h.bb g.bb in
    let be = entry-one _ m.be k.be _ h.be g.be in
    let ei = entry-one _ m.ei k.ei _ h.ei g.ei in
    let eb = entry-one _ m.eb k.eb _ h.eb g.eb in
    let ee : m.ee ≡ k.ee = h.ee ∙ sym g.ee in
    λ i. record { ii = ii i; ib = ib i; ie = ie i; bi = bi i; bb = bb i; be = be i; ei = ei i; eb = eb i; ee = ee i }
