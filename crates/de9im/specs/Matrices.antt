-- The dimensionally extended nine-intersection matrix of two rings (Egenhofer and Franzosa 1991; Clementini, Di Felice and van Oosterom 1993;
-- OGC 06-103r4): each entry says exactly which places there are.
use Rattle.std.specs.Prelude.{◌≡◌, ◌⊎◌, pos, ◌<ℤ◌, List, Bool, true, false, cond, ◌||◌}
use Rattle.poly_exact.specs.declared.points.Point.{Point}
use Rattle.poly_exact.specs.declared.rects.Rect.{Rect}
use Rattle.de9im.specs.declared.scans.Contacts.{Contacts}
use Rattle.de9im.specs.declared.matrices.Dim.{Dim}
use Rattle.de9im.specs.declared.matrices.Dim.TheVariants as dim
use Rattle.de9im.specs.declared.matrices.Matrix.{Matrix}
use Rattle.de9im.specs.declared.relations.Views.{Views}
use Rattle.poly_exact.specs.Places.{Place}
use Rattle.poly_exact.specs.Rings.{IsOnRing, IsInRing, IsOutOfRing}
use Rattle.de9im.specs.Matrix.{Common}
use Rattle.poly_exact.specs.Met.{Shares}
use Rattle.de9im.specs.Scans.{EdgePair}
use Rattle.de9im.specs.Cuts.{IsBoundary, IsAllUncrossed}

-- the entry is d exactly where there is such a thing, and F exactly where there is none
abbrev pub IsEntry : Dim → Dim → Type 0 → Type 0
IsEntry entry d thing = ((entry ≡ d) × thing) ⊎ ((entry ≡ dim.F) × (thing → ⊥))

-- 1 exactly where an edge of each share two different places, 0 exactly where the boundaries have a place in common but no two such edges
abbrev pub IsBoundaryEntry : Dim → List Point → List Point → Type 0
IsBoundaryEntry entry vs ws = ((entry ≡ dim.D1) × EdgePair vs ws Shares)
    ⊎ (((entry ≡ dim.D0) × ((EdgePair vs ws Shares → ⊥) × Common (IsOnRing vs) (IsOnRing ws))) ⊎ ((entry ≡ dim.F) × (Common (IsOnRing vs) (IsOnRing ws) → ⊥)))

-- I is in the ring, B on it, E out of it: the first letter of an entry speaks of the first ring
pub record IsMatrix (m : Matrix) (vs ws : List Point) : Type 0 where
  pub ii : IsEntry m.ii dim.D2 (Common (IsInRing vs) (IsInRing ws))
  pub ib : IsEntry m.ib dim.D1 (Common (IsInRing vs) (IsOnRing ws))
  pub ie : IsEntry m.ie dim.D2 (Common (IsInRing vs) (IsOutOfRing ws))
  pub bi : IsEntry m.bi dim.D1 (Common (IsOnRing vs) (IsInRing ws))
  pub bb : IsBoundaryEntry m.bb vs ws
  pub be : IsEntry m.be dim.D1 (Common (IsOnRing vs) (IsOutOfRing ws))
  pub ei : IsEntry m.ei dim.D2 (Common (IsOutOfRing vs) (IsInRing ws))
  pub eb : IsEntry m.eb dim.D1 (Common (IsOutOfRing vs) (IsOnRing ws))
  pub ee : m.ee ≡ dim.D2

pub record AreViews (v : Views) (vs ws : List Point) : Type 0 where
  pub first : IsBoundary v.first vs ws
  pub second : IsBoundary v.second ws vs

-- no place is on both
pub record IsUnmetRing (vs ws : List Point) : Type 0 where
  pub none : (z : Place) → pos 0 <ℤ z.w → IsOnRing vs z → IsOnRing ws z → ⊥

-- what a scan tells of the boundaries
pub record IsTold (f : Contacts) (vs ws : List Point) : Type 0 where
  pub proper : f.proper ≡ true → IsBoundary (record { inside = true; outside = true }) vs ws
  pub uncrossed : f.proper ≡ false → IsAllUncrossed vs ws
  pub unmet : f.meets ≡ false → IsUnmetRing vs ws

-- one lies beyond a side of the other
abbrev pub AreRectsApart : Rect → Rect → Type 0
AreRectsApart r s = (r.high.x <ℤ s.low.x) ⊎ ((s.high.x <ℤ r.low.x) ⊎ ((r.high.y <ℤ s.low.y) ⊎ (s.high.y <ℤ r.low.y)))

abbrev pub given : Bool → Dim → Dim
given t d = cond t d dim.F

abbrev pub gathered : Contacts → Views → Matrix
gathered f v = record {
  ii = given (v.first.inside || (v.second.inside || f.ii)) dim.D2;
  ib = given v.second.inside dim.D1;
  ie = given (v.first.outside || (v.second.inside || f.ie)) dim.D2;
  bi = given v.first.inside dim.D1;
  bb = cond f.stretch dim.D1 (given f.meets dim.D0);
  be = given v.first.outside dim.D1;
  ei = given (v.second.outside || (v.first.inside || f.ei)) dim.D2;
  eb = given v.second.outside dim.D1;
  ee = dim.D2;
}
