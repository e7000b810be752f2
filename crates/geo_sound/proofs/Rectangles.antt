-- The rectangles of a demonstration are simple rings.
use Rattle.std.proofs.Common.{◌≡◌, ◌≢◌, ◌⊎◌, ℕ, zero, suc, ◌+◌, ◌*◌, ◌<◌, ◌≤◌, false, List, [], ◌∷◌, length, refl, sym}
use Rattle.std.proofs.Common.{ap, subst, ◌∙◌, inl, inr, arith}
use lib.IntN.{ℤ, pos, ◌-ℤ◌, ◌*ℤ◌}
use lib.Signed.{◌<ℤ◌}
use borrow.Author.Differences.{ints}
use Rattle.std.specs.Ordering.{int_eq}
use Rattle.std.specs.List.{dedup}
use Rattle.std.proofs.lemmas.Int.{clamps}
use Rattle.std.proofs.lemmas.Bool.{cond-false, and_left, and_right, false_from_ne_true}
use Rattle.std.proofs.lemmas.Bool.Decides.{Decides-int_eq}
use Rattle.poly_exact.specs.declared.points.Point.{Point}
use Rattle.poly_exact.specs.Places.{Place, IsOnEdge}
use Rattle.poly_exact.specs.Rings.{vertex, next, IsAt, IsSimple}
use Rattle.poly_exact.specs.Kept.{same_point, without_closing, kept}
use Rattle.poly_exact.proofs.Whole.{mul-pos, expand, polys}
use Rattle.poly_exact.proofs.KeptVertices.{AreProper-kept}
use Rattle.geo_facts.specs.Demo.{corners, demo_ring, state, drawn, advance}
use Rattle.geo_sound.specs.Bases.{IsRegion}

-- ---- nothing is dropped of four points whose neighbours differ

other-across : (a b : Point) → a.x ≢ b.x → same_point a b ≡ false
other-across a b h = and_left (int_eq a.x b.x) (int_eq a.y b.y)
    (false_from_ne_true (int_eq a.x b.x) (λ e. h ((Decides-int_eq a.x b.x).0 e)))

other-along : (a b : Point) → a.y ≢ b.y → same_point a b ≡ false
other-along a b h = and_right (int_eq a.x b.x) (int_eq a.y b.y)
    (false_from_ne_true (int_eq a.y b.y) (λ e. h ((Decides-int_eq a.y b.y).0 e)))

kept-four : (a b c d : Point) → same_point b a ≡ false → same_point c b ≡ false → same_point d c ≡ false →
    same_point a d ≡ false → kept (a ∷ b ∷ c ∷ d ∷ []) ≡ a ∷ b ∷ c ∷ d ∷ []
kept-four a b c d ba cb dc ad =
    let whole : dedup same_point (a ∷ b ∷ c ∷ d ∷ []) ≡ a ∷ b ∷ c ∷ d ∷ [] =
    cond-false (same_point b a) _ _ ba ∙ ap (λ xs. a ∷ xs)
    (cond-false (same_point c b) _ _ cb ∙ ap (λ xs. b ∷ xs) (cond-false (same_point d c) _ _ dc)) in
    ap without_closing whole ∙ cond-false (same_point a d) _ _ ad

-- ---- edges along the axes

level : (u v : Point) (p : Place) → u.y ≡ v.y → IsOnEdge u v p → p.y ≡ u.y *ℤ p.w
level u v p e o =
    let same : u.y *ℤ p.w ≡ v.y *ℤ p.w = ap (λ y. y *ℤ p.w) e in
    let low = o.along.least in
    let high = o.along.greatest in
    omega (arith, ints, clamps)

upright : (u v : Point) (p : Place) → u.x ≡ v.x → IsOnEdge u v p → p.x ≡ u.x *ℤ p.w
upright u v p e o =
    let same : u.x *ℤ p.w ≡ v.x *ℤ p.w = ap (λ x. x *ℤ p.w) e in
    let low = o.across.least in
    let high = o.across.greatest in
    omega (arith, ints, clamps)

-- different numbers, times a weight
differ : (low high z w : ℤ) → low <ℤ high → pos 0 <ℤ w → z ≡ low *ℤ w → z ≡ high *ℤ w → ⊥
differ low high z w less weight e f =
    let k = mul-pos (high -ℤ low) w (omega (arith, ints)) weight in
    let g : (high -ℤ low) *ℤ w ≡ high *ℤ w -ℤ low *ℤ w = simp expand (omega (arith, polys)) in
    omega (arith, ints)

-- ---- a rectangle

abbrev four : ℤ → ℤ → ℤ → ℤ → List Point
four left bottom right top =
    record { x = left; y = bottom } ∷ record { x = right; y = bottom }
    ∷ record { x = right; y = top } ∷ record { x = left; y = top } ∷ []

-- the corners, from the lower left one counterclockwise
abbrev corner : ℤ → ℤ → Point
corner x y = record { x = x; y = y }

module _ (l b r t : ℤ) (across : l <ℤ r) (along : b <ℤ t) where
  kept-rectangle : kept (four l b r t) ≡ four l b r t
  kept-rectangle =
      let x : l ≢ r = λ e. omega (arith, ints) in
      let x' : r ≢ l = λ e. omega (arith, ints) in
      let y : b ≢ t = λ e. omega (arith, ints) in
      let y' : t ≢ b = λ e. omega (arith, ints) in
      kept-four (corner l b) (corner r b) (corner r t) (corner l t) (other-across (corner r b) (corner l b) x')
      (other-along (corner r t) (corner r b) y') (other-across (corner l t) (corner r t) x)
      (other-along (corner l b) (corner l t) y)

  -- the two edges with these numbers meet only as neighbours do
  Meets : ℕ → ℕ → Type 0
  Meets j k = (p : Place) → pos 0 <ℤ p.w
      → IsOnEdge (vertex (four l b r t) j) (vertex (four l b r t) (next (four l b r t) j)) p
      → IsOnEdge (vertex (four l b r t) k) (vertex (four l b r t) (next (four l b r t) k)) p
      → ((k ≡ next (four l b r t) j) × IsAt (vertex (four l b r t) k) p)
      ⊎ ((j ≡ next (four l b r t) k) × IsAt (vertex (four l b r t) j) p)

  meets-01 : Meets 0 1
  unfolding Meets
  meets-01 p w o q =
      inl (
        refl,
        record {
          across = upright (corner r b) (corner r t) p refl q;
          along = level (corner l b) (corner r b) p refl o;
        },
      )

  meets-12 : Meets 1 2
  unfolding Meets
  meets-12 p w o q =
      inl (
        refl,
        record {
          across = upright (corner r b) (corner r t) p refl o;
          along = level (corner r t) (corner l t) p refl q;
        },
      )

  meets-23 : Meets 2 3
  unfolding Meets
  meets-23 p w o q =
      inl (
        refl,
        record {
          across = upright (corner l t) (corner l b) p refl q;
          along = level (corner r t) (corner l t) p refl o;
        },
      )

  meets-03 : Meets 0 3
  unfolding Meets
  meets-03 p w o q =
      inr (
        refl,
        record {
          across = upright (corner l t) (corner l b) p refl q;
          along = level (corner l b) (corner r b) p refl o;
        },
      )

  meets-02 : Meets 0 2
  unfolding Meets
  meets-02 p w o q = absurd (differ b t p.y p.w along w (level (corner l b) (corner r b) p refl o)
      (level (corner r t) (corner l t) p refl q))

  meets-13 : Meets 1 3
  unfolding Meets
  meets-13 p w o q = absurd (differ l r p.x p.w across w (upright (corner l t) (corner l b) p refl q)
      (upright (corner r b) (corner r t) p refl o))

  meets : (j k : ℕ) → j < k → k < 4 → Meets j k
  meets zero zero h g = absurd (omega arith)
  meets zero (suc zero) h g = meets-01
  meets zero (suc (suc zero)) h g = meets-02
  meets zero (suc (suc (suc zero))) h g = meets-03
  meets (suc zero) zero h g = absurd (omega arith)
  meets (suc zero) (suc zero) h g = absurd (omega arith)
  meets (suc zero) (suc (suc zero)) h g = meets-12
  meets (suc zero) (suc (suc (suc zero))) h g = meets-13
  meets (suc (suc zero)) zero h g = absurd (omega arith)
  meets (suc (suc zero)) (suc zero) h g = absurd (omega arith)
  meets (suc (suc zero)) (suc (suc zero)) h g = absurd (omega arith)
  meets (suc (suc zero)) (suc (suc (suc zero))) h g = meets-23
  meets j (suc (suc (suc (suc k)))) h g = absurd (omega arith)
  meets (suc (suc (suc j))) k h g = absurd (omega arith)

  four-simple : IsSimple (four l b r t)
  unfolding Meets
  four-simple = record {
    proper = subst (λ vs. (k : ℕ) → k < length vs → vertex vs k ≢ vertex vs (next vs k)) kept-rectangle
        (AreProper-kept (four l b r t) (subst (λ vs. 3 ≤ length vs) (sym kept-rectangle) (omega arith))).each;
    apart = meets;
  }

  rectangle-region : IsRegion (kept (four l b r t))
  rectangle-region = subst IsRegion (sym kept-rectangle) (record { simple = four-simple; some = omega arith })

-- the ring of a node of a demonstration
pub corners-region : (left bottom width height : ℕ) → 0 < width → 0 < height →
    IsRegion (kept (corners left bottom width height))
corners-region left bottom width height w h =
    rectangle-region (pos left) (pos bottom) (pos (left + width)) (pos (bottom + height)) (omega (arith, ints))
    (omega (arith, ints))

more : (n : ℕ) → 0 < n + 1
more n = omega arith

pub demo-region : (seed node : ℕ) → IsRegion (demo_ring seed node)
demo-region seed node =
    let x = state seed (4 * node) in
    let z = advance (advance (advance x)) in
    corners-region (drawn 100 (advance x)) (drawn 100 (advance (advance x))) (drawn 40 z + 1) (drawn 40 (advance z) + 1)
    (more (drawn 40 z)) (more (drawn 40 (advance z)))
