-- Along edges that the other ring does not meet the count keeps its parity, up to the first edge that it meets.
use Rattle.std.proofs.Common.{◌≡◌, ℕ, zero, suc, ◌+◌, ◌-◌, ◌%◌, ◌<◌, List, length, sym, ap, ◌∙◌, subst, arith, ◌⊎◌, inl, inr}
use lib.IntN.{pos}
use lib.Signed.{◌<ℤ◌}
use borrow.Author.Differences.{ints}
use Rattle.std.proofs.lemmas.Bool.{cases_lt}
use Rattle.poly_exact.specs.declared.points.Point.{Point}
use Rattle.poly_exact.specs.Places.{Place, IsOnEdge, between}
use Rattle.poly_exact.specs.Rings.{vertex, next, crossings, IsOnRing}
use Rattle.poly_exact.proofs.RingLaw.{segment_law, next-more, next-last}
use Rattle.poly_exact.proofs.Local.{mixed_weight}
use Rattle.poly_exact.proofs.Inner.{IsOnEdge-between}
use Rattle.poly_exact.proofs.VertexPlaces.{at, first_on, second_on}

-- no place of edge number k is on the other ring
pub record IsUnmet (vs ws : List Point) (k : ℕ) : Type 0 where
  pub none : (z : Place) → pos 0 <ℤ z.w → IsOnEdge (vertex vs k) (vertex vs (next vs k)) z → IsOnRing ws z → ⊥

pub unmet_law : (vs ws : List Point) (k : ℕ) → IsUnmet vs ws k → (r s : Place) → pos 0 <ℤ r.w → pos 0 <ℤ s.w
    → IsOnEdge (vertex vs k) (vertex vs (next vs k)) r → IsOnEdge (vertex vs k) (vertex vs (next vs k)) s → (crossings ws r (length ws) + crossings ws s (length ws)) % 2 ≡ 0
unmet_law vs ws k u r s x y o p = segment_law ws r s x y (record {
  each = λ j h. record {
    none = λ a b f g t e.
        u.none (between a b r s) (mixed_weight a b r.w s.w f g t x y) (IsOnEdge-between _ _ a b r s f g x y o p) (record { edge = j; below = h; on = e });
  };
})

-- n vertices on from i
walk : List Point → ℕ → ℕ → ℕ
walk vs i zero = i
walk vs i (suc n) = walk vs (next vs i) n

walk-up : (vs : List Point) (i n : ℕ) → i + n < length vs → walk vs i n ≡ i + n
unfolding walk
walk-up vs i zero h = omega arith
walk-up vs i (suc n) h = ap (λ j. walk vs j n) (next-more vs i (omega arith)) ∙ walk-up vs (i + 1) n (omega arith) ∙ omega arith

walk-on : (vs : List Point) (i m n : ℕ) → walk vs i (m + n) ≡ walk vs (walk vs i m) n
unfolding walk
walk-on vs i zero n = let e : 0 + n ≡ n = omega arith in ap (walk vs i) e
walk-on vs i (suc m) n = let e : suc m + n ≡ suc (m + n) = omega arith in ap (walk vs i) e ∙ walk-on vs (next vs i) m n

pub record Walk (vs : List Point) (i t : ℕ) : Type 0 where
  steps : ℕ
  comes : walk vs i steps ≡ t

walk_to : (vs : List Point) (i t : ℕ) → i < length vs → t < length vs → Walk vs i t
unfolding walk
walk_to vs i t h k = elim (cases_lt t i) [
  | inl l ↦ (let m = length vs - 1 - i in
      let a = walk-up vs i m (omega arith) in
      let b : walk vs i (m + 1) ≡ 0 = walk-on vs i m 1 ∙ next-last vs (walk vs i m) (omega arith) in
      record { steps = m + 1 + t; comes = walk-on vs i (m + 1) t ∙ ap (λ j. walk vs j t) b ∙ walk-up vs 0 t (omega arith) ∙ omega arith })
  | inr l ↦ record { steps = t - i; comes = walk-up vs i (t - i) (omega arith) ∙ omega arith }
]

-- the first vertex from i whose edge is met: off the other ring, and counting as i does
pub record Start (vs ws : List Point) (met : ℕ → Type 0) (i : ℕ) : Type 0 where
  pub edge : ℕ
  pub below : edge < length vs
  pub meets : met edge
  pub off : IsOnRing ws (at (vertex vs edge)) → ⊥
  pub alike : (crossings ws (at (vertex vs i)) (length ws) + crossings ws (at (vertex vs edge)) (length ws)) % 2 ≡ 0

module _ (vs ws : List Point) (met : ℕ → Type 0) (each : (k : ℕ) → k < length vs → met k ⊎ IsUnmet vs ws k) where
  next-below : (k : ℕ) → k < length vs → next vs k < length vs
  next-below k h = elim (cases_lt (k + 1) (length vs)) [ inl x ↦ (let e = next-more vs k x in omega arith) | inr y ↦ (let e = next-last vs k (omega arith) in omega arith) ]

  along : (n i : ℕ) → i < length vs → (IsOnRing ws (at (vertex vs i)) → ⊥) → met (walk vs i n) → Start vs ws met i
  unfolding walk
  along zero i h off m = record { edge = i; below = h; meets = m; off = off; alike = omega arith }
  along (suc n) i h off m = elim (each i h) [
    | inl x ↦ record { edge = i; below = h; meets = x; off = off; alike = omega arith }
    | inr u ↦ (let one : pos 0 <ℤ pos 1 = omega (arith, ints) in
        let e = unmet_law vs ws i u (at (vertex vs i)) (at (vertex vs (next vs i))) one one (first_on _ _) (second_on _ _) in
        let s = along n (next vs i) (next-below i h) (λ o. u.none (at (vertex vs (next vs i))) one (second_on _ _) o) m in
        record { edge = s.edge; below = s.below; meets = s.meets; off = s.off; alike = (let f = s.alike in omega arith) })
  ]

  -- some edge t is met
  pub chain : (t : ℕ) → t < length vs → met t → (i : ℕ) → i < length vs → (IsOnRing ws (at (vertex vs i)) → ⊥) → Start vs ws met i
  chain t k m i h off = let w = walk_to vs i t h k in along w.steps i h off (subst met (sym w.comes) m)
