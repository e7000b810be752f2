-- How two edges meet, by their four turns.
use Rattle.std.proofs.Common.{◌≡◌, ◌≢◌, refl, sym, ap, ◌∙◌, subst, arith, ◌⊎◌, inl, inr}
use lib.IntN.{ℤ, pos, ◌+ℤ◌, ◌-ℤ◌, ◌*ℤ◌, neg_ℤ, *ℤ_comm, *ℤ-zero, zero-*ℤ}
use lib.Signed.{◌<ℤ◌, ◌≤ℤ◌}
use borrow.Author.Differences.{ints}
use Rattle.std.proofs.lemmas.Int.{by_lt_z}
use Rattle.poly_exact.specs.declared.points.Point.{Point}
use Rattle.poly_exact.specs.Places.{Place, turn, reach, IsOnEdge, IsInside, between}
use Rattle.poly_exact.proofs.Whole.{weak, mul-pos}
use Rattle.poly_exact.proofs.Crossings.{turn-between, turn-reversed, IsOnEdge-reversed}
use Rattle.poly_exact.proofs.Local.{mixed_weight}
use Rattle.poly_exact.proofs.Inner.{reach-between, reach_on, IsOnEdge-between}
use Rattle.poly_exact.proofs.VertexPlaces.{at, first_on, second_on}
use Rattle.poly_exact.proofs.CrossingPlace.{same_place, same_weight}
use Rattle.poly_exact.proofs.EdgeEnds.{mix_of, scaled_turn}
use Rattle.poly_exact.proofs.SamePoints.{IsOnEdge-same}
use Rattle.poly_exact.proofs.Pieces.{long_edge, on_between, first_at, reach_at}

mixed_sign : (s r x y : ℤ) → pos 0 ≤ℤ s → pos 0 ≤ℤ r → pos 0 <ℤ (s +ℤ r) → pos 0 <ℤ x → pos 0 <ℤ y → pos 0 <ℤ (s *ℤ x +ℤ r *ℤ y)
mixed_sign s r x y a b c d e = mixed_weight s r x y a b c d e

-- both ends of c d strictly at the left of a b
pub left_apart : (a b c d : Point) (z : Place) → c ≢ d → pos 0 <ℤ z.w → pos 0 <ℤ turn a b (at c) → pos 0 <ℤ turn a b (at d) → IsOnEdge a b z → IsOnEdge c d z → ⊥
left_apart a b c d z n w x y o r =
    let dx = d.x -ℤ c.x in let dy = d.y -ℤ c.y in
    let l = dx *ℤ dx +ℤ dy *ℤ dy in
    let long = long_edge c d n in
    let m = mix_of c d z r in
    let s = reach_on d c z w (IsOnEdge-reversed c d z r) in
    let t = reach_on c d z w r in
    let sum : pos 0 <ℤ (reach d c z +ℤ reach c d z) = rw m.1 (let g = mul-pos l z.w long w in omega (arith, ints)) in
    let e : reach d c z *ℤ turn a b (at c) +ℤ reach c d z *ℤ turn a b (at d) ≡ pos 0 =
    sym (turn-between a b (reach d c z) (reach c d z) (at c) (at d)) ∙ ap (turn a b) m.0 ∙ scaled_turn l (b.x -ℤ a.x) (b.y -ℤ a.y) a.x a.y z.x z.y z.w ∙ rw o.line (*ℤ-zero l) in
    let g = mixed_sign (reach d c z) (reach c d z) _ _ s t sum x y in
    omega (arith, ints)

-- and strictly at the right
pub right_apart : (a b c d : Point) (z : Place) → c ≢ d → pos 0 <ℤ z.w → turn a b (at c) <ℤ pos 0 → turn a b (at d) <ℤ pos 0 → IsOnEdge a b z → IsOnEdge c d z → ⊥
right_apart a b c d z n w x y o r =
    let e = turn-reversed a b (at c) in
    let f = turn-reversed a b (at d) in
    left_apart b a c d z n w (omega (arith, ints)) (omega (arith, ints)) (IsOnEdge-reversed a b z o) r

-- ---- the place of a crossing

pub reach_first : (a b : Point) → reach a b (at a) ≡ pos 0
reach_first a b =
    let e : a.x -ℤ a.x *ℤ pos 1 ≡ pos 0 = omega (arith, ints) in
    let f : a.y -ℤ a.y *ℤ pos 1 ≡ pos 0 = omega (arith, ints) in
    rw (e, f) (omega (arith, ints, zero-*ℤ (b.x -ℤ a.x), zero-*ℤ (b.y -ℤ a.y)))

pub reach_second : (a b : Point) → a ≢ b → pos 0 <ℤ reach a b (at b)
reach_second a b n =
    let e : b.x -ℤ a.x *ℤ pos 1 ≡ b.x -ℤ a.x = omega (arith, ints) in
    let f : b.y -ℤ a.y *ℤ pos 1 ≡ b.y -ℤ a.y = omega (arith, ints) in
    rw (e, f) (long_edge a b n)

inside_mix : (a b : Point) (s t : ℤ) → a ≢ b → pos 0 <ℤ s → pos 0 <ℤ t → IsInside a b (between s t (at a) (at b))
inside_mix a b s t n h k =
    let one : pos 0 <ℤ pos 1 = omega (arith, ints) in
    let ra = reach-between a b s t (at a) (at b) in
    let rb = reach-between b a s t (at a) (at b) in
    let fa : s *ℤ reach a b (at a) ≡ pos 0 = rw (reach_first a b) (*ℤ-zero s) in
    let fb : t *ℤ reach b a (at b) ≡ pos 0 = rw (reach_first b a) (*ℤ-zero t) in
    record {
      on = IsOnEdge-between a b s t (at a) (at b) (weak h) (weak k) one one (first_on a b) (second_on a b);
      from_first = (let m = mul-pos t _ k (reach_second a b n) in omega (arith, ints));
      from_second = (let m = mul-pos s _ h (reach_second b a (λ e. n (sym e))) in omega (arith, ints));
    }

pub record Crossing (a b c d : Point) : Type 0 where
  pub m : Place
  pub weight : pos 0 <ℤ m.w
  pub first : IsInside a b m
  pub second : IsInside c d m

pub crossing : (a b c d : Point) → a ≢ b → c ≢ d → turn c d (at a) <ℤ pos 0 → pos 0 <ℤ turn c d (at b)
    → ((pos 0 <ℤ turn a b (at c)) × (turn a b (at d) <ℤ pos 0)) ⊎ ((turn a b (at c) <ℤ pos 0) × (pos 0 <ℤ turn a b (at d))) → Crossing a b c d
crossing a b c d n k x y o =
    let w = same_weight a b c d in
    let s = turn c d (at b) in
    let t = neg_ℤ (turn c d (at a)) in
    let tp : pos 0 <ℤ t = omega (arith, ints) in
    let one : pos 0 <ℤ pos 1 = omega (arith, ints) in
    elim o [
      | inl u ↦ (let u0 = u.0 in let u1 = u.1 in
          let r : pos 0 <ℤ neg_ℤ (turn a b (at d)) = omega (arith, ints) in
          record {
            m = between s t (at a) (at b);
            weight = mixed_weight s t (pos 1) (pos 1) (weak y) (weak tp) (omega (arith, ints)) one one;
            first = inside_mix a b s t n y tp;
            second = subst (IsInside c d) (sym (same_place a b c d)) (inside_mix c d (neg_ℤ (turn a b (at d))) (turn a b (at c)) k r u0);
          })
      | inr u ↦ (let u0 = u.0 in let u1 = u.1 in absurd (omega (arith, ints)))
    ]

-- ---- an end of one edge on the other

ends : (l u : ℤ) → (l *ℤ u) *ℤ pos 1 ≡ u *ℤ (l *ℤ pos 1)
ends l u =
    let e : l *ℤ pos 1 ≡ l = omega (arith, ints) in
    let f : (l *ℤ u) *ℤ pos 1 ≡ l *ℤ u = omega (arith, ints) in
    rw (e, f) (*ℤ_comm l u)

-- c is on the line of a b, and a b has no two ends strictly at one side of c d, which is another line
pub touching : (a b c d : Point) → turn a b (at c) ≡ pos 0 → turn a b (at d) <ℤ pos 0 → turn c d (at a) ≤ℤ pos 0 → pos 0 ≤ℤ turn c d (at b) → IsOnEdge a b (at c)
touching a b c d z n x y =
    let s = turn c d (at b) in
    let t = neg_ℤ (turn c d (at a)) in
    let one : pos 0 <ℤ pos 1 = omega (arith, ints) in
    let tn : pos 0 ≤ℤ t = omega (arith, ints) in
    let on = IsOnEdge-between a b s t (at a) (at b) y tn one one (first_on a b) (second_on a b) in
    let p = between (neg_ℤ (turn a b (at d))) (turn a b (at c)) (at c) (at d) in
    let on' : IsOnEdge a b p = subst (IsOnEdge a b) (same_place a b c d) on in
    let l = neg_ℤ (turn a b (at d)) in
    let e : (u v : ℤ) → l *ℤ u +ℤ turn a b (at c) *ℤ v ≡ l *ℤ u = λ u v. rw z (omega (arith, ints, zero-*ℤ v)) in
    let lw : l *ℤ pos 1 ≡ l = omega (arith, ints) in
    let wp : pos 0 <ℤ p.w = rw (e (pos 1) (pos 1)) (omega (arith, ints)) in
    IsOnEdge-same a b p (at c) wp one (rw (e c.x d.x, e (pos 1) (pos 1)) (ends l c.x)) (rw (e c.y d.y, e (pos 1) (pos 1)) (ends l c.y)) on'

-- ---- edges of one line: the middle of two vertices within c d is strictly inside c d

module _ (a b c d : Point) (proper : a ≢ b) (other : c ≢ d) (tc : turn a b (at c) ≡ pos 0) (td : turn a b (at d) ≡ pos 0)
    (p q : Point) (tp : turn a b (at p) ≡ pos 0) (tq : turn a b (at q) ≡ pos 0)
    (low : reach a b (at c) ≤ℤ reach a b (at p)) (apart : reach a b (at p) <ℤ reach a b (at q)) (high : reach a b (at q) ≤ℤ reach a b (at d)) where
  abbrev pub half : Place
  half = between (pos 1) (pos 1) (at p) (at q)

  unit : (u v : ℤ) → pos 1 *ℤ u +ℤ pos 1 *ℤ v ≡ u +ℤ v
  unit u v = omega (arith, ints)

  half_weight : half.w ≡ pos 2
  half_weight = refl

  pub half_reach : reach a b half ≡ reach a b (at p) +ℤ reach a b (at q)
  half_reach = reach-between a b (pos 1) (pos 1) (at p) (at q) ∙ unit (reach a b (at p)) (reach a b (at q))

  half_line : turn a b half ≡ pos 0
  half_line = turn-between a b (pos 1) (pos 1) (at p) (at q) ∙ unit (turn a b (at p)) (turn a b (at q)) ∙ (λ i. tp i +ℤ tq i)

  half_on : IsOnEdge c d half
  half_on = on_between a b c d (long_edge a b proper) tc td half (rw half_weight (omega (arith, ints))) half_line
      (rw (half_weight, half_reach) (omega (arith, ints))) (rw (half_weight, half_reach) (omega (arith, ints)))

  pub half_inside : IsInside c d half
  half_inside =
      let w : pos 0 <ℤ half.w = rw half_weight (omega (arith, ints)) in
      let r = half_reach in
      record {
        on = half_on;
        from_first = by_lt_z (pos 0) (reach c d half) (λ x. x) (λ x.
            (let n = reach_on c d half w half_on in
            let h = first_at c d (long_edge c d other) half half_on (omega (arith, ints)) in
            let e = reach_at a b c half h in
            let f : half.w *ℤ reach a b (at c) ≡ pos 2 *ℤ reach a b (at c) = ap (λ z. z *ℤ reach a b (at c)) half_weight in
            absurd (omega (arith, ints))));
        from_second = by_lt_z (pos 0) (reach d c half) (λ x. x) (λ x.
            (let o = IsOnEdge-reversed c d half half_on in
            let n = reach_on d c half w o in
            let h = first_at d c (long_edge d c (λ e. other (sym e))) half o (omega (arith, ints)) in
            let e = reach_at a b d half h in
            let f : half.w *ℤ reach a b (at d) ≡ pos 2 *ℤ reach a b (at d) = ap (λ z. z *ℤ reach a b (at d)) half_weight in
            absurd (omega (arith, ints))));
      }
