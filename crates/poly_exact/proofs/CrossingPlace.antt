-- The place where two edges cross, seen from both.
use Rattle.std.proofs.Common.{◌≡◌, ap, ◌∙◌, arith}
use lib.IntN.{ℤ, pos, ◌+ℤ◌, ◌-ℤ◌, ◌*ℤ◌, neg_ℤ}
use borrow.Author.Differences.{ints}
use Rattle.poly_exact.specs.declared.points.Point.{Point}
use Rattle.poly_exact.specs.Places.{turn, between}
use Rattle.poly_exact.proofs.Whole.{expand, polys}
use Rattle.poly_exact.proofs.VertexPlaces.{at}

-- by how a, b and d lie to c
key : (ux uy vx vy gx gy : ℤ) → (neg_ℤ vx *ℤ gy +ℤ vy *ℤ gx) *ℤ ux -ℤ (neg_ℤ ux *ℤ gy +ℤ uy *ℤ gx) *ℤ vx ≡ (ux *ℤ vy -ℤ uy *ℤ vx) *ℤ gx
key ux uy vx vy gx gy = simp expand (omega (arith, polys))

key_up : (ux uy vx vy gx gy : ℤ) → (neg_ℤ vx *ℤ gy +ℤ vy *ℤ gx) *ℤ uy -ℤ (neg_ℤ ux *ℤ gy +ℤ uy *ℤ gx) *ℤ vy ≡ (ux *ℤ vy -ℤ uy *ℤ vx) *ℤ gy
key_up ux uy vx vy gx gy = simp expand (omega (arith, polys))

first_turn : (ux uy vx vy : ℤ) → ux *ℤ (vy -ℤ uy) +ℤ neg_ℤ uy *ℤ (vx -ℤ ux) ≡ ux *ℤ vy -ℤ uy *ℤ vx
first_turn ux uy vx vy = simp expand (omega (arith, polys))

weights_alike : (ux uy vx vy gx gy : ℤ) → (neg_ℤ vx *ℤ gy +ℤ vy *ℤ gx) -ℤ (neg_ℤ ux *ℤ gy +ℤ uy *ℤ gx) ≡ (ux *ℤ vy -ℤ uy *ℤ vx) -ℤ ((ux -ℤ gx) *ℤ (vy -ℤ uy) +ℤ (gy -ℤ uy) *ℤ (vx -ℤ ux))
weights_alike ux uy vx vy gx gy = simp expand (omega (arith, polys))

-- one coordinate: rb a - ra b = l1 d - l2 c, from the same of weights and of the places seen from c
one_coordinate : (ra rb l1 l2 a b c d u v g : ℤ) → rb -ℤ ra ≡ l1 -ℤ l2 → rb *ℤ u -ℤ ra *ℤ v ≡ l1 *ℤ g → a ≡ c +ℤ u → b ≡ c +ℤ v → d ≡ c +ℤ g
    → rb *ℤ a +ℤ neg_ℤ ra *ℤ b ≡ neg_ℤ l2 *ℤ c +ℤ l1 *ℤ d
one_coordinate ra rb l1 l2 a b c d u v g e k p q r =
    let f : (rb -ℤ ra) *ℤ c ≡ (l1 -ℤ l2) *ℤ c = ap (λ z. z *ℤ c) e in
    let h : (rb -ℤ ra) *ℤ c ≡ rb *ℤ c -ℤ ra *ℤ c = simp expand (omega (arith, polys)) in
    let i : (l1 -ℤ l2) *ℤ c ≡ l1 *ℤ c -ℤ l2 *ℤ c = simp expand (omega (arith, polys)) in
    let m : rb *ℤ (c +ℤ u) +ℤ neg_ℤ ra *ℤ (c +ℤ v) ≡ rb *ℤ c -ℤ ra *ℤ c +ℤ (rb *ℤ u -ℤ ra *ℤ v) = simp expand (omega (arith, polys)) in
    let n : neg_ℤ l2 *ℤ c +ℤ l1 *ℤ (c +ℤ g) ≡ l1 *ℤ c -ℤ l2 *ℤ c +ℤ l1 *ℤ g = simp expand (omega (arith, polys)) in
    rw (p, q, r) (omega (arith, ints))

module _ (a b c d : Point) where
  turn_a : turn c d (at a) ≡ neg_ℤ (a.x -ℤ c.x) *ℤ (d.y -ℤ c.y) +ℤ (a.y -ℤ c.y) *ℤ (d.x -ℤ c.x)
  turn_a = (λ i. p a i *ℤ (d.y -ℤ c.y) +ℤ q a i *ℤ (d.x -ℤ c.x)) where
    p : (v : Point) → c.x *ℤ pos 1 -ℤ v.x ≡ neg_ℤ (v.x -ℤ c.x)
    p v = omega (arith, ints)

    q : (v : Point) → v.y -ℤ c.y *ℤ pos 1 ≡ v.y -ℤ c.y
    q v = omega (arith, ints)

  turn_c : turn a b (at c) ≡ (a.x -ℤ c.x) *ℤ (b.y -ℤ c.y) -ℤ (a.y -ℤ c.y) *ℤ (b.x -ℤ c.x)
  turn_c =
      let e : a.x *ℤ pos 1 -ℤ c.x ≡ a.x -ℤ c.x = omega (arith, ints) in
      let f : c.y -ℤ a.y *ℤ pos 1 ≡ neg_ℤ (a.y -ℤ c.y) = omega (arith, ints) in
      let g : b.y -ℤ a.y ≡ (b.y -ℤ c.y) -ℤ (a.y -ℤ c.y) = omega (arith, ints) in
      let h : b.x -ℤ a.x ≡ (b.x -ℤ c.x) -ℤ (a.x -ℤ c.x) = omega (arith, ints) in
      (λ i. e i *ℤ g i +ℤ f i *ℤ h i) ∙ first_turn (a.x -ℤ c.x) (a.y -ℤ c.y) (b.x -ℤ c.x) (b.y -ℤ c.y)

  turn_d : turn a b (at d) ≡ ((a.x -ℤ c.x) -ℤ (d.x -ℤ c.x)) *ℤ ((b.y -ℤ c.y) -ℤ (a.y -ℤ c.y)) +ℤ ((d.y -ℤ c.y) -ℤ (a.y -ℤ c.y)) *ℤ ((b.x -ℤ c.x) -ℤ (a.x -ℤ c.x))
  turn_d =
      let e : a.x *ℤ pos 1 -ℤ d.x ≡ (a.x -ℤ c.x) -ℤ (d.x -ℤ c.x) = omega (arith, ints) in
      let f : d.y -ℤ a.y *ℤ pos 1 ≡ (d.y -ℤ c.y) -ℤ (a.y -ℤ c.y) = omega (arith, ints) in
      let g : b.y -ℤ a.y ≡ (b.y -ℤ c.y) -ℤ (a.y -ℤ c.y) = omega (arith, ints) in
      let h : b.x -ℤ a.x ≡ (b.x -ℤ c.x) -ℤ (a.x -ℤ c.x) = omega (arith, ints) in
      (λ i. e i *ℤ g i +ℤ f i *ℤ h i)

module _ (a b c d : Point) where
  pub same_weight : turn c d (at b) -ℤ turn c d (at a) ≡ turn a b (at c) -ℤ turn a b (at d)
  same_weight = rw (turn_a a b c d, turn_a b a c d, turn_c a b c d, turn_d a b c d) (weights_alike (a.x -ℤ c.x) (a.y -ℤ c.y) (b.x -ℤ c.x) (b.y -ℤ c.y) (d.x -ℤ c.x) (d.y -ℤ c.y))

  -- the place seen from both edges
  pub same_place : between (turn c d (at b)) (neg_ℤ (turn c d (at a))) (at a) (at b) ≡ between (neg_ℤ (turn a b (at d))) (turn a b (at c)) (at c) (at d)
  same_place =
      let ra = turn c d (at a) in let rb = turn c d (at b) in let l1 = turn a b (at c) in let l2 = turn a b (at d) in
      let e : (u : ℤ) → u ≡ c.x +ℤ (u -ℤ c.x) = λ u. omega (arith, ints) in
      let f : (u : ℤ) → u ≡ c.y +ℤ (u -ℤ c.y) = λ u. omega (arith, ints) in
      let kx : rb *ℤ (a.x -ℤ c.x) -ℤ ra *ℤ (b.x -ℤ c.x) ≡ l1 *ℤ (d.x -ℤ c.x) = rw (turn_a a b c d, turn_a b a c d, turn_c a b c d) (key (a.x -ℤ c.x) (a.y -ℤ c.y) (b.x -ℤ c.x) (b.y -ℤ c.y) (d.x -ℤ c.x) (d.y -ℤ c.y)) in
      let ky : rb *ℤ (a.y -ℤ c.y) -ℤ ra *ℤ (b.y -ℤ c.y) ≡ l1 *ℤ (d.y -ℤ c.y) = rw (turn_a a b c d, turn_a b a c d, turn_c a b c d) (key_up (a.x -ℤ c.x) (a.y -ℤ c.y) (b.x -ℤ c.x) (b.y -ℤ c.y) (d.x -ℤ c.x) (d.y -ℤ c.y)) in
      let s = same_weight in
      let x = one_coordinate ra rb l1 l2 a.x b.x c.x d.x _ _ _ s kx (e a.x) (e b.x) (e d.x) in
      let y = one_coordinate ra rb l1 l2 a.y b.y c.y d.y _ _ _ s ky (f a.y) (f b.y) (f d.y) in
      let w : rb *ℤ pos 1 +ℤ neg_ℤ ra *ℤ pos 1 ≡ neg_ℤ l2 *ℤ pos 1 +ℤ l1 *ℤ pos 1 = omega (arith, ints) in
      λ i. record { x = x i; y = y i; w = w i }
