-- Two places joined by a segment that meets no edge of a ring have one number of counted edges, up to an even number.
use Rattle.std.proofs.Common.{◌≡◌, ◌≢◌, ℕ, zero, suc, ◌+◌, ◌%◌, ◌<◌, ◌≤◌, cond, List, length, refl, sym, ap, ◌∙◌, subst, arith, ◌⊎◌, inl, inr}
use lib.IntN.{ℤ, pos, ◌*ℤ◌, +ℤ_comm}
use lib.Signed.{◌<ℤ◌}
use borrow.Author.Differences.{ints}
use Rattle.std.proofs.lemmas.Int.{by_lt_z}
use Rattle.std.specs.Prelude.{nat_eq}
use Rattle.std.proofs.lemmas.Bool.{lt-ltb, le-ltb, cases_eq, eq-eqb, ne_eqb}
use Rattle.poly_exact.specs.declared.points.Point.{Point}
use Rattle.poly_exact.specs.Places.{Place, IsOnEdge, counted, between, IsClear}
use Rattle.poly_exact.specs.Rings.{vertex, next, crossings}
use Rattle.poly_exact.proofs.Whole.{weak}
use Rattle.poly_exact.proofs.EdgeLaw.{AreOrdered, inside, edge_law}

pub next-more : (vs : List Point) (k : ℕ) → k + 1 < length vs → next vs k ≡ k + 1
next-more vs k h = ap (λ t. cond t (k + 1) 0) (lt-ltb _ _ h)

pub next-last : (vs : List Point) (k : ℕ) → length vs ≡ k + 1 → next vs k ≡ 0
next-last vs k h = ap (λ t. cond t (k + 1) 0) (le-ltb _ _ (omega arith))

-- the segment meets no edge of the ring
pub record IsClearOf (vs : List Point) (p q : Place) : Type 0 where
  pub each : (k : ℕ) → k < length vs → IsClear p q (vertex vs k) (vertex vs (next vs k))

module _ (vs : List Point) (p q : Place) (o : AreOrdered p q) (c : IsClearOf vs p q) where
  along : (k : ℕ) → k < length vs → (crossings vs p k + crossings vs q k + inside p q (vertex vs 0) + inside p q (vertex vs k)) % 2 ≡ 0
  unfolding crossings
  along zero h = omega arith
  along (suc k) h =
      let e : next vs k ≡ k + 1 = next-more vs k (omega arith) in
      let l = edge_law (vertex vs k) (vertex vs (next vs k)) p q o (c.each k (omega arith)) in
      let m = along k (omega arith) in
      let s : vertex vs (suc k) ≡ vertex vs (next vs k) = ap (vertex vs) (omega arith) in
      rw s (omega arith)

  whole : (n : ℕ) → length vs ≡ n → (crossings vs p n + crossings vs q n) % 2 ≡ 0
  unfolding crossings
  whole zero e = refl
  whole (suc k) e =
      let f : next vs k ≡ 0 = next-last vs k (omega arith) in
      let l = edge_law (vertex vs k) (vertex vs (next vs k)) p q o (c.each k (omega arith)) in
      let m = along k (omega arith) in
      let s : vertex vs 0 ≡ vertex vs (next vs k) = ap (vertex vs) (sym f) in
      let m' = subst (λ v. (crossings vs p k + crossings vs q k + inside p q v + inside p q (vertex vs k)) % 2 ≡ 0) s m in
      omega arith

  pub ordered_law : (crossings vs p (length vs) + crossings vs q (length vs)) % 2 ≡ 0
  ordered_law = whole (length vs) refl

-- ---- with no order

between-swapped : (s t : ℤ) (p q : Place) → between s t p q ≡ between t s q p
between-swapped s t p q = λ i. record { x = +ℤ_comm (s *ℤ p.x) (t *ℤ q.x) i; y = +ℤ_comm (s *ℤ p.y) (t *ℤ q.y) i; w = +ℤ_comm (s *ℤ p.w) (t *ℤ q.w) i }

pub IsClear-swapped : (p q : Place) (a b : Point) → IsClear p q a b → IsClear q p a b
IsClear-swapped p q a b c = record { none = λ s t h k l m. c.none t s k h (omega (arith, ints)) (subst (IsOnEdge a b) (between-swapped s t q p) m) }

pub segment_law : (vs : List Point) (p q : Place) → pos 0 <ℤ p.w → pos 0 <ℤ q.w → IsClearOf vs p q → (crossings vs p (length vs) + crossings vs q (length vs)) % 2 ≡ 0
segment_law vs p q h k c = by_lt_z (q.y *ℤ p.w) (p.y *ℤ q.w)
    (λ l. let r = ordered_law vs q p (record { first = k; second = h; order = weak l }) (record { each = λ e b. IsClear-swapped p q _ _ (c.each e b) }) in omega arith)
    (λ l. ordered_law vs p q (record { first = h; second = k; order = l }) c)

-- ---- with faults at some edges

total : (ℕ → ℕ) → ℕ → ℕ
total d zero = 0
total d (suc k) = total d k + d k

module _ (vs : List Point) (p q : Place) (d : ℕ → ℕ) (each : (k : ℕ) → k < length vs → (counted (vertex vs k) (vertex vs (next vs k)) p + counted (vertex vs k) (vertex vs (next vs k)) q + inside p q (vertex vs k) + inside p q (vertex vs (next vs k)) + d k) % 2 ≡ 0) where
  fault_along : (k : ℕ) → k < length vs → (crossings vs p k + crossings vs q k + inside p q (vertex vs 0) + inside p q (vertex vs k) + total d k) % 2 ≡ 0
  unfolding crossings total
  fault_along zero h = omega arith
  fault_along (suc k) h =
      let e : next vs k ≡ k + 1 = next-more vs k (omega arith) in
      let l = each k (omega arith) in
      let m = fault_along k (omega arith) in
      let s : vertex vs (suc k) ≡ vertex vs (next vs k) = ap (vertex vs) (omega arith) in
      rw s (omega arith)

  fault_whole : (n : ℕ) → length vs ≡ n → (crossings vs p n + crossings vs q n + total d n) % 2 ≡ 0
  unfolding crossings total
  fault_whole zero e = refl
  fault_whole (suc k) e =
      let f : next vs k ≡ 0 = next-last vs k (omega arith) in
      let l = each k (omega arith) in
      let m = fault_along k (omega arith) in
      let s : vertex vs 0 ≡ vertex vs (next vs k) = ap (vertex vs) (sym f) in
      let m' = subst (λ v. (crossings vs p k + crossings vs q k + inside p q v + inside p q (vertex vs k) + total d k) % 2 ≡ 0) s m in
      omega arith

  fault_law : (crossings vs p (length vs) + crossings vs q (length vs) + total d (length vs)) % 2 ≡ 0
  fault_law = fault_whole (length vs) refl

only : ℕ → ℕ → ℕ → ℕ
only e x k = cond (nat_eq k e) x 0

only-below : (e x n : ℕ) → n ≤ e → total (only e x) n ≡ 0
unfolding total only
only-below e x zero h = refl
only-below e x (suc k) h = rw (only-below e x k (omega arith)) (ap (λ t. 0 + cond t x 0) (ne_eqb k e (omega arith)))

only-above : (e x n : ℕ) → e < n → total (only e x) n ≡ x
unfolding total only
only-above e x zero h = absurd (omega arith)
only-above e x (suc k) h = elim (cases_eq k e) [
  | inl s ↦ rw (only-below e x k (omega arith)) (ap (λ t. 0 + cond t x 0) (eq-eqb k e s) ∙ omega arith)
  | inr n ↦ rw (only-above e x k (omega arith)) (ap (λ t. x + cond t x 0) (ne_eqb k e n) ∙ omega arith)
]

-- all edges but one keep the law, and that one has the fault x
pub one_law : (vs : List Point) (p q : Place) (e x : ℕ) → e < length vs
    → ((k : ℕ) → k < length vs → k ≢ e → (counted (vertex vs k) (vertex vs (next vs k)) p + counted (vertex vs k) (vertex vs (next vs k)) q + inside p q (vertex vs k) + inside p q (vertex vs (next vs k))) % 2 ≡ 0)
    → (counted (vertex vs e) (vertex vs (next vs e)) p + counted (vertex vs e) (vertex vs (next vs e)) q + inside p q (vertex vs e) + inside p q (vertex vs (next vs e)) + x) % 2 ≡ 0
    → (crossings vs p (length vs) + crossings vs q (length vs) + x) % 2 ≡ 0
unfolding only
one_law vs p q e x b others here =
    subst (λ t. (crossings vs p (length vs) + crossings vs q (length vs) + t) % 2 ≡ 0) (only-above e x (length vs) b)
    (fault_law vs p q (only e x) (λ k h. elim (cases_eq k e) [
      | inl s ↦ rw (eq-eqb k e s) (subst (λ j. (counted (vertex vs j) (vertex vs (next vs j)) p + counted (vertex vs j) (vertex vs (next vs j)) q + inside p q (vertex vs j) + inside p q (vertex vs (next vs j)) + x) % 2 ≡ 0) (sym s) here)
      | inr n ↦ (let o = others k h n in rw (ne_eqb k e n) (omega arith))
    ]))

pub parity : (c : ℕ) → (c % 2 ≡ 1) ⊎ (c % 2 ≡ 0)
parity c = elim (cases_eq (c % 2) 1) [ inl x ↦ inl x | inr y ↦ inr (omega arith) ]
