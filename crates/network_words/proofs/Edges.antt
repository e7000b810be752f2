-- The numbers of edges: their rows, their bound, and that different pairs have different numbers.
use Rattle.std.proofs.Common.{◌≡◌, ◌↔◌, ℕ, cond, zero, suc, ◌+◌, ◌-◌, ◌*◌, ◌/◌, ◌<◌, ◌≤◌, refl, ◌∙◌, ap, subst, arith, inl, inr, add-zero, add-suc}
use Rattle.std.proofs.lemmas.Bool.{cases_lt, lt-ltb, le-ltb}
use Rattle.network_words.specs.Edge.{edge_count, edge_at, edge_between, ComesBefore}
pub use Rattle.network_words.specs.Edge.{EdgeOf}

-- the number of the first edge of node i
pub row_start : ℕ → ℕ → ℕ
row_start n zero = 0
row_start n (suc i) = row_start n i + (n - 1 - i)

row_start-step : (n i d r : ℕ) → n ≡ i + 1 + d → r * 2 ≡ i * (2 * n - i - 1) → (r + (n - 1 - i)) * 2 ≡ suc i * (2 * n - suc i - 1)
row_start-step n i d r e h =
    let a : 2 * n - i - 1 ≡ i + 1 + 2 * d = omega arith in
    let b : 2 * n - suc i - 1 ≡ i + 2 * d = omega arith in
    let c : n - 1 - i ≡ d = omega arith in
    let h' : r * 2 ≡ i * (i + 1 + 2 * d) = rw a at h in
    rw (b, c) (omega (arith, h'))

row_start-double : (n i : ℕ) → i ≤ n → row_start n i * 2 ≡ i * (2 * n - i - 1)
unfolding row_start
row_start-double n zero h = omega arith
row_start-double n (suc i) h =
    row_start-step n i (n - (i + 1)) (row_start n i) (omega arith) (row_start-double n i (omega arith))

half-double : (x y : ℕ) → x * 2 ≡ y → y / 2 ≡ x
half-double x y h = omega arith

pub edge_at-row : (n i j : ℕ) → i ≤ n → edge_at n i j ≡ row_start n i + (j - i - 1)
unfolding edge_at
edge_at-row n i j h = ap (λ x. x + (j - i - 1)) (half-double (row_start n i) (i * (2 * n - i - 1)) (row_start-double n i h))

pub edge_count-row : (n : ℕ) → edge_count n ≡ row_start n n
edge_count-row n =
    let e : 2 * n - n - 1 ≡ n - 1 = omega arith in
    half-double (row_start n n) (n * (n - 1)) (row_start-double n n (omega arith) ∙ ap (λ x. n * x) e)

row_start-more : (n i : ℕ) → row_start n (suc i) ≡ row_start n i + (n - 1 - i)
unfolding row_start
row_start-more n i = refl

row_start-up : (n i k : ℕ) → row_start n i ≤ row_start n (i + k)
row_start-up n i zero = rw (add-zero i) (omega arith)
row_start-up n i (suc k) = rw (add-suc i k) (omega (arith, row_start-more n (i + k), row_start-up n i k))

row_start-mono : (n i j : ℕ) → i ≤ j → row_start n i ≤ row_start n j
row_start-mono n i j h = let e : i + (j - i) ≡ j = omega arith in subst (λ x. row_start n i ≤ row_start n x) e (row_start-up n i (j - i))

-- an edge's number is within the row of its first node
pub edge_at-row_start : (n i j : ℕ) → i < j → j < n → row_start n i ≤ edge_at n i j
edge_at-row_start n i j o b = omega (arith, edge_at-row n i j (omega arith))

pub edge_at-row_end : (n i j : ℕ) → i < j → j < n → edge_at n i j < row_start n (suc i)
edge_at-row_end n i j o b = omega (arith, edge_at-row n i j (omega arith), row_start-more n i)

pub edge_at-lt : (n i j : ℕ) → i < j → j < n → edge_at n i j < edge_count n
edge_at-lt n i j o b = omega (arith, edge_count-row n, edge_at-row_end n i j o b, row_start-mono n (suc i) n (omega arith))

-- different pairs have different numbers
pub edge_at-first : (n i j k l : ℕ) → i < j → j < n → k < l → l < n → edge_at n i j ≡ edge_at n k l → i ≡ k
edge_at-first n i j k l o b p q e = elim (cases_lt i k) [
  | inl x ↦ absurd (omega (arith, edge_at-row_end n i j o b, edge_at-row_start n k l p q, row_start-mono n (suc i) k x))
  | inr y ↦ elim (cases_lt k i) [
    | inl z ↦ absurd (omega (arith, edge_at-row_end n k l p q, edge_at-row_start n i j o b, row_start-mono n (suc k) i z))
    | inr w ↦ omega arith
  ]
]

pub edge_at-second : (n i j k l : ℕ) → i < j → j < n → k < l → l < n → edge_at n i j ≡ edge_at n k l → j ≡ l
edge_at-second n i j k l o b p q e =
    let same : i ≡ k = edge_at-first n i j k l o b p q e in
    let rows : row_start n i ≡ row_start n k = ap (row_start n) same in
    omega (arith, edge_at-row n i j (omega arith), edge_at-row n k l (omega arith))

-- the numbers are in the lexicographic order of the pairs
pub edge_at-order : (n i j k l : ℕ) → i < j → j < n → k < l → l < n → edge_at n i j < edge_at n k l ↔ ComesBefore i j k l
edge_at-order n i j k l o b p q = (
  λ h. elim (cases_lt i k) [
    | inl x ↦ inl x
    | inr y ↦ elim (cases_lt k i) [
      | inl z ↦ absurd (omega (arith, edge_at-row_end n k l p q, edge_at-row_start n i j o b, row_start-mono n (suc k) i z))
      | inr w ↦ (let same : i ≡ k = omega arith in
          let rows : row_start n i ≡ row_start n k = ap (row_start n) same in
          inr (same, omega (arith, edge_at-row n i j (omega arith), edge_at-row n k l (omega arith))))
    ]
  ],
  λ h. elim h [
    | inl x ↦ omega (arith, edge_at-row_end n i j o b, edge_at-row_start n k l p q, row_start-mono n (suc i) k x)
    | inr s ↦ (let first = s.0 in
        let second = s.1 in
        let rows : row_start n i ≡ row_start n k = ap (row_start n) first in
        omega (arith, edge_at-row n i j (omega arith), edge_at-row n k l (omega arith)))
  ],
)

-- the edge between two nodes, by their order
pub edge_between-forward : (n i j : ℕ) → i < j → edge_between n i j ≡ edge_at n i j
edge_between-forward n i j h = ap (λ b. cond b (edge_at n i j) (edge_at n j i)) (lt-ltb i j h)

pub edge_between-backward : (n i j : ℕ) → j ≤ i → edge_between n i j ≡ edge_at n j i
edge_between-backward n i j h = ap (λ b. cond b (edge_at n i j) (edge_at n j i)) (le-ltb i j h)

edge_below : (n k e : ℕ) → k ≤ n → e < row_start n k → EdgeOf n e
unfolding row_start
edge_below n zero e h b = absurd (omega arith)
edge_below n (suc k) e h b = elim (cases_lt e (row_start n k)) [
  | inl x ↦ edge_below n k e (omega arith) x
  | inr y ↦ record {
    first = k;
    second = k + 1 + (e - row_start n k);
    order = omega arith;
    below = omega arith;
    number = edge_at-row n k (k + 1 + (e - row_start n k)) (omega arith) ∙ (omega arith);
  }
]

pub edge_of : (n e : ℕ) → e < edge_count n → EdgeOf n e
edge_of n e b = edge_below n n e (omega arith) (omega (arith, edge_count-row n))
