-- Where an edge's number lies among the rows.
use Rattle.std.proofs.Common.{◌≡◌, ℕ, zero, suc, ◌+◌, ◌-◌, ◌*◌, ◌/◌, ◌<◌, ◌≤◌, inl, inr, arith}
use Rattle.std.proofs.lemmas.Bool.{cases_lt}
use Rattle.network_words.specs.Edge.{edge_count, edge_at}
use Rattle.geo_sound.specs.Bases.{IsEdge}

-- how many edges come before the row of node i
abbrev pub row : ℕ → ℕ → ℕ
row n i = i * (2 * n - i - 1) / 2

row-next : (n i d : ℕ) → n ≡ i + 1 + d → row n (i + 1) ≡ row n i + d
row-next n i d e =
    let a : 2 * n - i - 1 ≡ i + 1 + 2 * d = omega arith in
    let b : 2 * n - (i + 1) - 1 ≡ i + 2 * d = omega arith in
    rw (a, b) (omega arith)

-- the row of the last node is behind all edges
row-last : (n i : ℕ) → n ≡ i + 1 → row n i ≡ edge_count n
row-last n i e =
    let a : 2 * n - i - 1 ≡ i + 1 = omega arith in
    let b : n - 1 ≡ i = omega arith in
    rw (a, b, e) (omega arith)

pub more-nodes : (n e : ℕ) → e < edge_count n → 1 < n
more-nodes zero e h = absurd (omega arith)
more-nodes (suc zero) e h = absurd (omega arith)
more-nodes (suc (suc n)) e h = omega arith

behind : (r c left e : ℕ) → r + left ≡ e → e < c → r ≡ c → ⊥
behind r c left e h l s = omega arith

-- an edge isn't behind the row of the last node
row-in : (n i left e : ℕ) → row n i + left ≡ e → e < edge_count n → i < n → i + 1 < n
row-in n i left e h l b = elim (cases_lt (i + 1) n) [
  | inl x ↦ x
  | inr y ↦ (let last : n ≡ i + 1 = omega arith in absurd
      (behind (row n i) (edge_count n) left e h l (row-last n i last)))
]

moved : (r s d left e : ℕ) → r + left ≡ e → s ≡ r + d → d ≤ left → s + (left - d) ≡ e
moved r s d left e h k l = omega arith

-- the row of node i holds nodes from i on; an edge whose number has at least so many more edges before it is
-- in a later row
pub row-passed : (n i left e : ℕ) → row n i + left ≡ e → e < edge_count n → i + 1 < n → n - 1 - i ≤ left →
    (i + 1 + 1 < n) × (row n (i + 1) + (left - (n - 1 - i)) ≡ e)
row-passed n i left e h l b p =
    let next : row n (i + 1) ≡ row n i + (n - 1 - i) = row-next n i (n - 1 - i) (omega arith) in
    let k = moved (row n i) (row n (i + 1)) (n - 1 - i) left e h next p in
    (row-in n (i + 1) (left - (n - 1 - i)) e k l b, k)

joined : (r x e : ℕ) → r + x ≡ e → (y : ℕ) → y ≡ x → r + y ≡ e
joined r x e h y s = omega arith

pub edge-in_row : (n e i left : ℕ) → row n i + left ≡ e → left < n - 1 - i → IsEdge n e i (i + 1 + left)
unfolding edge_at
edge-in_row n e i left h l =
    record {
      order = omega arith;
      below = omega arith;
      number = joined (row n i) left e h (i + 1 + left - i - 1)
          (omega arith);
    }
