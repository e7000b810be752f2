-- Edges of one node stand one after another, and places in edge order are places in the order of pairs.
use Rattle.std.proofs.Common.{◌≡◌, ℕ, ◌+◌, ◌-◌, ◌*◌, ◌/◌, ◌<◌, subst, sym, arith, inl, inr}
use Rattle.network_words.specs.Edge.{edge_at, EdgeOf, ComesBefore}
use Rattle.network_words.proofs.Edges.{edge_of, edge_at-lt, edge_at-order}
use Rattle.scenario.specs.ScenarioFault.{EachEdge, IsFirstEdge}
use Rattle.scenario.specs.Places.{EachPairFrom, IsFirstPairFrom}

-- the edge from i to a node k after j
pub edge_at-after : (n i j k : ℕ) → i < j → j < k → edge_at n i k ≡ edge_at n i j + (k - j)
unfolding edge_at
edge_at-after n i j k o b = sums (i * (2 * n - i - 1) / 2) i j k o b
  where
    sums : (x i j k : ℕ) → i < j → j < k → x + (k - i - 1) ≡ x + (j - i - 1) + (k - j)
    sums x i j k o b = omega arith

-- and the edge from j to it
pub edge_at-next : (n j k : ℕ) → j < k → edge_at n j k ≡ edge_at n j (j + 1) + (k - j - 1)
unfolding edge_at
edge_at-next n j k o = sums (j * (2 * n - j - 1) / 2) j k o
  where
    sums : (x j k : ℕ) → j < k → x + (k - j - 1) ≡ x + (j + 1 - j - 1) + (k - j - 1)
    sums x j k o = omega arith

-- what holds of the edge of each pair holds of each edge
pub EachEdge-pairs : (n : ℕ) (P : ℕ → Type 0) → EachPairFrom 0 n (λ i j. P (edge_at n i j)) → EachEdge n P
EachEdge-pairs n P each e b =
    let f : EdgeOf n e = edge_of n e b in
    subst P f.number (each f.first f.second (omega arith) f.order f.below)

-- the first pair whose edge hasn't a property is the first edge without it
pub IsFirstEdge-pair : (n : ℕ) (P : ℕ → Type 0) (i j : ℕ) → IsFirstPairFrom 0 n (λ i j. P (edge_at n i j)) i j → IsFirstEdge n P i j
IsFirstEdge-pair n P i j p = record {
  order = p.order;
  below = p.below;
  here = p.here;
  before = λ e l.
      let f : EdgeOf n e = edge_of n e (omega (arith, edge_at-lt n i j p.order p.below)) in
      let less : edge_at n f.first f.second < edge_at n i j = omega (arith, f.number) in
      subst P f.number (at f.first f.second f.order f.below ((edge_at-order n f.first f.second i j f.order f.below p.order p.below).0 less));
}
  where
    at : (a b : ℕ) → a < b → b < n → ComesBefore a b i j → P (edge_at n a b)
    at a b o l c = elim c [
      | inl x ↦ p.first_before a b (omega arith) x o l
      | inr s ↦ subst (λ x. P (edge_at n x b)) (sym s.0) (p.before b (omega (arith, s.0)) s.1)
    ]
