-- Pairs and triples of nodes, in whichever order, and the edges between them.
use Rattle.std.proofs.Common.{◌≡◌, ◌≢◌, ℕ, ◌<◌, cond, ltb, sym, ◌∙◌, arith, ◌⊎◌, inl, inr}
use Rattle.std.proofs.lemmas.Bool.{cases_lt, cases_eq, lt-ltb, le-ltb}
use Rattle.network_words.specs.Edge.{edge_count, edge_at, edge_between, IsSamePair, IsProperPair, IsProperTriple}
use Rattle.network_words.proofs.Edges.{edge_at-lt, edge_at-first, edge_at-second, edge_between-forward, edge_between-backward}

-- ---- pairs and triples

pub pair-swap : (n i j : ℕ) → IsProperPair n i j → IsProperPair n j i
pair-swap n i j p = record { first_below = p.second_below; second_below = p.first_below; differ = λ e. p.differ (sym e) }

pub pair-ordered : (n i j : ℕ) → i < j → j < n → IsProperPair n i j
pair-ordered n i j o b = record { first_below = omega arith; second_below = b; differ = λ e. absurd (omega arith) }

pub pair-first : (n i j k : ℕ) → IsProperTriple n i j k → IsProperPair n i j
pair-first n i j k t = record { first_below = t.first_below; second_below = t.second_below; differ = t.first_second }

pub pair-second : (n i j k : ℕ) → IsProperTriple n i j k → IsProperPair n j k
pair-second n i j k t = record { first_below = t.second_below; second_below = t.third_below; differ = t.second_third }

pub pair-outer : (n i j k : ℕ) → IsProperTriple n i j k → IsProperPair n i k
pair-outer n i j k t = record { first_below = t.first_below; second_below = t.third_below; differ = t.first_third }

pub triple-swap : (n i j k : ℕ) → IsProperTriple n i j k → IsProperTriple n k j i
triple-swap n i j k t = record {
  first_below = t.third_below;
  second_below = t.second_below;
  third_below = t.first_below;
  first_second = λ e. t.second_third (sym e);
  second_third = λ e. t.first_second (sym e);
  first_third = λ e. t.first_third (sym e);
}

-- ---- edges between them

pub edge_between-swap : (n i j : ℕ) → i ≢ j → edge_between n i j ≡ edge_between n j i
edge_between-swap n i j d = elim (cases_lt i j) [
  | inl h ↦ edge_between-forward n i j h ∙ sym (edge_between-backward n j i (omega arith))
  | inr h ↦ edge_between-backward n i j h ∙ sym (edge_between-forward n j i (omega arith))
]

pub edge_between-lt : (n i j : ℕ) → IsProperPair n i j → edge_between n i j < edge_count n
edge_between-lt n i j p = elim (cases_lt i j) [
  | inl h ↦ rw (edge_between-forward n i j h) (edge_at-lt n i j h p.second_below)
  | inr h ↦ rw (edge_between-backward n i j h) (edge_at-lt n j i (let d : i ≢ j = p.differ in omega arith) p.first_below)
]

-- what numbers ordered pairs apart, taken of the lesser node first, numbers pairs apart
pub pair-from : (f : ℕ → ℕ → ℕ) (n : ℕ) → ((a b i j : ℕ) → a < b → b < n → i < j → j < n → f a b ≡ f i j → (a ≡ i) × (b ≡ j)) → (a b i j : ℕ) → IsProperPair n a b → IsProperPair n i j →
    cond (ltb a b) (f a b) (f b a) ≡ cond (ltb i j) (f i j) (f j i) → IsSamePair a b i j
pair-from f n same a b i j p q e = elim (cases_lt a b) [
  | inl ab ↦ elim (cases_lt i j) [
    | inl ij ↦ inl (same a b i j ab p.second_below ij q.second_below (rw (lt-ltb a b ab, lt-ltb i j ij) at e))
    | inr ji ↦ inr (same a b j i ab p.second_below (let d : i ≢ j = q.differ in omega arith) q.first_below (rw (lt-ltb a b ab, le-ltb i j ji) at e))
  ]
  | inr ba ↦ elim (cases_lt i j) [
    | inl ij ↦ (let s = same b a i j (let d : a ≢ b = p.differ in omega arith) p.first_below ij q.second_below (rw (le-ltb a b ba, lt-ltb i j ij) at e) in inr (s.1, s.0))
    | inr ji ↦ (let s = same b a j i (let d : a ≢ b = p.differ in omega arith) p.first_below (let d : i ≢ j = q.differ in omega arith) q.first_below (rw (le-ltb a b ba, le-ltb i j ji) at e) in inl (s.1, s.0))
  ]
]

pub pair-from_edge : (n a b i j : ℕ) → IsProperPair n a b → IsProperPair n i j → edge_between n a b ≡ edge_between n i j → IsSamePair a b i j
pair-from_edge n a b i j p q e =
    pair-from (edge_at n) n (λ a b i j o u o' v h. (edge_at-first n a b i j o u o' v h, edge_at-second n a b i j o u o' v h)) a b i j p q e

pub edge_between-same : (n a b i j : ℕ) → i ≢ j → IsSamePair a b i j → edge_between n a b ≡ edge_between n i j
edge_between-same n a b i j d (inl s) = cc (s.0, s.1)
edge_between-same n a b i j d (inr s) = cc (s.0, s.1, edge_between-swap n i j d)

pub same_pair-cases : (n a b i j : ℕ) → IsProperPair n a b → IsProperPair n i j → IsSamePair a b i j ⊎ ¬ IsSamePair a b i j
same_pair-cases n a b i j p q = elim (cases_eq (edge_between n a b) (edge_between n i j)) [
  | inl e ↦ inl (pair-from_edge n a b i j p q e)
  | inr ne ↦ inr (λ s. ne (edge_between-same n a b i j q.differ s))
]
