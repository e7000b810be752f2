-- The pairs of a node with greater ones, narrowed along one third node after another.
use Rattle.std.proofs.Common.{◌≡◌, ℕ, ◌+◌, ◌<◌, ◌≤◌, subst, arith, inl, inr}
use Rattle.std.proofs.lemmas.Bool.{cases_lt}
use Rattle.calculus_table.specs.Algebra.{Algebra}
use Rattle.network_words.specs.Edge.{IsProperTriple}
use Rattle.edge_propagation.specs.Worklist.{Worklist}
use Rattle.edge_propagation.specs.Propagation.{IsStep, IsSettledAt, IsRowSettled}
use Rattle.edge_propagation.proofs.Settled.{IsSettledAt-step}

-- the triples of i, the nodes below j and greater nodes are settled
abbrev pub IsRowSwept : Algebra → Worklist → ℕ → ℕ → Type 0
IsRowSwept m work i j = (q k : ℕ) → q < j → i < k → IsProperTriple work.nodes i q k → IsSettledAt m work i q k

pub IsRowSwept-node : (m : Algebra) (old new : Worklist) (i j : ℕ) → IsStep m old new → IsRowSwept m old i j →
    ((k : ℕ) → i < k → IsProperTriple old.nodes i j k → IsSettledAt m new i j k) → IsRowSwept m new i (j + 1)
IsRowSwept-node m old new i j p before here = λ q k below order t'.
    let t : IsProperTriple old.nodes i q k = subst (λ n. IsProperTriple n i q k) p.nodes t' in
    elim (cases_lt q j) as (λ _. IsSettledAt m new i q k) [
      | inl earlier ↦ IsSettledAt-step m old new i q k p t (before q k earlier order t)
      | inr later ↦
          (let same : q ≡ j = omega arith in
          rw same (here k order (rw same at t)))
    ]

-- settled rows stay so
pub IsRowSettled-step : (m : Algebra) (old new : Worklist) (i : ℕ) → IsStep m old new → IsRowSettled m old i → IsRowSettled m new i
IsRowSettled-step m old new i p h = λ j k below t'.
    let t : IsProperTriple old.nodes i j k = subst (λ n. IsProperTriple n i j k) p.nodes t' in
    IsSettledAt-step m old new i j k p t (h j k below t)

-- and so do those of some nodes, to which the next one is added
pub AreRowsSettled-more : (m : Algebra) (old new : Worklist) (first i : ℕ) → IsStep m old new → ((r : ℕ) → first ≤ r → r < i → IsRowSettled m old r) → IsRowSettled m new i →
    (r : ℕ) → first ≤ r → r < i + 1 → IsRowSettled m new r
AreRowsSettled-more m old new first i p before here = λ r low high. elim (cases_lt r i) as (λ _. IsRowSettled m new r) [
  | inl below ↦ IsRowSettled-step m old new r p (before r low below)
  | inr above ↦ (let same : i ≡ r = omega arith in subst (IsRowSettled m new) same here)
]
