-- What can't be that it isn't there: a matrix of two rings, and a scenario where each edge has a base
-- relation.
use Rattle.std.proofs.Common.{◌≡◌, ◌⊎◌, ℕ, zero, suc, ◌+◌, ◌<◌, List, [], ◌∷◌, ◌++◌, length, refl, sym, subst, inl, inr}
use Rattle.std.proofs.Common.{arith, length-append}
use Rattle.std.specs.Prelude.{slice_index}
use Rattle.std.proofs.lemmas.Bool.{cases_lt}
use Rattle.std.proofs.lemmas.List.{get_or_append_left, get_or-append-add}
use Rattle.calculus_table.specs.Rel.{Has}
use Rattle.calculus_builtin.specs.Rcc8.{rcc8_algebra}
use Rattle.network_words.specs.Edge.{edge_count, edge_at}
use Rattle.network_words.specs.Scenario.{IsScenario}
use Rattle.network_words.proofs.Edges.{edge_of, edge_at-lt, edge_at-first, edge_at-second}
use Rattle.poly_exact.specs.declared.points.Point.{Point}
use Rattle.poly_exact.specs.Rings.{IsOnRing}
use Rattle.poly_exact.specs.Met.{Shares}
use Rattle.de9im.specs.declared.matrices.Dim.{Dim}
use Rattle.de9im.specs.declared.matrices.Dim.TheVariants as dim
use Rattle.de9im.specs.declared.matrices.Matrix.{Matrix}
use Rattle.de9im.specs.Matrix.{Common}
use Rattle.de9im.specs.Scans.{EdgePair}
use Rattle.de9im.specs.Matrices.{IsEntry, IsBoundaryEntry, IsMatrix}
use Rattle.geo_sound.specs.Bases.{IsBaseOf}
use Rattle.geo_sound.proofs.Drawings.{scenario-of}

-- ---- two rings have a matrix: it can't be that none is one

decided : (thing : Type 0) → ((thing ⊎ (thing → ⊥)) → ⊥) → ⊥
decided thing none = none (inr (λ x. none (inl x)))

entry-of : (d : Dim) (thing : Type 0) → thing ⊎ (thing → ⊥) → (entry : Dim) × IsEntry entry d thing
entry-of d thing (inl x) = (d, inl (refl, x))
entry-of d thing (inr n) = (dim.F, inr (refl, n))

boundary-of : (vs ws : List Point) → EdgePair vs ws Shares ⊎ (EdgePair vs ws Shares → ⊥) →
    Common (IsOnRing vs) (IsOnRing ws) ⊎ (Common (IsOnRing vs) (IsOnRing ws) → ⊥) →
    (entry : Dim) × IsBoundaryEntry entry vs ws
boundary-of vs ws (inl x) c = (dim.D1, inl (refl, x))
boundary-of vs ws (inr n) (inl y) = (dim.D0, inr (inl (refl, (n, y))))
boundary-of vs ws (inr n) (inr m) = (dim.F, inr (inr (refl, m)))

pub matrix-there : (vs ws : List Point) → ((m : Matrix) → IsMatrix m vs ws → ⊥) → ⊥
matrix-there vs ws none =
    decided _ (λ ii. decided _ (λ ib. decided _ (λ ie.
    decided _ (λ bi. decided _ (λ stretch. decided _ (λ point.
    decided _ (λ be. decided _ (λ ei. decided _ (λ eb.
    let ii' = entry-of dim.D2 _ ii in
    let ib' = entry-of dim.D1 _ ib in
    let ie' = entry-of dim.D2 _ ie in
    let bi' = entry-of dim.D1 _ bi in
    let bb' = boundary-of vs ws stretch point in
    let be' = entry-of dim.D1 _ be in
    let ei' = entry-of dim.D2 _ ei in
    let eb' = entry-of dim.D1 _ eb in
    none (record {
      ii = ii'.0;
      ib = ib'.0;
      ie = ie'.0;
      bi = bi'.0;
      bb = bb'.0;
      be = be'.0;
      ei = ei'.0;
      eb = eb'.0;
      ee = dim.D2;
    })
    (record {
      ii = ii'.1;
      ib = ib'.1;
      ie = ie'.1;
      bi = bi'.1;
      bb = bb'.1;
      be = be'.1;
      ei = ei'.1;
      eb = eb'.1;
      ee = refl;
    }))))))))))

-- ---- a list of numbers, where there is one for each place

last-more : (P : ℕ → ℕ → Type 0) (k b : ℕ) (bs : List ℕ) → length bs ≡ k → ((e : ℕ) → e < k → P e (slice_index bs e)) →
    P k b → (e : ℕ) → e < suc k → P e (slice_index (bs ++ b ∷ []) e)
last-more P k b bs len h pb e l = elim (cases_lt e k) [
  | inl x ↦ subst (P e) (sym (get_or_append_left bs (b ∷ []) 0 e (omega arith))) (h e x)
  | inr y ↦ (let same : length bs + 0 ≡ e = omega arith in
      let is_k : k ≡ e = omega arith in
      subst (λ i. P e (slice_index (bs ++ b ∷ []) i)) same
      (subst (P e) (sym (get_or-append-add bs (b ∷ []) 0 0)) (subst (λ i. P i b) is_k pb)))
]

pub list-there : (P : ℕ → ℕ → Type 0) (k : ℕ) → ((e : ℕ) → e < k → ((b : ℕ) → P e b → ⊥) → ⊥) →
    ((bs : List ℕ) → length bs ≡ k → ((e : ℕ) → e < k → P e (slice_index bs e)) → ⊥) → ⊥
list-there P zero each none = none [] refl (λ e l. absurd (omega arith))
list-there P (suc k) each none =
    list-there P k (λ e l. each e (omega arith)) (λ bs len h.
    each k (omega arith) (λ b pb. none (bs ++ b ∷ []) (omega (arith, length-append bs (b ∷ []), len))
    (last-more P k b bs len h pb)))

-- ---- a scenario, where each two nodes have a base relation of their rings that their edge's set has

module _ (ring : ℕ → List Point) (n : ℕ) (words : List ℕ)
    (there : (i j : ℕ) → i < j → j < n →
    ((base : ℕ) → IsBaseOf (ring i) (ring j) base → Has (slice_index words (edge_at n i j)) base → ⊥) → ⊥) where
  -- a base relation of the rings of an edge, which its set has
  record Fits (e base : ℕ) : Type 0 where
    each : (i j : ℕ) → i < j → j < n → edge_at n i j ≡ e → IsBaseOf (ring i) (ring j) base
    has : Has (slice_index words e) base

  fits-from : (i j base : ℕ) → i < j → j < n → IsBaseOf (ring i) (ring j) base →
      Has (slice_index words (edge_at n i j)) base → Fits (edge_at n i j) base
  fits-from i j base o b is has = record {
    each = λ k l p q e.
        let first : i ≡ k = sym (edge_at-first n k l i j p q o b e) in
        let second : j ≡ l = sym (edge_at-second n k l i j p q o b e) in
        subst (λ x. IsBaseOf (ring x) (ring l) base) first (subst (λ x. IsBaseOf (ring i) (ring x) base) second is);
    has = has;
  }

  fits-there : (e : ℕ) → e < edge_count n → ((base : ℕ) → Fits e base → ⊥) → ⊥
  fits-there e l none =
      let k = edge_of n e l in
      there k.first k.second k.order k.below (λ base is has.
      none base (subst (λ x. Fits x base) k.number (fits-from k.first k.second base k.order k.below is has)))

  pub scenario-there : ((relations : List ℕ) → IsScenario rcc8_algebra n words relations → ⊥) → ⊥
  scenario-there none =
      list-there Fits (edge_count n) fits-there (λ bs len h.
      none bs (scenario-of ring n words bs len
      (λ i j o b. (h (edge_at n i j) (edge_at-lt n i j o b)).each i j o b refl) (λ e l. (h e l).has)))
