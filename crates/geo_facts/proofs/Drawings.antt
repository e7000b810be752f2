-- What is drawn for a demonstration, ring by ring and edge by edge.
use Rattle.std.proofs.Common.{◌≡◌, ◌≢◌, ℕ, zero, suc, ◌+◌, ◌-◌, ◌*◌, ◌/◌, ◌<◌, false, cond, List, [], ◌∷◌, ◌++◌, length, slice_index, slice_set, refl, sym, ap, subst, ◌∙◌, arith, inl, inr, get_or-set_other, get_or-set_same}
use Rattle.std.proofs.lemmas.Bool.{cases_lt}
use Rattle.std.proofs.lemmas.List.{length_push}
use Rattle.network_words.specs.Edge.{edge_count, edge_at}
use Rattle.network_words.proofs.Edges.{edge_at-lt, edge_at-first, edge_at-second}
use Rattle.poly_exact.specs.declared.points.Point.{Point}
use Rattle.poly_exact.specs.Kept.{kept}
use Rattle.geo_facts.specs.Facts.{IsRcc8}
use Rattle.geo_facts.specs.Demo.{advance, state, rectangle_after, demo_ring, is_forgotten_after, is_forgotten, IsDrawnWord, kept_below, HaveDrawnWords, ring_of, AreDemoRings, IsDemoTo, IsDrawn}

-- ---- rings

state-next : (seed k x y : ℕ) → x ≡ state seed k → y ≡ advance x → y ≡ state seed (suc k)
unfolding state
state-next seed k x y e f = f ∙ ap advance e

pub state-four : (seed node x y : ℕ) → x ≡ state seed (4 * node) → y ≡ advance (advance (advance (advance x))) → y ≡ state seed (4 * (node + 1))
state-four seed node x y e f =
    let k : suc (suc (suc (suc (4 * node)))) ≡ 4 * (node + 1) = omega arith in
    let one = state-next seed (4 * node) x (advance x) e refl in
    let two = state-next seed (suc (4 * node)) (advance x) (advance (advance x)) one refl in
    let three = state-next seed (suc (suc (4 * node))) (advance (advance x)) (advance (advance (advance x))) two refl in
    subst (λ j. y ≡ state seed j) k (state-next seed (suc (suc (suc (4 * node)))) (advance (advance (advance x))) y three f)

pub state-none : (seed k : ℕ) → k ≡ 0 → seed ≡ state seed k
unfolding state
state-none seed k e = subst (λ j. seed ≡ state seed j) (sym e) refl

ring_of-front : (rings : List (List Point)) (ring : List Point) (k : ℕ) → k < length rings → ring_of (rings ++ ring ∷ []) k ≡ ring_of rings k
ring_of-front [] ring k h = absurd (omega arith)
ring_of-front (r ∷ rs) ring zero h = refl
ring_of-front (r ∷ rs) ring (suc k) h = ring_of-front rs ring k (omega arith)

ring_of-last : (rings : List (List Point)) (ring : List Point) → ring_of (rings ++ ring ∷ []) (length rings) ≡ ring
ring_of-last [] ring = refl
ring_of-last (r ∷ rs) ring = ring_of-last rs ring

pub AreDemoRings-none : (seed : ℕ) (rings : List (List Point)) → rings ≡ [] → AreDemoRings seed 0 rings
AreDemoRings-none seed rings e = record { length_is = ap length e; each = λ node below. absurd (omega arith) }

pub AreDemoRings-more : (seed node x : ℕ) (rings now : List (List Point)) (ring : List Point) → AreDemoRings seed node rings → x ≡ state seed (4 * node) → ring ≡ kept (rectangle_after x) → now ≡ rings ++ ring ∷ [] →
    AreDemoRings seed (node + 1) now
AreDemoRings-more seed node x rings now ring h e f more = subst (AreDemoRings seed (node + 1)) (sym more) (record {
  length_is = length_push rings ring ∙ ap (λ k. k + 1) h.length_is;
  each = λ k below. elim (cases_lt k node) [
    | inl front ↦ (let in_front : k < length rings = omega (arith, h.length_is) in ring_of-front rings ring k in_front ∙ h.each k front)
    | inr last ↦
        (let end : k ≡ length rings = omega (arith, below, h.length_is) in
        let same : node ≡ k = omega arith in
        ap (ring_of (rings ++ ring ∷ [])) end ∙ ring_of-last rings ring ∙ f ∙ ap (λ y. kept (rectangle_after y)) e ∙ ap (demo_ring seed) same)
  ];
})

-- ---- edges in order

pub edge_at-next : (n i j : ℕ) → i < j → edge_at n i (j + 1) ≡ edge_at n i j + 1
unfolding edge_at
edge_at-next n i j h = omega arith

row-next : (n i d : ℕ) → n ≡ i + 1 + d → (i + 1) * (2 * n - (i + 1) - 1) / 2 ≡ i * (2 * n - i - 1) / 2 + d
row-next n i d e =
    let a : 2 * n - i - 1 ≡ i + 1 + 2 * d = omega arith in
    let b : 2 * n - (i + 1) - 1 ≡ i + 2 * d = omega arith in
    let c : (i + 1) * (i + 2 * d) ≡ i * (i + 1 + 2 * d) + d * 2 = omega arith in
    let half : (i * (i + 1 + 2 * d) + d * 2) / 2 ≡ i * (i + 1 + 2 * d) / 2 + d = omega arith in
    rw (a, b, c) half

pub edge_at-row_next : (n i : ℕ) → i < n → edge_at n (i + 1) (i + 2) ≡ edge_at n i n
unfolding edge_at
edge_at-row_next n i h = let e = row-next n i (n - i - 1) (omega arith) in omega (arith, e)

pub edge_at-start : (n : ℕ) → edge_at n 0 1 ≡ 0
unfolding edge_at
edge_at-start n = omega arith

pub edge_at-all : (n : ℕ) → edge_at n n (n + 1) ≡ edge_count n
unfolding edge_at
edge_at-all n = let e : 2 * n - n - 1 ≡ n - 1 = omega arith in rw e (omega arith)

-- ---- one edge more

pub IsDrawn-kept : (x : ℕ) (vs ws : List Point) (word : ℕ) → is_forgotten_after x ≡ false → IsRcc8 vs ws word → IsDrawn x vs ws word 1
IsDrawn-kept x vs ws word e r = record {
  word_is = subst (λ b. IsDrawnWord b vs ws word) (sym e) r;
  count_is = ap (λ b. cond b 0 1) (sym e);
}

kept_below-next : (seed n e count c x : ℕ) → count ≡ kept_below seed n e → x ≡ state seed (4 * n + e) → c ≡ cond (is_forgotten_after x) 0 1 → count + c ≡ kept_below seed n (suc e)
unfolding kept_below
kept_below-next seed n e count c x h s f = ap (λ k. k + c) h ∙ ap (λ k. kept_below seed n e + k) (f ∙ ap (λ y. cond (is_forgotten_after y) 0 1) s)

pub IsDemoTo-none : (seed n x : ℕ) (words : List ℕ) (e : ℕ) → e ≡ 0 → x ≡ state seed (4 * n) → IsDemoTo seed n x words 0 e
unfolding kept_below
IsDemoTo-none seed n x words e none h = record {
  state_is = h ∙ (let k : 4 * n ≡ 4 * n + e = omega arith in ap (state seed) k);
  words_are = λ i j less below before. absurd (omega arith);
  count_is = subst (λ k. 0 ≡ kept_below seed n k) (sym none) refl;
}

module _ (seed n x : ℕ) (words : List ℕ) (rings : List (List Point)) (i j : ℕ) (less : i < j) (below : j < n) (size : length words ≡ edge_count n) (are : AreDemoRings seed n rings) where
  abbrev edge : ℕ
  edge = edge_at n i j

  drawn-here : (word count c : ℕ) → IsDemoTo seed n x words count edge → IsDrawn x (ring_of rings i) (ring_of rings j) word c →
      IsDrawnWord (is_forgotten seed n edge) (demo_ring seed i) (demo_ring seed j) word
  drawn-here word count c h d =
      subst (λ vs. IsDrawnWord (is_forgotten seed n edge) vs (demo_ring seed j) word) (are.each i (omega arith))
      (subst (λ ws. IsDrawnWord (is_forgotten seed n edge) (ring_of rings i) ws word) (are.each j below)
      (subst (λ y. IsDrawnWord (is_forgotten_after y) (ring_of rings i) (ring_of rings j) word) h.state_is d.word_is))

  drawn-words : (word count c : ℕ) → IsDemoTo seed n x words count edge → IsDrawn x (ring_of rings i) (ring_of rings j) word c → HaveDrawnWords seed n (slice_set words edge word) (suc edge)
  drawn-words word count c h d = λ k l order within before. elim (cases_lt (edge_at n k l) edge) [
    | inl earlier ↦
        (let other : edge_at n k l ≢ edge = omega arith in
        subst (IsDrawnWord (is_forgotten seed n (edge_at n k l)) (demo_ring seed k) (demo_ring seed l)) (sym (get_or-set_other words edge (edge_at n k l) word 0 other)) (h.words_are k l order within earlier))
    | inr later ↦
        (let same : edge_at n i j ≡ edge_at n k l = omega arith in
        let first : i ≡ k = edge_at-first n i j k l less below order within same in
        let second : j ≡ l = edge_at-second n i j k l less below order within same in
        let there : slice_index (slice_set words edge word) edge ≡ word = get_or-set_same words edge word 0 (omega (arith, edge_at-lt n i j less below, size)) in
        subst (λ b. IsDrawnWord (is_forgotten seed n (edge_at n k b)) (demo_ring seed k) (demo_ring seed b) (slice_index (slice_set words edge word) (edge_at n k b))) second
        (subst (λ a. IsDrawnWord (is_forgotten seed n (edge_at n a j)) (demo_ring seed a) (demo_ring seed j) (slice_index (slice_set words edge word) (edge_at n a j))) first
        (subst (IsDrawnWord (is_forgotten seed n edge) (demo_ring seed i) (demo_ring seed j)) (sym there) (drawn-here word count c h d))))
  ]

  pub IsDemoTo-more : (y word count c : ℕ) → IsDemoTo seed n x words count edge → IsDrawn x (ring_of rings i) (ring_of rings j) word c → y ≡ advance x →
      IsDemoTo seed n y (slice_set words edge word) (count + c) (edge_at n i (j + 1))
  IsDemoTo-more y word count c h d f =
      let next : suc edge ≡ edge_at n i (j + 1) = omega (arith, edge_at-next n i j less) in
      let k : suc (4 * n + edge) ≡ 4 * n + suc edge = omega arith in
      subst (IsDemoTo seed n y (slice_set words edge word) (count + c)) next (record {
        state_is = state-next seed (4 * n + edge) x y h.state_is f ∙ ap (state seed) k;
        words_are = drawn-words word count c h d;
        count_is = kept_below-next seed n edge count c x h.count_is h.state_is d.count_is;
      })
