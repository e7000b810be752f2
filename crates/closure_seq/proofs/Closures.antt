-- The closure of a network by what propagation leaves, and the start from a closed network.
use Rattle.std.proofs.Common.{◌≡◌, ℕ, ◌<◌, List, length, sym, ◌∙◌, ap, subst, arith, inl, inr}
use Rattle.std.specs.Prelude.{slice_index, bit_and}
use Rattle.std.proofs.lemmas.Bool.{cases_lt}
use Rattle.std.proofs.lemmas.List.{get_or_past}
use Rattle.calculus_table.specs.Rel.{IsWithin}
use Rattle.calculus_table.specs.Algebra.{Algebra}
use Rattle.calculus_table.specs.Composition.{composition, converse}
use Rattle.calculus_table.specs.Calculus.{IsCalculus}
use Rattle.calculus_table.proofs.Sets.{IsWithin-empty, empty-within, IsWithin-refl, IsWithin-antisym, IsWithin-meet}
use Rattle.calculus_table.proofs.Sets.{IsWithin-meet_r}
use Rattle.network_words.specs.Edge.{edge_count, edge_at, IsProperPair, IsProperTriple, EdgeOf}
use Rattle.network_words.specs.Network.{IsNetwork, Refines, relation_between}
use Rattle.network_words.specs.Closure.{IsClosed, IsClosure}
use Rattle.network_words.proofs.Edges.{edge_at-lt, edge_of}
use Rattle.network_words.proofs.Networks.{relation_between-forward, relation_between-backward, relation_between-mono}
use Rattle.network_words.proofs.Pairs.{pair-ordered, pair-first, pair-second, pair-outer}
use Rattle.network_words.proofs.Refinements.{IsNetwork-refines}
use Rattle.network_words.proofs.Scenarios.{converse-empty, relation_between-empty, closed-empty}
use Rattle.edge_propagation.specs.Worklist.{Worklist, set_of}
use Rattle.edge_propagation.specs.declared.span.Span.{Span}
use Rattle.edge_propagation.specs.Propagation.{IsInStep, IsInside, IsRefinement, HasEmpty, AreClosed, IsSettled, IsMet}
use Rattle.edge_propagation.specs.Propagation.{AreRowsMet}
use Rattle.edge_propagation.proofs.Loads.{IsInStep-stored}

-- ---- from a closed network

-- each triple of a closed network is settled, whatever is queued
pub IsSettled-closed : (m : Algebra) (rows : Span) (work : Worklist) → AreClosed m work → IsSettled m rows work
IsSettled-closed m rows work closed = λ i j k t _ _ _. closed i j k t

-- the sets of a network that lies within another one, met with those of the other
pub IsInStep-met : (m : Algebra) (n : ℕ) (larger words : List ℕ) (old new : Worklist) → IsInStep m n larger old →
    Refines words larger → IsMet m old new → AreRowsMet words old new old.nodes → IsInStep m n words new
IsInStep-met m n larger words old new s w met rows =
    IsInStep-stored m n words new (met.nodes ∙ s.nodes) met.sets (λ i j b o l.
    let at = edge_at n i j in
    let set : set_of old i j ≡ slice_index larger at =
    s.sets i j (pair-ordered n i j o l) ∙ relation_between-forward m n larger i j o in
    let less : set_of new i j ≡ bit_and (set_of old i j) (slice_index words at) =
    subst (λ k. set_of new i j ≡ bit_and (set_of old i j) (slice_index words (edge_at k i j))) s.nodes
    (rows.each i j (subst (λ k. i < k) (sym s.nodes) b) o (subst (λ k. j < k) (sym s.nodes) l)) in
    sym (rw (set) at less ∙ within-met (slice_index larger at) (slice_index words at) (w.each at)))
  where
    within-met : (a b : ℕ) → IsWithin b a → bit_and a b ≡ b
    within-met a b h = IsWithin-antisym (bit_and a b) b (IsWithin-meet_r a b) (IsWithin-meet b a b h (IsWithin-refl b))

-- ---- by what propagation leaves

-- a fact of each word from one of each pair
by_edge : (P : ℕ → ℕ → Type 0) (n : ℕ) (xs ys : List ℕ) → length xs ≡ edge_count n → ((y : ℕ) → P 0 y) →
    ((i j : ℕ) → i < j → j < n → P (slice_index xs (edge_at n i j)) (slice_index ys (edge_at n i j))) → (e : ℕ) → P (slice_index xs e) (slice_index ys e)
by_edge P n xs ys l none each e = elim (cases_lt e (edge_count n)) [
  | inl b ↦ (let f : EdgeOf n e = edge_of n e b in subst (λ d. P (slice_index xs d) (slice_index ys d)) f.number (each f.first f.second f.order f.below))
  | inr g ↦ subst (λ x. P x (slice_index ys e)) (sym (get_or_past xs e 0 (omega arith))) (none (slice_index ys e))
]

-- a network within another is inside the sets of its pairs
pub IsInside-refines : (m : Algebra) (n : ℕ) (words other : List ℕ) (work : Worklist) → IsInStep m n words work → Refines other words → IsInside m other work
IsInside-refines m n words other work s w = λ i j p'.
    let p : IsProperPair n i j = subst (λ k. IsProperPair k i j) s.nodes p' in
    rw (s.nodes, s.sets i j p) (relation_between-mono m n other words i j w)

-- and the other way round
pub Refines-inside : (m : Algebra) (n : ℕ) (words other : List ℕ) (work : Worklist) → IsInStep m n words work → length other ≡ edge_count n → IsInside m other work → Refines other words
Refines-inside m n words other work s l inside = record {
  each = by_edge IsWithin n other words l IsWithin-empty (λ i j o b.
      let p = pair-ordered n i j o b in
      let w : IsWithin (relation_between m n other i j) (relation_between m n words i j) =
      rw (← s.sets i j p, ← s.nodes) (inside i j (subst (λ k. IsProperPair k i j) (sym s.nodes) p)) in
      rw (relation_between-forward m n other i j o, relation_between-forward m n words i j o) at w);
}

-- where each set is empty the network is closed
pub IsClosed-empty : (m : Algebra) (n : ℕ) (words : List ℕ) → ((e : ℕ) → slice_index words e ≡ 0) → IsClosed m n words
IsClosed-empty m n words z = record {
  each = λ i j k t. subst (λ y. IsWithin y (composition m (relation_between m n words i j) (relation_between m n words j k))) (sym (all-empty i k)) (IsWithin-empty _);
}
  where
    all-empty : (i k : ℕ) → relation_between m n words i k ≡ 0
    all-empty i k = elim (cases_lt i k) [
      | inl h ↦ relation_between-forward m n words i k h ∙ z (edge_at n i k)
      | inr h ↦ relation_between-backward m n words i k h ∙ ap (converse m) (z (edge_at n k i)) ∙ converse-empty m
    ]

-- and it is its own closure
pub IsClosure-empty : (m : Algebra) (n : ℕ) (words closure : List ℕ) → ((e : ℕ) → slice_index words e ≡ 0) → length closure ≡ length words → ((e : ℕ) → slice_index closure e ≡ 0) → IsClosure m n words closure
IsClosure-empty m n words closure none l z =
    let within = λ (e x : ℕ). subst (λ y. IsWithin y x) (sym (z e)) (IsWithin-empty x) in
    record {
      length_is = l;
      closed = IsClosed-empty m n closure z;
      within = record { each = λ e. within e (slice_index words e) };
      greatest = λ other l' closed w. record {
        each = λ e. subst (λ y. IsWithin y (slice_index closure e)) (sym (empty-within (slice_index other e) (subst (IsWithin (slice_index other e)) (none e) (w.each e)))) (IsWithin-empty _);
      };
    }

module _ (m : Algebra) (n : ℕ) (words closure : List ℕ) (a b : Worklist) (net : IsNetwork m n words) (start : IsInStep m n words a) (r : IsRefinement m a b) where
  -- what closed networks within become
  kept : (other : List ℕ) → length other ≡ length words → IsClosed m n other → Refines other words → IsInside m other b
  kept other l closed w =
      let other-net : IsNetwork m n other = IsNetwork-refines m n other words net l w in
      r.kept other (subst (λ k. IsNetwork m k other) (sym start.nodes) other-net) (subst (λ k. IsClosed m k other) (sym start.nodes) closed) (IsInside-refines m n words other a start w)

  -- the sets, closed and stored
  pub IsClosure-stored : AreClosed m b → IsInStep m n closure b → length closure ≡ length words → IsClosure m n words closure
  IsClosure-stored closed stored l = record {
    length_is = l;
    closed = record {
      each = λ i j k t. rw (← stored.sets i k (pair-outer n i j k t), ← stored.sets i j (pair-first n i j k t), ← stored.sets j k (pair-second n i j k t))
          (closed i j k (subst (λ x. IsProperTriple x i j k) (sym stored.nodes) t));
    };
    within = Refines-inside m n words closure a start (l ∙ net.length_is) (λ i j p.
        let q : IsProperPair n i j = subst (λ k. IsProperPair k i j) start.nodes p in
        rw (start.nodes, ← stored.sets i j q) (r.within i j p));
    greatest = λ other l' closed' w. Refines-inside m n closure other b stored (l' ∙ net.length_is) (kept other l' closed' w);
  }

  -- where a set is empty, all are in the closure
  pub IsClosure-emptied : IsCalculus m → HasEmpty b → length closure ≡ length words → ((e : ℕ) → slice_index closure e ≡ 0) → IsClosure m n words closure
  IsClosure-emptied c empty l z =
      let none = λ (e x : ℕ). subst (λ y. IsWithin y x) (sym (z e)) (IsWithin-empty x) in
      record {
        length_is = l;
        closed = IsClosed-empty m n closure z;
        within = record { each = λ e. none e (slice_index words e) };
        greatest = λ other l' closed w. record {
          each = λ e.
              let other-net : IsNetwork m n other = IsNetwork-refines m n other words net l' w in
              let p : IsProperPair n empty.first empty.second = subst (λ k. IsProperPair k empty.first empty.second) (r.nodes ∙ start.nodes) empty.proper in
              let inside = kept other l' closed w empty.first empty.second empty.proper in
              let at : relation_between m n other empty.first empty.second ≡ 0 = empty-within _ (rw (empty.empty, r.nodes ∙ start.nodes) at inside) in
              subst (λ y. IsWithin y (slice_index closure e)) (sym (gone other empty.first empty.second c other-net closed p at e)) (IsWithin-empty _);
        };
      }
    where
      gone : (other : List ℕ) (i k : ℕ) → IsCalculus m → IsNetwork m n other → IsClosed m n other → IsProperPair n i k → relation_between m n other i k ≡ 0 → (e : ℕ) → slice_index other e ≡ 0
      gone other i k c other-net closed p at e = elim (cases_lt i k) [
        | inl o ↦ closed-empty m n (edge_at n i k) other c other-net closed (edge_at-lt n i k o p.second_below) (sym (relation_between-forward m n other i k o) ∙ at) e
        | inr g ↦
            (let o : k < i = omega (arith, p.differ) in
            closed-empty m n (edge_at n k i) other c other-net closed (edge_at-lt n k i o p.first_below)
            (sym (relation_between-forward m n other k i o) ∙ relation_between-empty m n other i k c other-net p.differ at) e)
      ]
