-- The sets of the pairs beside the words of a network: what is replaced in one is put into the other.
use Rattle.std.proofs.Common.{◌≡◌, ℕ, ◌*◌, ◌<◌, ◌≤◌, Bool, true, false, List, length, get_or, set, refl, sym, ◌∙◌, ap, subst, arith, inl, inr}
use Rattle.std.specs.Prelude.{slice_index, slice_set}
use Rattle.std.proofs.lemmas.List.{get_or-set_same, get_or-set_other, set-set}
use Rattle.calculus_table.specs.Rel.{IsWithin}
use Rattle.calculus_table.specs.Algebra.{Algebra}
use Rattle.calculus_table.specs.Composition.{converse}
use Rattle.calculus_table.proofs.Sets.{IsWithin-refl, IsWithin-trans}
use Rattle.calculus_table.proofs.Compositions.{converse-mono}
use Rattle.network_words.specs.Edge.{edge_count, edge_at, edge_between, IsProperPair, IsSamePair}
use Rattle.network_words.specs.Network.{relation_between}
use Rattle.network_words.proofs.Edges.{edge_at-lt, edge_between-forward}
use Rattle.network_words.proofs.Networks.{relation_between-forward, relation_between-backward}
use Rattle.network_words.proofs.Pairs.{pair-ordered, pair-first, pair-second, pair-outer, pair-from_edge}
use Rattle.network_words.proofs.Refinements.{relation_between-same}
use Rattle.edge_propagation.specs.Worklist.{Worklist, IsSized, IsQuiet, edge_place, set_of, with_pair}
use Rattle.edge_propagation.specs.declared.span.Span.{Span}
use Rattle.edge_propagation.specs.Propagation.{AreConverses, IsInStep, IsStep, AreClosed, IsSettled}
use Rattle.closure_seq.specs.Paths.{IsInStepBut}
use Rattle.edge_propagation.proofs.Places.{same-cases, same-place, mark-kept, pair-from_place, edge_place-inside}
use Rattle.edge_propagation.proofs.Steps.{with_pair-first, with_pair-second, with_pair-other, refined}
use Rattle.edge_propagation.proofs.Settled.{popped, quiet-idle}

-- ---- the word of one edge replaced

module _ (m : Algebra) (n : ℕ) (words : List ℕ) (i j x : ℕ) (o : i < j) (b : j < n) (long : length words ≡ edge_count n) where
  inside : edge_at n i j < length words
  inside = omega (arith, long, edge_at-lt n i j o b)

  pub relation_between-set_first : relation_between m n (slice_set words (edge_at n i j) x) i j ≡ x
  relation_between-set_first = relation_between-forward m n (slice_set words (edge_at n i j) x) i j o ∙ get_or-set_same words (edge_at n i j) x 0 inside

  pub relation_between-set_second : relation_between m n (slice_set words (edge_at n i j) x) j i ≡ converse m x
  relation_between-set_second =
      relation_between-backward m n (slice_set words (edge_at n i j) x) j i (omega arith) ∙ ap (converse m) (get_or-set_same words (edge_at n i j) x 0 inside)

  pub relation_between-set_other : (a c : ℕ) → IsProperPair n a c → ¬ IsSamePair a c i j → relation_between m n (slice_set words (edge_at n i j) x) a c ≡ relation_between m n words a c
  relation_between-set_other a c q ne =
      relation_between-same m n (slice_set words (edge_at n i j) x) words a c
      (get_or-set_other words (edge_at n i j) (edge_between n a c) x 0
      (λ e. ne (pair-from_edge n a c i j q (pair-ordered n i j o b) (e ∙ sym (edge_between-forward n i j o)))))

-- ---- sets in step with the words

-- the sets of one pair put, and its word replaced
pub IsInStep-put : (m : Algebra) (n : ℕ) (words : List ℕ) (work : Worklist) (queued : List Bool) (i j x : ℕ) → IsSized work → i < j → j < n → length words ≡ edge_count n → IsInStep m n words work →
    IsInStep m n (slice_set words (edge_at n i j) x) (record work { sets = with_pair work.sets i j x (converse m x); queued = queued })
IsInStep-put m n words work queued i j x z o b long s =
    let at = s.nodes in
    let few : n ≤ 256 = omega (arith, z.bounded) in
    let size : length work.sets ≡ 256 * n = omega (arith, z.sets_length) in
    let p = pair-ordered n i j o b in
    record {
      nodes = at;
      sets = λ a c q. elim (same-cases n a c i j few q p) [
        | inl same ↦ elim same [
          | inl e ↦ rw (e.0, e.1) (with_pair-first work.sets n i j x (converse m x) few size p ∙ sym (relation_between-set_first m n words i j x o b long))
          | inr e ↦ rw (e.0, e.1) (with_pair-second work.sets n i j x (converse m x) few size p ∙ sym (relation_between-set_second m n words i j x o b long))
        ]
        | inr ne ↦ with_pair-other work.sets n i j x (converse m x) few size p a c q ne ∙ s.sets a c q ∙ sym (relation_between-set_other m n words i j x o b long a c q ne)
      ];
    }

-- the same by the number of the edge
pub IsInStep-undone : (m : Algebra) (n : ℕ) (words : List ℕ) (work : Worklist) (i j x e : ℕ) → IsSized work → i < j → j < n → e ≡ edge_at n i j → length words ≡ edge_count n → IsInStep m n words work →
    IsInStep m n (slice_set words e x) (record work { sets = with_pair work.sets i j x (converse m x) })
IsInStep-undone m n words work i j x e z o b at long s = rw at (IsInStep-put m n words work work.queued i j x z o b long s)

pub IsInStep-quiet : (m : Algebra) (n : ℕ) (words : List ℕ) (work : Worklist) → IsInStepBut m n words work → IsQuiet work → IsInStep m n words work
IsInStep-quiet m n words work s quiet = record {
  nodes = s.nodes;
  sets = λ i j p. s.sets i j p (quiet-idle work quiet i j (subst (λ k. IsProperPair k i j) (sym s.nodes) p));
}

pub IsInStepBut-in_step : (m : Algebra) (n : ℕ) (words : List ℕ) (work : Worklist) → IsInStep m n words work → IsInStepBut m n words work
IsInStepBut-in_step m n words work s = record { nodes = s.nodes; sets = λ i j p _. s.sets i j p }

pub IsInStepBut-step : (m : Algebra) (n : ℕ) (words : List ℕ) (old new : Worklist) → IsInStepBut m n words old → IsStep m old new → IsInStepBut m n words new
IsInStepBut-step m n words old new s p = record {
  nodes = p.nodes ∙ s.nodes;
  sets = λ i j q quiet. p.same i j (subst (λ k. IsProperPair k i j) (sym s.nodes) q) quiet ∙ s.sets i j q (λ w. quiet (p.stays i j w));
}

-- an edge whose set was put is queued
pub IsInStepBut-refined : (m : Algebra) (n : ℕ) (words : List ℕ) (work : Worklist) (i j x : ℕ) → IsSized work → IsProperPair n i j → IsInStep m n words work → IsInStepBut m n words (refined m work i j x)
IsInStepBut-refined m n words work i j x z p s =
    let at = s.nodes in
    let few : n ≤ 256 = omega (arith, z.bounded) in
    let size : length work.sets ≡ 256 * n = omega (arith, z.sets_length) in
    let inside : edge_place i j < length work.queued = omega (arith, z.queued_length, edge_place-inside n i j few p) in
    record {
      nodes = at;
      sets = λ a c q quiet.
          with_pair-other work.sets n i j x (converse m x) few size p a c q
          (λ t. quiet (subst (λ e. get_or (set work.queued (edge_place i j) true) e false ≡ true) (sym (same-place a c i j p.differ t)) (get_or-set_same work.queued (edge_place i j) true false inside)))
          ∙ s.sets a c q;
    }

-- an edge taken off the queue, whose word became its set
pub IsInStepBut-stored : (m : Algebra) (n : ℕ) (words : List ℕ) (work : Worklist) (i j : ℕ) → IsSized work → AreConverses m work → i < j → j < n → length words ≡ edge_count n → IsInStepBut m n words work →
    IsInStepBut m n (slice_set words (edge_at n i j) (set_of work i j)) (popped work i j)
IsInStepBut-stored m n words work i j z v o b long s =
    let at = s.nodes in
    let few : n ≤ 256 = omega (arith, z.bounded) in
    let p = pair-ordered n i j o b in
    let x = set_of work i j in
    record {
      nodes = at;
      sets = λ a c q quiet. elim (same-cases n a c i j few q p) [
        | inl same ↦ elim same [
          | inl e ↦ rw (e.0, e.1) (sym (relation_between-set_first m n words i j x o b long))
          | inr e ↦ rw (e.0, e.1) (v.converse i j (subst (λ k. IsProperPair k i j) (sym at) p) ∙ sym (relation_between-set_second m n words i j x o b long))
        ]
        | inr ne ↦ s.sets a c q (λ w. quiet (mark-kept work.queued (edge_place i j) (edge_place a c) false w (inl (λ e. ne (pair-from_place n a c i j few q p e)))))
            ∙ sym (relation_between-set_other m n words i j x o b long a c q ne)
      ];
    }

-- an edge taken off the queue and queued again
pub IsInStepBut-again : (m : Algebra) (n : ℕ) (words : List ℕ) (work : Worklist) (e : ℕ) → IsInStepBut m n words work → IsInStepBut m n words (record work { queued = slice_set (slice_set work.queued e false) e true })
IsInStepBut-again m n words work e s = record {
  nodes = s.nodes;
  sets = λ i j p quiet. s.sets i j p (λ w.
      quiet (subst (λ q. get_or q (edge_place i j) false ≡ true) (sym (set-set work.queued e false true)) (mark-kept work.queued e (edge_place i j) true w (inr refl))));
}

-- an edge taken off the queue, whose sets became its word
pub IsInStepBut-reset : (m : Algebra) (n : ℕ) (words : List ℕ) (work : Worklist) (i j x : ℕ) → IsSized work → i < j → j < n → x ≡ slice_index words (edge_at n i j) → IsInStepBut m n words work →
    IsInStepBut m n words (record (popped work i j) { sets = with_pair work.sets i j x (converse m x) })
IsInStepBut-reset m n words work i j x z o b e s =
    let at = s.nodes in
    let few : n ≤ 256 = omega (arith, z.bounded) in
    let size : length work.sets ≡ 256 * n = omega (arith, z.sets_length) in
    let p = pair-ordered n i j o b in
    record {
      nodes = at;
      sets = λ a c q quiet. elim (same-cases n a c i j few q p) [
        | inl same ↦ elim same [
          | inl t ↦ rw (t.0, t.1) (with_pair-first work.sets n i j x (converse m x) few size p ∙ e ∙ sym (relation_between-forward m n words i j o))
          | inr t ↦ rw (t.0, t.1) (with_pair-second work.sets n i j x (converse m x) few size p ∙ ap (converse m) e ∙ sym (relation_between-backward m n words j i (omega arith)))
        ]
        | inr ne ↦ with_pair-other work.sets n i j x (converse m x) few size p a c q ne
            ∙ s.sets a c q (λ w. quiet (mark-kept work.queued (edge_place i j) (edge_place a c) false w (inl (λ d. ne (pair-from_place n a c i j few q p d)))))
      ];
    }

-- ---- one set of a closed network made smaller

-- where its edge is queued, each triple is settled
pub IsSettled-refined : (m : Algebra) (work : Worklist) (i j x : ℕ) → AreConverses m work → IsSized work → IsProperPair work.nodes i j → IsWithin x (set_of work i j) → AreClosed m work → (rows : Span) → IsSettled m rows (refined m work i j x)
IsSettled-refined m work i j x v z p w closed rows = λ a b c t _ quiet quiet'.
    let n = work.nodes in
    let queued = λ (d e : ℕ) (same : IsSamePair d e i j).
    let inside : edge_place i j < length work.queued = omega (arith, z.queued_length, edge_place-inside n i j z.bounded p) in
    subst (λ at. get_or (set work.queued (edge_place i j) true) at false ≡ true) (sym (same-place d e i j p.differ same)) (get_or-set_same work.queued (edge_place i j) true false inside) in
    let smaller : IsWithin (set_of (refined m work i j x) a c) (set_of work a c) = within a c (pair-outer n a b c t) in
    rw (
      with_pair-other work.sets n i j x (converse m x) z.bounded z.sets_length p a b (pair-first n a b c t) (λ s. quiet (queued a b s)),
      with_pair-other work.sets n i j x (converse m x) z.bounded z.sets_length p b c (pair-second n a b c t) (λ s. quiet' (queued b c s)),
    ) (IsWithin-trans _ _ _ smaller (closed a b c t))
  where
    within : (a c : ℕ) → IsProperPair work.nodes a c → IsWithin (set_of (refined m work i j x) a c) (set_of work a c)
    within a c q = elim (same-cases work.nodes a c i j z.bounded q p) [
      | inl same ↦ elim same [
        | inl e ↦ rw (e.0, e.1, with_pair-first work.sets work.nodes i j x (converse m x) z.bounded z.sets_length p) w
        | inr e ↦ rw (e.0, e.1, with_pair-second work.sets work.nodes i j x (converse m x) z.bounded z.sets_length p, v.converse i j p) (converse-mono m x _ w)
      ]
      | inr ne ↦ rw (with_pair-other work.sets work.nodes i j x (converse m x) z.bounded z.sets_length p a c q ne) (IsWithin-refl _)
    ]
