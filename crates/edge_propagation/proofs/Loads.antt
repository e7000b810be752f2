-- The sets of a network's pairs loaded, and stored again.
use Rattle.std.proofs.Common.{◌≡◌, ◌≢◌, ℕ, ◌+◌, ◌*◌, ◌<◌, ◌≤◌, List, length, sym, ◌∙◌, ap, subst, arith, inl, inr}
use Rattle.std.specs.Prelude.{slice_index, slice_set}
use Rattle.std.proofs.lemmas.Bool.{cases_lt, cases_eq}
use Rattle.std.proofs.lemmas.List.{length-set, get_or-set_same, get_or-set_other}
use Rattle.calculus_table.specs.Algebra.{Algebra}
use Rattle.calculus_table.specs.Composition.{converse}
use Rattle.calculus_table.specs.Calculus.{IsCalculus}
use Rattle.network_words.specs.Edge.{edge_count, edge_at, IsProperPair, IsProperTriple, IsSamePair}
use Rattle.network_words.specs.Closure.{IsClosed}
use Rattle.network_words.specs.Network.{Network, IsNetwork, relation_between}
use Rattle.network_words.proofs.Edges.{edge_at-lt, edge_at-first, edge_at-second}
use Rattle.network_words.proofs.Networks.{relation_between-forward, relation_between-backward, relation_between-within, relation_between-converse}
use Rattle.network_words.proofs.Pairs.{pair-ordered, pair-swap, pair-first, pair-second, pair-outer}
use Rattle.edge_propagation.specs.Worklist.{Worklist, IsSized, set_of, with_pair}
use Rattle.edge_propagation.specs.Propagation.{AreConverses, IsInStep, AreClosed, IsPairLoaded, IsLoaded, IsStored}
use Rattle.edge_propagation.proofs.Steps.{with_pair-first, with_pair-second, with_pair-other}

-- ---- loading

-- the rows before i, and of row i the pairs with nodes below j
pub record IsRowLoaded (m : Algebra) (n : ℕ) (words : List ℕ) (work : Worklist) (i j : ℕ) : Type 0 where
  pub nodes : work.nodes ≡ n
  pub before : IsLoaded m n words work i
  pub row : (q : ℕ) → i < q → q < j → IsPairLoaded m n words work i q

pub IsRowLoaded-pair : (m : Algebra) (n : ℕ) (words : List ℕ) (work : Worklist) (i j x y : ℕ) → IsSized work → i < j → j < n → x ≡ relation_between m n words i j → y ≡ relation_between m n words j i →
    IsRowLoaded m n words work i j → IsRowLoaded m n words (record work { sets = with_pair work.sets i j x y }) i (j + 1)
IsRowLoaded-pair m n words work i j x y z o b xe ye p =
    let at = p.nodes in
    let few : n ≤ 256 = omega (arith, z.bounded) in
    let long : length work.sets ≡ 256 * n = omega (arith, z.sets_length) in
    let pair = pair-ordered n i j o b in
    let kept = λ (a c : ℕ) (ac : a < c) (cb : c < n) (other : ¬ IsSamePair a c i j) (l : IsPairLoaded m n words work a c).
    let q = pair-ordered n a c ac cb in
    let e1 = with_pair-other work.sets n i j x y few long pair a c q other ∙ l.0 in
    let e2 = with_pair-other work.sets n i j x y few long pair c a (pair-swap n a c q) (λ s. other (swapped a c s)) ∙ l.1 in
    let both : IsPairLoaded m n words (record work { sets = with_pair work.sets i j x y }) a c = (e1, e2) in both in
    record {
      nodes = at;
      before = λ a c ab ac cb. kept a c ac cb (apart i j o a c ab ac) (p.before a c ab ac cb);
      row = λ q l h. elim (cases_eq q j) [
        | inl same ↦ rw same (with_pair-first work.sets n i j x y few long pair ∙ xe, with_pair-second work.sets n i j x y few long pair ∙ ye)
        | inr ne ↦ kept i q l (omega arith) (different i j o q ne) (p.row q l (omega arith))
      ];
    }
  where
    swapped : {i j : ℕ} (a c : ℕ) → IsSamePair c a i j → IsSamePair a c i j
    swapped a c (inl s) = inr (s.1, s.0)
    swapped a c (inr s) = inl (s.1, s.0)

    apart : (i j : ℕ) → i < j → (a c : ℕ) → a < i → a < c → ¬ IsSamePair a c i j
    apart i j o a c ai ac (inl s) = omega (arith, s.0)
    apart i j o a c ai ac (inr s) = omega (arith, s.0)

    different : (i j : ℕ) → i < j → (q : ℕ) → q ≢ j → ¬ IsSamePair i q i j
    different i j o q ne (inl s) = ne s.1
    different i j o q ne (inr s) = omega (arith, s.0)

pub IsLoaded-row : (m : Algebra) (n : ℕ) (words : List ℕ) (work : Worklist) (i : ℕ) → IsRowLoaded m n words work i n → IsLoaded m n words work (i + 1)
IsLoaded-row m n words work i p = λ a c ab ac cb. elim (cases_eq a i) [
  | inl same ↦ rw same (p.row c (rw same at ac) cb)
  | inr ne ↦ p.before a c (omega arith) ac cb
]

-- a set written on the diagonal leaves the sets of pairs
pub IsLoaded-diagonal : (m : Algebra) (n : ℕ) (words : List ℕ) (work : Worklist) (i x : ℕ) → IsSized work → i < n → work.nodes ≡ n → IsLoaded m n words work i →
    IsRowLoaded m n words (record work { sets = slice_set work.sets (256 * i + i) x }) i (i + 1)
IsLoaded-diagonal m n words work i x z b at p =
    let few = z.bounded in
    record {
      nodes = at;
      before = λ a c ab ac cb.
          let l = p a c ab ac cb in (
            get_or-set_other work.sets (256 * i + i) (256 * a + c) x 0 (λ e. absurd (omega arith)) ∙ l.0,
            get_or-set_other work.sets (256 * i + i) (256 * c + a) x 0 (λ e. absurd (omega arith)) ∙ l.1,
          );
      row = λ q l h. absurd (omega arith);
    }

pub IsInStep-loaded : (m : Algebra) (n : ℕ) (words : List ℕ) (work : Worklist) → work.nodes ≡ n → IsLoaded m n words work n → IsInStep m n words work
IsInStep-loaded m n words work e p = record {
  nodes = e;
  sets = λ i j q. elim (cases_lt i j) [
    | inl o ↦ (p i j q.first_below o q.second_below).0
    | inr g ↦ (p j i q.second_below (omega (arith, q.differ)) q.first_below).1
  ];
}

pub AreConverses-in_step : (m : Algebra) (n : ℕ) (words : List ℕ) (work : Worklist) → IsCalculus m → IsNetwork m n words → IsInStep m n words work → AreConverses m work
AreConverses-in_step m n words work c net s =
    let pair = λ (i j : ℕ) (p : IsProperPair work.nodes i j). subst (λ k. IsProperPair k i j) s.nodes p in
    record {
      within = λ i j p. rw (s.sets i j (pair i j p)) (relation_between-within m n words i j c.table net);
      converse = λ i j p. s.sets j i (pair-swap n i j (pair i j p)) ∙ relation_between-converse m n words i j c net p.differ ∙ ap (converse m) (sym (s.sets i j (pair i j p)));
    }

-- those of a closed network are closed
pub AreClosed-in_step : (m : Algebra) (n : ℕ) (words : List ℕ) (work : Worklist) → IsInStep m n words work → IsClosed m n words → AreClosed m work
AreClosed-in_step m n words work s closed = λ i j k t'.
    let t : IsProperTriple n i j k = subst (λ x. IsProperTriple x i j k) s.nodes t' in
    rw (s.sets i k (pair-outer n i j k t), s.sets i j (pair-first n i j k t), s.sets j k (pair-second n i j k t)) (closed.each i j k t)

-- what is queued plays no part in the sets
pub IsInStep-queue : (m : Algebra) (n : ℕ) (words : List ℕ) (old new : Worklist) → new ≡ record old { queued = new.queued } → IsInStep m n words old → IsInStep m n words new
IsInStep-queue m n words old new e s = rw e (record { nodes = s.nodes; sets = s.sets })

-- ---- storing

pub rest-words : (a b new : Network) (words : List ℕ) → b ≡ record a { words = b.words } → new ≡ record b { words = words } → new ≡ record a { words = new.words }
rest-words a b new words p e = rw e (ap (λ (y : Network). let z : Network = record y { words = words } in z) p)

-- the rows before i, and of row i the edges to nodes below j
pub record IsRowStored (n : ℕ) (words : List ℕ) (work : Worklist) (i j : ℕ) : Type 0 where
  pub length_is : length words ≡ edge_count n
  pub before : IsStored n words work i
  pub row : (q : ℕ) → i < q → q < j → slice_index words (edge_at n i q) ≡ set_of work i q

pub IsRowStored-edge : (n : ℕ) (words : List ℕ) (work : Worklist) (i j x : ℕ) → i < j → j < n → x ≡ set_of work i j → IsRowStored n words work i j → IsRowStored n (slice_set words (edge_at n i j) x) work i (j + 1)
IsRowStored-edge n words work i j x o b e p =
    let inside : edge_at n i j < length words = omega (arith, p.length_is, edge_at-lt n i j o b) in
    record {
      length_is = length-set words (edge_at n i j) x ∙ p.length_is;
      before = λ a c ab ac cb. get_or-set_other words (edge_at n i j) (edge_at n a c) x 0 (λ s. let f = edge_at-first n a c i j ac cb o b s in absurd (omega arith)) ∙ p.before a c ab ac cb;
      row = λ q l h. elim (cases_eq q j) [
        | inl same ↦ rw same (get_or-set_same words (edge_at n i j) x 0 inside ∙ e)
        | inr ne ↦ get_or-set_other words (edge_at n i j) (edge_at n i q) x 0 (λ s. ne (edge_at-second n i q i j l (omega arith) o b s)) ∙ p.row q l (omega arith)
      ];
    }

pub IsStored-row : (n : ℕ) (words : List ℕ) (work : Worklist) (i : ℕ) → IsRowStored n words work i n → IsStored n words work (i + 1)
IsStored-row n words work i p = λ a c ab ac cb. elim (cases_eq a i) [
  | inl same ↦ rw same (p.row c (rw same at ac) cb)
  | inr ne ↦ p.before a c (omega arith) ac cb
]

pub IsInStep-stored : (m : Algebra) (n : ℕ) (words : List ℕ) (work : Worklist) → work.nodes ≡ n → AreConverses m work → IsStored n words work n → IsInStep m n words work
IsInStep-stored m n words work e s p = record {
  nodes = e;
  sets = λ i j q. elim (cases_lt i j) [
    | inl o ↦ sym (relation_between-forward m n words i j o ∙ p i j q.first_below o q.second_below)
    | inr g ↦
        (let o : j < i = omega (arith, q.differ) in
        sym (relation_between-backward m n words i j g ∙ ap (converse m) (p j i q.second_below o q.first_below) ∙ sym (s.converse j i (subst (λ k. IsProperPair k j i) (sym e) (pair-swap n i j q)))))
  ];
}
