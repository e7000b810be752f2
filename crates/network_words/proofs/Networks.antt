-- Networks by their pairs: the set of a pair either way round, what narrowing it does, and when a network is closed.
use Rattle.std.proofs.Common.{◌≡◌, ◌≢◌, ℕ, ◌<◌, ◌≤◌, cond, List, length, get_or, set, refl, sym, ◌∙◌, ap, subst, arith, ◌⊎◌, inl, inr}
use Rattle.std.specs.Prelude.{bit_and, slice_index, slice_set}
use Rattle.std.proofs.lemmas.Bool.{cases_lt, cases_eq, lt-ltb, le-ltb}
use Rattle.std.proofs.lemmas.List.{length-set, get_or-set_same, get_or-set_other}
use Rattle.std.proofs.lemmas.Grind.{same_number_lists}
use Rattle.std.proofs.Math.ListN.{get_or-eq_default}
use Rattle.calculus_table.specs.Rel.{IsWithin}
use Rattle.calculus_table.specs.Algebra.{Algebra}
use Rattle.calculus_table.specs.Composition.{full_of, composition, converse}
use Rattle.calculus_table.specs.Calculus.{IsCalculus, IsTable}
use Rattle.calculus_table.proofs.Sets.{IsWithin-refl, IsWithin-trans, IsWithin-antisym, IsWithin-meet, IsWithin-meet_l, IsWithin-meet_r}
use Rattle.calculus_table.proofs.Compositions.{converse-mono, converse-within, converse-converse, converse-composition, composition-mono}
use Rattle.network_words.specs.Edge.{edge_at, IsProperPair, IsProperTriple}
use Rattle.network_words.specs.Network.{IsNetwork, Refines, relation_between, narrowed_at}
use Rattle.network_words.specs.Closure.{IsClosed, IsClosure}
use Rattle.network_words.proofs.Edges.{edge_at-lt}

-- ---- lists of sets within one another

pub Refines-refl : (xs : List ℕ) → Refines xs xs
Refines-refl xs = record { each = λ e. IsWithin-refl (slice_index xs e) }

pub Refines-trans : (xs ys zs : List ℕ) → Refines xs ys → Refines ys zs → Refines xs zs
Refines-trans xs ys zs p q = record { each = λ e. IsWithin-trans _ _ _ (p.each e) (q.each e) }

pub Refines-antisym : (xs ys : List ℕ) → length xs ≡ length ys → Refines xs ys → Refines ys xs → xs ≡ ys
Refines-antisym xs ys l p q = same_number_lists xs ys l (λ k b. IsWithin-antisym _ _ (p.each k) (q.each k))

-- ---- the set of a pair

pub relation_between-forward : (m : Algebra) (n : ℕ) (words : List ℕ) (i j : ℕ) → i < j → relation_between m n words i j ≡ slice_index words (edge_at n i j)
relation_between-forward m n words i j h = ap (λ b. cond b (slice_index words (edge_at n i j)) (converse m (slice_index words (edge_at n j i)))) (lt-ltb i j h)

pub relation_between-backward : (m : Algebra) (n : ℕ) (words : List ℕ) (i j : ℕ) → j ≤ i → relation_between m n words i j ≡ converse m (slice_index words (edge_at n j i))
relation_between-backward m n words i j h = ap (λ b. cond b (slice_index words (edge_at n i j)) (converse m (slice_index words (edge_at n j i)))) (le-ltb i j h)

pub relation_between-within : (m : Algebra) (n : ℕ) (words : List ℕ) (i j : ℕ) → IsTable m → IsNetwork m n words → IsWithin (relation_between m n words i j) (full_of m)
relation_between-within m n words i j k w = elim (cases_lt i j) [
  | inl h ↦ rw (relation_between-forward m n words i j h) (w.within (edge_at n i j))
  | inr h ↦ rw (relation_between-backward m n words i j h) (converse-within m _ k)
]

pub relation_between-mono : (m : Algebra) (n : ℕ) (xs ys : List ℕ) (i j : ℕ) → Refines xs ys → IsWithin (relation_between m n xs i j) (relation_between m n ys i j)
relation_between-mono m n xs ys i j w = elim (cases_lt i j) [
  | inl h ↦ rw (relation_between-forward m n xs i j h, relation_between-forward m n ys i j h) (w.each (edge_at n i j))
  | inr h ↦ rw (relation_between-backward m n xs i j h, relation_between-backward m n ys i j h) (converse-mono m _ _ (w.each (edge_at n j i)))
]

-- the set of the pair the other way round is the converse
pub relation_between-converse : (m : Algebra) (n : ℕ) (words : List ℕ) (i j : ℕ) → IsCalculus m → IsNetwork m n words → i ≢ j → relation_between m n words j i ≡ converse m (relation_between m n words i j)
relation_between-converse m n words i j k w d = elim (cases_lt i j) [
  | inl h ↦ rw (relation_between-forward m n words i j h, relation_between-backward m n words j i (omega arith)) refl
  | inr h ↦ (let o : j < i = omega arith in
      rw (relation_between-forward m n words j i o, relation_between-backward m n words i j h) (sym (converse-converse m _ k (w.within (edge_at n j i)))))
]

-- ---- one set met

met_word : List ℕ → ℕ → ℕ → List ℕ
met_word words e x = slice_set words e (bit_and (slice_index words e) x)

-- after a write each place has what it had, or is the place written
pub set-cases : (xs : List ℕ) (e a d : ℕ) → (slice_index (slice_set xs e a) d ≡ slice_index xs d) ⊎ ((d ≡ e) × (slice_index (slice_set xs e a) d ≡ a))
set-cases xs e a d = elim (cases_eq d e) [
  | inl same ↦ elim (cases_lt e (length xs)) [
    | inl b ↦ inr (same, subst (λ k. get_or (set xs e a) k 0 ≡ a) (sym same) (get_or-set_same xs e a 0 b))
    | inr p ↦ inl (get_or-eq_default (set xs e a) 0 (omega (arith, length-set xs e a)) ∙ sym (get_or-eq_default xs 0 (omega arith)))
  ]
  | inr differ ↦ inl (get_or-set_other xs e d a 0 differ)
]

met_word-within : (words : List ℕ) (e x : ℕ) → Refines (met_word words e x) words
unfolding met_word
met_word-within words e x = record {
  each = λ d. elim (set-cases words e (bit_and (slice_index words e) x) d) [
    | inl same ↦ rw same (IsWithin-refl _)
    | inr here ↦ rw (here.1, here.0) (IsWithin-meet_l (slice_index words e) x)
  ];
}

met_word-keeps : (xs words : List ℕ) (e x : ℕ) → Refines xs words → IsWithin (slice_index xs e) x → Refines xs (met_word words e x)
unfolding met_word
met_word-keeps xs words e x w h = record {
  each = λ d. elim (set-cases words e (bit_and (slice_index words e) x) d) [
    | inl same ↦ rw same (w.each d)
    | inr here ↦ rw (here.1, here.0) (IsWithin-meet _ _ _ (w.each e) h)
  ];
}

narrowed_at-forward : (m : Algebra) (n : ℕ) (words : List ℕ) (i j x : ℕ) → i < j → narrowed_at m n words i j x ≡ met_word words (edge_at n i j) x
unfolding met_word
narrowed_at-forward m n words i j x h = ap (λ b. cond b (met_word words (edge_at n i j) x) (met_word words (edge_at n j i) (converse m x))) (lt-ltb i j h)

narrowed_at-backward : (m : Algebra) (n : ℕ) (words : List ℕ) (i j x : ℕ) → j ≤ i → narrowed_at m n words i j x ≡ met_word words (edge_at n j i) (converse m x)
unfolding met_word
narrowed_at-backward m n words i j x h = ap (λ b. cond b (met_word words (edge_at n i j) x) (met_word words (edge_at n j i) (converse m x))) (le-ltb i j h)

pub length-narrowed_at : (m : Algebra) (n : ℕ) (words : List ℕ) (i j x : ℕ) → length (narrowed_at m n words i j x) ≡ length words
unfolding met_word
length-narrowed_at m n words i j x = elim (cases_lt i j) [
  | inl h ↦ rw (narrowed_at-forward m n words i j x h) (length-set words (edge_at n i j) (bit_and (slice_index words (edge_at n i j)) x))
  | inr h ↦ rw (narrowed_at-backward m n words i j x h) (length-set words (edge_at n j i) (bit_and (slice_index words (edge_at n j i)) (converse m x)))
]

-- meeting a set makes no set greater
pub narrowed_at-within : (m : Algebra) (n : ℕ) (words : List ℕ) (i j x : ℕ) → Refines (narrowed_at m n words i j x) words
narrowed_at-within m n words i j x = elim (cases_lt i j) [
  | inl h ↦ rw (narrowed_at-forward m n words i j x h) (met_word-within words (edge_at n i j) x)
  | inr h ↦ rw (narrowed_at-backward m n words i j x h) (met_word-within words (edge_at n j i) (converse m x))
]

-- a network within the words whose set of the pair is within x stays within
pub narrowed_at-keeps : (m : Algebra) (n : ℕ) (xs words : List ℕ) (i j x : ℕ) → IsCalculus m → IsNetwork m n xs → Refines xs words → IsWithin (relation_between m n xs i j) x → Refines xs (narrowed_at m n words i j x)
narrowed_at-keeps m n xs words i j x k net w h = elim (cases_lt i j) [
  | inl o ↦ rw (narrowed_at-forward m n words i j x o)
      (met_word-keeps xs words (edge_at n i j) x w (rw (relation_between-forward m n xs i j o) at h))
  | inr o ↦ rw (narrowed_at-backward m n words i j x o)
      (met_word-keeps xs words (edge_at n j i) (converse m x) w
      (subst (λ y. IsWithin y (converse m x)) (converse-converse m (slice_index xs (edge_at n j i)) k (net.within (edge_at n j i)))
      (converse-mono m _ _ (rw (relation_between-backward m n xs i j o) at h))))
]

-- the converse of what two sets of base relations share
pub converse-meet : (m : Algebra) (a b : ℕ) → IsCalculus m → IsWithin a (full_of m) → IsWithin b (full_of m) → converse m (bit_and a b) ≡ bit_and (converse m a) (converse m b)
converse-meet m a b k p q = IsWithin-antisym _ _
    (IsWithin-meet _ _ _ (converse-mono m _ _ (IsWithin-meet_l a b)) (converse-mono m _ _ (IsWithin-meet_r a b)))
    (let y = bit_and (converse m a) (converse m b) in
    let full : IsWithin y (full_of m) = IsWithin-trans _ _ _ (IsWithin-meet_l (converse m a) (converse m b)) (converse-within m a k.table) in
    let left : IsWithin (converse m y) a = subst (IsWithin (converse m y)) (converse-converse m a k p) (converse-mono m _ _ (IsWithin-meet_l (converse m a) (converse m b))) in
    let right : IsWithin (converse m y) b = subst (IsWithin (converse m y)) (converse-converse m b k q) (converse-mono m _ _ (IsWithin-meet_r (converse m a) (converse m b))) in
    subst (λ z. IsWithin z (converse m (bit_and a b))) (converse-converse m y k full) (converse-mono m _ _ (IsWithin-meet _ _ _ left right)))

met_word-index : (words : List ℕ) (e x : ℕ) → e < length words → slice_index (met_word words e x) e ≡ bit_and (slice_index words e) x
unfolding met_word
met_word-index words e x b = get_or-set_same words e (bit_and (slice_index words e) x) 0 b

-- the set of the pair that was met
pub relation_between-narrowed_at : (m : Algebra) (n : ℕ) (words : List ℕ) (i j x : ℕ) → IsCalculus m → IsNetwork m n words → IsProperPair n i j → IsWithin x (full_of m) →
    relation_between m n (narrowed_at m n words i j x) i j ≡ bit_and (relation_between m n words i j) x
relation_between-narrowed_at m n words i j x k net p f = elim (cases_lt i j) [
  | inl o ↦ (let b : edge_at n i j < length words = omega (arith, net.length_is, edge_at-lt n i j o p.second_below) in
      rw (narrowed_at-forward m n words i j x o) (rw (relation_between-forward m n (met_word words (edge_at n i j) x) i j o, relation_between-forward m n words i j o) (met_word-index words (edge_at n i j) x b)))
  | inr o ↦ (let d : i ≢ j = p.differ in
      let o' : j < i = omega arith in
      let b : edge_at n j i < length words = omega (arith, net.length_is, edge_at-lt n j i o' p.first_below) in
      rw (narrowed_at-backward m n words i j x o) (rw (relation_between-backward m n (met_word words (edge_at n j i) (converse m x)) i j o, relation_between-backward m n words i j o)
      (ap (converse m) (met_word-index words (edge_at n j i) (converse m x) b)
      ∙ converse-meet m (slice_index words (edge_at n j i)) (converse m x) k (net.within (edge_at n j i)) (converse-within m x k.table)
      ∙ ap (bit_and (converse m (slice_index words (edge_at n j i)))) (converse-converse m x k f))))
]

-- ---- closed networks

-- it is enough to look at the triples with i < k
pub IsClosed-ordered : (m : Algebra) (n : ℕ) (words : List ℕ) → IsCalculus m → IsNetwork m n words →
    ((i j k : ℕ) → IsProperTriple n i j k → i < k → IsWithin (relation_between m n words i k) (composition m (relation_between m n words i j) (relation_between m n words j k))) →
    IsClosed m n words
IsClosed-ordered m n words c net h = record {
  each = λ i j k p. elim (cases_lt i k) [
    | inl o ↦ h i j k p o
    | inr o ↦ (let d : i ≢ k = p.first_third in
        let ij : i ≢ j = p.first_second in
        let jk : j ≢ k = p.second_third in
        let o' : k < i = omega arith in
        let p' : IsProperTriple n k j i = record { first_below = p.third_below; second_below = p.second_below; third_below = p.first_below; first_second = λ e. jk (sym e); second_third = λ e. ij (sym e); first_third = λ e. d (sym e) } in
        rw (relation_between-converse m n words k i c net (λ e. d (sym e)), relation_between-converse m n words j i c net (λ e. ij (sym e)), relation_between-converse m n words k j c net (λ e. jk (sym e)))
        (subst (IsWithin (converse m (relation_between m n words k i))) (converse-composition m (relation_between m n words k j) (relation_between m n words j i) c)
        (converse-mono m _ _ (h k j i p' o'))))
  ];
}

-- the composition along a third node, of sets that a closed network is within, keeps that network
pub narrow-keeps : (m : Algebra) (n : ℕ) (xs words seen : List ℕ) (i j k : ℕ) → IsCalculus m → IsNetwork m n xs → IsClosed m n xs → IsProperTriple n i j k → Refines xs words → Refines xs seen →
    Refines xs (narrowed_at m n words i k (composition m (relation_between m n seen i j) (relation_between m n seen j k)))
narrow-keeps m n xs words seen i j k c net closed p w s =
    narrowed_at-keeps m n xs words i k (composition m (relation_between m n seen i j) (relation_between m n seen j k)) c net w
    (IsWithin-trans _ _ _ (closed.each i j k p) (composition-mono m _ _ _ _ c.table (relation_between-mono m n xs seen i j s) (relation_between-mono m n xs seen j k s)))

-- ---- closures

-- there is one closure at most
pub IsClosure-unique : (m : Algebra) (n : ℕ) (words c d : List ℕ) → IsClosure m n words c → IsClosure m n words d → c ≡ d
IsClosure-unique m n words c d p q =
    Refines-antisym c d (p.length_is ∙ sym q.length_is) (q.greatest c p.length_is p.closed p.within) (p.greatest d q.length_is q.closed q.within)

-- a network between the closure of words and words has the same closure
pub IsClosure-between : (m : Algebra) (n : ℕ) (words between closure : List ℕ) → IsClosure m n words closure → length between ≡ length words → Refines closure between → Refines between words → IsClosure m n between closure
IsClosure-between m n words between closure p l low high = record {
  length_is = p.length_is ∙ sym l;
  closed = p.closed;
  within = low;
  greatest = λ other e closed w. p.greatest other (e ∙ l) closed (Refines-trans other between words w high);
}

-- and the other way: the closure of a network that loses no closed network is that of the words
pub IsClosure-from : (m : Algebra) (n : ℕ) (words between closure : List ℕ) → IsClosure m n between closure → length between ≡ length words → Refines between words →
    ((other : List ℕ) → length other ≡ length words → IsClosed m n other → Refines other words → Refines other between) → IsClosure m n words closure
IsClosure-from m n words between closure p l high kept = record {
  length_is = p.length_is ∙ l;
  closed = p.closed;
  within = Refines-trans closure between words p.within high;
  greatest = λ other e closed w. p.greatest other (e ∙ sym l) closed (kept other e closed w);
}
