-- The net of facts, one fact after another, and that there is one net at most.
use Rattle.std.proofs.Common.{◌≡◌, ◌≢◌, ℕ, ◌+◌, ◌<◌, ◌≤◌, Bool, true, false, cond, ◌&&◌, not, List, [], ◌∷◌, ◌++◌, length, drop, get_or, replicate, Some, None, refl, sym, ◌∙◌, ap, subst, arith, inl, inr, ◌↔◌, append_assoc, append-nil}
use Rattle.std.specs.Prelude.{bit_and, slice_index, slice_set, All, nat_lt, ◌==◌}
use Rattle.std.specs.List.{AllByRecursion}
use Rattle.std.proofs.lemmas.Bool.{cases_lt, cases_eq, lt-ltb, le-ltb, ltb-true, eqb-false}
use Rattle.std.proofs.lemmas.List.{length-replicate, get_or-replicate, get_or-set_same, get_or-set_other}
use Rattle.std.proofs.lemmas.List.Elements.{All-from_recursion, All-push, All-nil, All-cons, All-head, All-tail}
use Rattle.std.proofs.lemmas.Grind.{same_number_lists}
use Rattle.std.proofs.Math.ListN.{drop_of_length-le, get_or-eq_default}
use Rattle.calculus_table.specs.Rel.{Has, IsWithin}
use Rattle.calculus_table.specs.Algebra.{Algebra}
use Rattle.calculus_table.specs.Composition.{full_of, converse}
use Rattle.calculus_table.proofs.Sets.{Has-meet, Has-meet_l, Has-meet_r, IsWithin-antisym, IsWithin-empty}
use Rattle.calculus_table.proofs.Compositions.{Has-full, full-member}
use Rattle.network_words.specs.Edge.{edge_at, edge_count, IsProperPair}
use Rattle.network_words.specs.Network.{IsNetwork, narrowed_at}
use Rattle.network_words.specs.Facts.{Allows, IsNetworkOfFacts, narrowed_by}
use Rattle.network_words.specs.NetFault.{first_fault}
use Rattle.network_words.specs.declared.net.NetFault.TheVariants.{NoNode, SelfEdge}
use Rattle.network_words.specs.declared.fact.Fact.{Fact}
use Rattle.network_words.proofs.Edges.{EdgeOf, edge_of, edge_at-lt, edge_at-first, edge_at-second}
use Rattle.network_words.proofs.Networks.{length-narrowed_at}
use Rattle.network_words.proofs.Meets.{length-narrowed_by}

-- ---- one net at most

IsNetworkOfFacts-within : (m : Algebra) (n : ℕ) (facts : List Fact) (xs ys : List ℕ) → IsNetworkOfFacts m n facts xs → IsNetworkOfFacts m n facts ys → (e : ℕ) → EdgeOf n e → IsWithin (slice_index xs e) (slice_index ys e)
IsNetworkOfFacts-within m n facts xs ys p q e edge =
    let within : IsWithin (slice_index xs (edge_at n edge.first edge.second)) (slice_index ys (edge_at n edge.first edge.second)) =
    record { each = λ t h. (q.members edge.first edge.second t edge.order edge.below).1 ((p.members edge.first edge.second t edge.order edge.below).0 h) } in
    subst (λ d. IsWithin (slice_index xs d) (slice_index ys d)) edge.number within

-- the network of facts has sets of base relations of the calculus
pub IsNetwork-from_facts : (m : Algebra) (n : ℕ) (facts : List Fact) (words : List ℕ) → IsNetworkOfFacts m n facts words → IsNetwork m n words
IsNetwork-from_facts m n facts words net = record {
  length_is = net.length_is;
  within = λ e. elim (cases_lt e (edge_count n)) [
    | inl b ↦ (let at : EdgeOf n e = edge_of n e b in
        record { each = λ t h. Has-full m t ((net.members at.first at.second t at.order at.below).0 (subst (λ k. Has (slice_index words k) t) (sym at.number) h)).0 })
    | inr p ↦ (let none : slice_index words e ≡ 0 = get_or-eq_default words 0 (omega (arith, net.length_is)) in
        subst (λ x. IsWithin x (full_of m)) (sym none) (IsWithin-empty (full_of m)))
  ];
}

-- two lists of sets that are the net of the same facts are equal
pub IsNetworkOfFacts-unique : (m : Algebra) (n : ℕ) (facts : List Fact) (xs ys : List ℕ) → IsNetworkOfFacts m n facts xs → IsNetworkOfFacts m n facts ys → xs ≡ ys
IsNetworkOfFacts-unique m n facts xs ys p q =
    same_number_lists xs ys (p.length_is ∙ sym q.length_is) (λ e b.
    let edge : EdgeOf n e = edge_of n e (omega (arith, p.length_is)) in
    IsWithin-antisym _ _ (IsNetworkOfFacts-within m n facts xs ys p q e edge) (IsNetworkOfFacts-within m n facts ys xs q p e edge))

-- ---- the net of facts, fact by fact

-- with no facts each set is full
pub IsNetworkOfFacts-none : (m : Algebra) (n : ℕ) → IsNetworkOfFacts m n [] (replicate (edge_count n) (full_of m))
IsNetworkOfFacts-none m n = record {
  length_is = length-replicate (edge_count n) (full_of m);
  members = λ i j t o b.
      let e : slice_index (replicate (edge_count n) (full_of m)) (edge_at n i j) ≡ full_of m = get_or-replicate (edge_count n) (edge_at n i j) (full_of m) 0 (edge_at-lt n i j o b) in
      (λ h. (full-member m t (rw e at h), All-nil (Allows m i j t)), λ h. rw e (Has-full m t h.0));
}

-- a set with another met there
met-same : (words : List ℕ) (e y : ℕ) → e < length words → slice_index (slice_set words e (bit_and (slice_index words e) y)) e ≡ bit_and (slice_index words e) y
met-same words e y b = get_or-set_same words e (bit_and (slice_index words e) y) 0 b

met-other : (words : List ℕ) (e y d : ℕ) → d ≢ e → slice_index (slice_set words e (bit_and (slice_index words e) y)) d ≡ slice_index words d
met-other words e y d differ = get_or-set_other words e d (bit_and (slice_index words e) y) 0 differ

-- y says of the edge from p to q what the fact allows there, and the fact says nothing of other edges
record Speaks (m : Algebra) (n p q y a b t : ℕ) (f : Fact) : Type 0 where
  pub here : p ≡ a → q ≡ b → Has y t → Allows m a b t f
  pub back : p ≡ a → q ≡ b → Allows m a b t f → Has y t
  pub other : (p ≡ a → q ≡ b → ⊥) → Allows m a b t f

met-members : (m : Algebra) (n : ℕ) (words : List ℕ) (p q y a b t : ℕ) (f : Fact) → length words ≡ edge_count n → p < q → q < n → a < b → b < n → Speaks m n p q y a b t f →
    Has (slice_index (slice_set words (edge_at n p q) (bit_and (slice_index words (edge_at n p q)) y)) (edge_at n a b)) t ↔ Has (slice_index words (edge_at n a b)) t × Allows m a b t f
met-members m n words p q y a b t f l o e o' e' s = elim (cases_eq (edge_at n a b) (edge_at n p q)) [
  | inl same ↦
      (let first : p ≡ a = edge_at-first n p q a b o e o' e' (sym same) in
      let second : q ≡ b = edge_at-second n p q a b o e o' e' (sym same) in
      let inside : edge_at n p q < length words = omega (arith, edge_at-lt n p q o e) in
      rw (same, met-same words (edge_at n p q) y inside)
      (λ h. (Has-meet_l _ y t h, s.here first second (Has-meet_r _ y t h)), λ h. Has-meet _ y t h.0 (s.back first second h.1)))
  | inr differ ↦
      rw (met-other words (edge_at n p q) y (edge_at n a b) differ)
      (λ h. (h, s.other (λ first second. differ (ap (λ x. edge_at n x b) (sym first) ∙ ap (edge_at n p) (sym second)))), λ h. h.0)
]

-- after a fact is met, the members are those that the fact allows too
pub narrowed_at-members : (m : Algebra) (n : ℕ) (words : List ℕ) (f : Fact) (a b t : ℕ) → length words ≡ edge_count n → IsProperPair n f.i f.j → a < b → b < n →
    Has (slice_index (narrowed_at m n words f.i f.j f.rel) (edge_at n a b)) t ↔ Has (slice_index words (edge_at n a b)) t × Allows m a b t f
narrowed_at-members m n words f a b t l p o e = elim (cases_lt f.i f.j) [
  | inl up ↦ rw (lt-ltb f.i f.j up) (met-members m n words f.i f.j f.rel a b t f l up p.second_below o e (record {
    here = λ first second h. record { forward = λ _ _. h; backward = λ x y. absurd (omega arith) };
    back = λ first second allows. allows.forward first second;
    other = λ elsewhere. record { forward = λ x y. absurd (elsewhere x y); backward = λ x y. absurd (omega arith) };
  }))
  | inr down ↦
      (let differ : f.i ≢ f.j = p.differ in
      let backward : f.j < f.i = omega arith in
      rw (le-ltb f.i f.j down) (met-members m n words f.j f.i (converse m f.rel) a b t f l backward p.first_below o e (record {
        here = λ first second h. record { forward = λ x y. absurd (omega arith); backward = λ _ _. h };
        back = λ first second allows. allows.backward second first;
        other = λ elsewhere. record { forward = λ x y. absurd (omega arith); backward = λ x y. absurd (elsewhere y x) };
      })))
]

-- a fact of two different nodes
pub record IsProperFact (n : ℕ) (f : Fact) : Type 0 where
  pub pair : IsProperPair n f.i f.j

pub narrowed_by-members : (m : Algebra) (n a b t : ℕ) (fs : List Fact) (words : List ℕ) → length words ≡ edge_count n → AllByRecursion (IsProperFact n) fs → a < b → b < n →
    Has (slice_index (narrowed_by m n words fs) (edge_at n a b)) t ↔ Has (slice_index words (edge_at n a b)) t × All (Allows m a b t) fs
narrowed_by-members m n a b t [] words l p o e = (λ h. (h, All-nil (Allows m a b t)), λ h. h.0)
narrowed_by-members m n a b t (f ∷ fs) words l p o e =
    let one = narrowed_at-members m n words f a b t l p.0.pair o e in
    let more = narrowed_by-members m n a b t fs (narrowed_at m n words f.i f.j f.rel) (length-narrowed_at m n words f.i f.j f.rel ∙ l) p.1 o e in (
      λ h. ((one.0 (more.0 h).0).0, All-cons (Allows m a b t) f fs (one.0 (more.0 h).0).1 (more.0 h).1),
      λ h. more.1 (one.1 (h.0, All-head (Allows m a b t) f fs h.1), All-tail (Allows m a b t) f fs h.1),
    )

-- the full sets met with all facts are the net of the facts
pub IsNetworkOfFacts-narrowed_by : (m : Algebra) (n : ℕ) (fs : List Fact) → AllByRecursion (IsProperFact n) fs → IsNetworkOfFacts m n fs (narrowed_by m n (replicate (edge_count n) (full_of m)) fs)
IsNetworkOfFacts-narrowed_by m n fs p =
    let start = IsNetworkOfFacts-none m n in
    record {
      length_is = length-narrowed_by m n (replicate (edge_count n) (full_of m)) fs ∙ start.length_is;
      members = λ i j t o e.
          let all = narrowed_by-members m n i j t fs (replicate (edge_count n) (full_of m)) start.length_is p o e in (
            λ h. (((start.members i j t o e).0 (all.0 h).0).0, (all.0 h).1),
            λ h. all.1 ((start.members i j t o e).1 (h.0, All-nil (Allows m i j t)), h.1),
          );
    }

-- one fact more after the others
pub narrowed_by-push : (m : Algebra) (n : ℕ) (words : List ℕ) (fs : List Fact) (f : Fact) → narrowed_by m n words (fs ++ f ∷ []) ≡ narrowed_at m n (narrowed_by m n words fs) f.i f.j f.rel
narrowed_by-push m n words [] f = refl
narrowed_by-push m n words (g ∷ fs) f = narrowed_by-push m n (narrowed_at m n words g.i g.j g.rel) fs f

-- when every fact was met
pub narrowed_by-end : (m : Algebra) (n n' k : ℕ) (words words' : List ℕ) (fs : List Fact) → length fs ≤ k → narrowed_by m n words (drop k fs) ≡ narrowed_by m n' words' fs → words ≡ narrowed_by m n' words' fs
narrowed_by-end m n n' k words words' fs h e = ap (narrowed_by m n words) (sym (drop_of_length-le fs h)) ∙ e

-- ---- facts without a fault

proper_by : (n at : ℕ) (f : Fact) (fs : List Fact) (a b c : Bool) → (a ≡ true → f.i < n) → (b ≡ true → f.j < n) → (c ≡ false → f.i ≢ f.j) →
    cond (not (a && b)) (Some (NoNode at)) (cond c (Some (SelfEdge at)) (first_fault n (at + 1) fs)) ≡ None → IsProperFact n f × (first_fault n (at + 1) fs ≡ None)
proper_by n at f fs true true false p q r h = (record { pair = record { first_below = p refl; second_below = q refl; differ = r refl } }, h)
proper_by n at f fs true true true p q r h = absurd (cc)
proper_by n at f fs true false c p q r h = absurd (cc)
proper_by n at f fs false b c p q r h = absurd (cc)

-- facts without a fault are proper
pub proper_facts : (n at : ℕ) (fs : List Fact) → first_fault n at fs ≡ None → AllByRecursion (IsProperFact n) fs
proper_facts n at [] h = tt
proper_facts n at (f ∷ fs) h =
    let here = proper_by n at f fs (nat_lt f.i n) (nat_lt f.j n) (f.i == f.j) (ltb-true f.i n) (ltb-true f.j n) (eqb-false f.i f.j) h in
    (here.0, proper_facts n (at + 1) fs here.1)

pub proper_at : (n k : ℕ) (fs : List Fact) (f : Fact) → first_fault n 0 fs ≡ None → k < length fs → f ≡ get_or fs k f → IsProperPair n f.i f.j
proper_at n k fs f h b e =
    let here : IsProperFact n (get_or fs k f) = All-from_recursion (IsProperFact n) fs (proper_facts n 0 fs h) k f b in
    (subst (IsProperFact n) (sym e) here).pair

-- the full sets met with facts that have no fault are the net of the facts
pub IsNetworkOfFacts-sound : (m : Algebra) (n : ℕ) (old new : List ℕ) (fs : List Fact) → first_fault n 0 fs ≡ None → new ≡ narrowed_by m n old fs → old ≡ replicate (edge_count n) (full_of m) → IsNetworkOfFacts m n fs new
IsNetworkOfFacts-sound m n old new fs h e o = subst (IsNetworkOfFacts m n fs) (sym (e ∙ ap (λ ws. narrowed_by m n ws fs) o)) (IsNetworkOfFacts-narrowed_by m n fs (proper_facts n 0 fs h))

-- ---- one fact more

all-front : (P : Fact → Type 0) (fs : List Fact) (f : Fact) → All P (fs ++ f ∷ []) → All P fs
all-front P [] f h = All-nil P
all-front P (g ∷ fs) f h = All-cons P g fs (All-head P g (fs ++ f ∷ []) h) (all-front P fs f (All-tail P g (fs ++ f ∷ []) h))

all-last : (P : Fact → Type 0) (fs : List Fact) (f : Fact) → All P (fs ++ f ∷ []) → P f
all-last P [] f h = All-head P f [] h
all-last P (g ∷ fs) f h = all-last P fs f (All-tail P g (fs ++ f ∷ []) h)

-- the net of facts met with one more is the net of them all
pub IsNetworkOfFacts-push : (m : Algebra) (n : ℕ) (words : List ℕ) (fs : List Fact) (f : Fact) → IsProperPair n f.i f.j → IsNetworkOfFacts m n fs words → IsNetworkOfFacts m n (fs ++ f ∷ []) (narrowed_at m n words f.i f.j f.rel)
IsNetworkOfFacts-push m n words fs f p w = record {
  length_is = length-narrowed_at m n words f.i f.j f.rel ∙ w.length_is;
  members = λ i j t o e.
      let one = narrowed_at-members m n words f i j t w.length_is p o e in
      let old = w.members i j t o e in (
        λ h. ((old.0 (one.0 h).0).0, All-push (Allows m i j t) fs f (old.0 (one.0 h).0).1 (one.0 h).1),
        λ h. one.1 (old.1 (h.0, all-front (Allows m i j t) fs f h.1), all-last (Allows m i j t) fs f h.1),
      );
}

-- and so with more facts, one after another
pub IsNetworkOfFacts-append : (m : Algebra) (n : ℕ) (words : List ℕ) (fs gs : List Fact) → AllByRecursion (IsProperFact n) gs → IsNetworkOfFacts m n fs words → IsNetworkOfFacts m n (fs ++ gs) (narrowed_by m n words gs)
IsNetworkOfFacts-append m n words fs [] p w = subst (λ hs. IsNetworkOfFacts m n hs words) (sym (append-nil fs)) w
IsNetworkOfFacts-append m n words fs (g ∷ gs) p w =
    subst (λ hs. IsNetworkOfFacts m n hs (narrowed_by m n words (g ∷ gs))) (append_assoc fs (g ∷ []) gs)
    (IsNetworkOfFacts-append m n (narrowed_at m n words g.i g.j g.rel) (fs ++ g ∷ []) gs p.1 (IsNetworkOfFacts-push m n words fs g p.0.pair w))

proper_of : (n : ℕ) (fs : List Fact) → All (λ f. IsProperPair n f.i f.j) fs → AllByRecursion (IsProperFact n) fs
proper_of n [] h = tt
proper_of n (f ∷ fs) h = (record { pair = All-head (λ g. IsProperPair n g.i g.j) f fs h }, proper_of n fs (All-tail (λ g. IsProperPair n g.i g.j) f fs h))

pub appended_facts_narrow : (m : Algebra) (n : ℕ) (words : List ℕ) (fs gs : List Fact) → All (λ f. IsProperPair n f.i f.j) gs → IsNetworkOfFacts m n fs words → IsNetworkOfFacts m n (fs ++ gs) (narrowed_by m n words gs)
appended_facts_narrow m n words fs gs p w = IsNetworkOfFacts-append m n words fs gs (proper_of n gs p) w
