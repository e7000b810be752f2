-- Closures of the networks that facts state.
use Rattle.std.proofs.Common.{◌≡◌, ◌≢◌, ℕ, ◌≤◌, ◌^◌, refl, List, [], ◌++◌, replicate, All, ◌∙◌, ap, subst, inl, inr, arith}
use Rattle.std.proofs.lemmas.Bool.{cases_lt}
use Rattle.std.proofs.lemmas.List.{get_or-replicate}
use Rattle.calculus_table.specs.Rel.{IsWithin}
use Rattle.calculus_table.specs.Algebra.{Algebra}
use Rattle.calculus_table.specs.Composition.{full_of, composition, converse}
use Rattle.calculus_table.specs.Calculus.{IsCalculus}
use Rattle.calculus_table.proofs.Sets.{IsWithin-refl, IsWithin-antisym}
use Rattle.calculus_table.proofs.Singles.{single-within}
use Rattle.calculus_table.proofs.Members.{Has-full, converse-within}
use Rattle.calculus_table.proofs.Compositions.{composition-mono, composition-identity_l, converse-converse, converse-mono}
use Rattle.network_words.specs.declared.fact.Fact.{Fact}
use Rattle.network_words.specs.Edge.{edge_count, edge_at, IsProperPair}
use Rattle.network_words.specs.Network.{IsNetwork, relation_between}
use Rattle.network_words.specs.Facts.{IsNetworkOfFacts, narrowed_by}
use Rattle.network_words.specs.Closure.{IsClosed, IsClosure}
use Rattle.network_words.proofs.Edges.{edge_at-lt}
use Rattle.network_words.proofs.Networks.{Refines-refl, relation_between-forward, relation_between-backward, IsClosure-unique}
use Rattle.network_words.proofs.Refinements.{IsNetwork-refines}
use Rattle.network_words.proofs.Meets.{met-from_closure}
use Rattle.network_words.proofs.NetsOfFacts.{IsNetwork-from_facts, IsNetworkOfFacts-none, IsNetworkOfFacts-unique, appended_facts_narrow}
use Rattle.session_versions.specs.Versions.{IsClosureOfFacts}

-- ---- the laws

pub closure_goes_on : (m : Algebra) (n : ℕ) (facts more : List Fact) (words closure : List ℕ) → All (λ fact. IsProperPair n fact.i fact.j) more →
    IsClosureOfFacts m n facts words → IsClosure m n (narrowed_by m n words more) closure → IsClosureOfFacts m n (facts ++ more) closure
closure_goes_on m n facts more words closure proper c met = record {
  words = narrowed_by m n c.words more;
  network = appended_facts_narrow m n c.words facts more proper c.network;
  closed = met-from_closure m n c.words words more closure c.closed met;
}

pub facts_have_one_closure : (m : Algebra) (n : ℕ) (facts : List Fact) (c d : List ℕ) → IsClosureOfFacts m n facts c → IsClosureOfFacts m n facts d → c ≡ d
facts_have_one_closure m n facts c d p q =
    IsClosure-unique m n p.words c d p.closed
    (subst (λ words. IsClosure m n words d) (IsNetworkOfFacts-unique m n facts q.words p.words q.network p.network) q.closed)

-- ---- no facts

converse-full : (m : Algebra) → IsCalculus m → converse m (full_of m) ≡ full_of m
converse-full m k =
    let full = full_of m in
    let all = converse m full in
    let within : IsWithin all full = converse-within m full k.table in
    IsWithin-antisym all full within
    (subst (λ x. IsWithin x all) (converse-converse m full k (IsWithin-refl full)) (converse-mono m all full within))

-- the identity is in the full set, and composed with any set it is that set
full-composition : (m : Algebra) → IsCalculus m → IsWithin (full_of m) (composition m (full_of m) (full_of m))
full-composition m k =
    let full = full_of m in
    let identity : IsWithin (2 ^ m.identity) full = single-within m.identity full (Has-full m m.identity k.table.identity_below) in
    subst (λ x. IsWithin x (composition m full full)) (composition-identity_l m full k (IsWithin-refl full))
    (composition-mono m (2 ^ m.identity) full full full k.table identity (IsWithin-refl full))

relation_between-full : (m : Algebra) (n i j : ℕ) → IsCalculus m → IsProperPair n i j → relation_between m n (replicate (edge_count n) (full_of m)) i j ≡ full_of m
relation_between-full m n i j k p =
    let words = replicate (edge_count n) (full_of m) in
    elim (cases_lt i j) [
      | inl o ↦ relation_between-forward m n words i j o ∙ get_or-replicate (edge_count n) (edge_at n i j) (full_of m) 0 (edge_at-lt n i j o p.second_below)
      | inr o ↦ (let d : i ≢ j = p.differ in
          relation_between-backward m n words i j o
          ∙ ap (converse m) (get_or-replicate (edge_count n) (edge_at n j i) (full_of m) 0 (edge_at-lt n j i (omega arith) p.first_below))
          ∙ converse-full m k)
    ]

IsClosed-full : (m : Algebra) (n : ℕ) → IsCalculus m → IsClosed m n (replicate (edge_count n) (full_of m))
IsClosed-full m n k = record {
  each = λ a b c p.
      rw (
        relation_between-full m n a c k (record { first_below = p.first_below; second_below = p.third_below; differ = p.first_third }),
        relation_between-full m n a b k (record { first_below = p.first_below; second_below = p.second_below; differ = p.first_second }),
        relation_between-full m n b c k (record { first_below = p.second_below; second_below = p.third_below; differ = p.second_third }),
      )
      (full-composition m k);
}

-- without facts the closure has full sets
pub IsClosureOfFacts-none : (m : Algebra) (n : ℕ) → IsCalculus m → IsClosureOfFacts m n [] (replicate (edge_count n) (full_of m))
IsClosureOfFacts-none m n k =
    let words = replicate (edge_count n) (full_of m) in
    record {
      words = words;
      network = IsNetworkOfFacts-none m n;
      closed = record { length_is = refl; closed = IsClosed-full m n k; within = Refines-refl words; greatest = λ other l closed w. w };
    }

-- the closure has a set of base relations for each edge
pub IsNetwork-closure_of_facts : (m : Algebra) (n : ℕ) (facts : List Fact) (closure : List ℕ) → IsClosureOfFacts m n facts closure → IsNetwork m n closure
IsNetwork-closure_of_facts m n facts closure c =
    IsNetwork-refines m n closure c.words (IsNetwork-from_facts m n facts c.words c.network) c.closed.length_is c.closed.within

-- a network without three nodes is closed as it stands
pub IsClosureOfFacts-small : (m : Algebra) (n : ℕ) (facts : List Fact) (words : List ℕ) → n ≤ 2 → IsNetworkOfFacts m n facts words → IsClosureOfFacts m n facts words
IsClosureOfFacts-small m n facts words few network = record {
  words = words;
  network = network;
  closed = record {
    length_is = refl;
    closed = record {
      each = λ i j k p.
          let a : i ≢ j = p.first_second in
          let b : j ≢ k = p.second_third in
          let d : i ≢ k = p.first_third in
          absurd (omega (arith, few, p.first_below, p.second_below, p.third_below));
    };
    within = Refines-refl words;
    greatest = λ other l closed w. w;
  };
}
