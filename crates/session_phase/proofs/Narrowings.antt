-- The greatest closed network within words and facts, beside the closure of the words narrowed by the facts.
use Rattle.std.proofs.Common.{ℕ, List, [], ◌∷◌, ◌∙◌, sym}
use Rattle.std.specs.List.{All}
use Rattle.std.proofs.lemmas.List.Elements.{All-nil, All-cons, All-head, All-tail}
use Rattle.calculus_table.specs.Rel.{IsWithin}
use Rattle.calculus_table.specs.Algebra.{Algebra}
use Rattle.calculus_table.specs.Composition.{full_of}
use Rattle.calculus_table.specs.Calculus.{IsCalculus}
use Rattle.calculus_table.proofs.Sets.{IsWithin-trans, IsWithin-meet_r}
use Rattle.network_words.specs.declared.fact.Fact.{Fact}
use Rattle.network_words.specs.Network.{IsNetwork, Refines, relation_between, narrowed_at}
use Rattle.network_words.specs.Facts.{narrowed_by}
use Rattle.network_words.specs.Closure.{IsClosure}
use Rattle.network_words.proofs.Networks.{Refines-trans, relation_between-mono, relation_between-narrowed_at, narrowed_at-keeps}
use Rattle.network_words.proofs.Refinements.{IsNetwork-refines, IsNetwork-narrowed_at}
use Rattle.network_words.proofs.Meets.{length-narrowed_by, narrowed_by-within}
use Rattle.narrow_core.specs.Bound.{IsWithinFact}
use Rattle.narrow_core.specs.Machine.{IsProperFact}
use Rattle.narrow_core.proofs.Sights.{facts-mono}
use Rattle.closure_workers.specs.Rounds.{IsClosureWithin}

-- ---- words narrowed by facts

-- a network within the words and each fact is within the words narrowed by the facts
narrowed_by-keeps : (m : Algebra) (n : ℕ) (xs words : List ℕ) (facts : List Fact) → IsCalculus m → IsNetwork m n xs → Refines xs words → All (IsWithinFact m n xs) facts →
    Refines xs (narrowed_by m n words facts)
narrowed_by-keeps m n xs words [] calculus net w h = w
narrowed_by-keeps m n xs words (f ∷ facts) calculus net w h =
    narrowed_by-keeps m n xs (narrowed_at m n words f.i f.j f.rel) facts calculus net
    (narrowed_at-keeps m n xs words f.i f.j f.rel calculus net w (All-head (IsWithinFact m n xs) f facts h)) (All-tail (IsWithinFact m n xs) f facts h)

-- the words narrowed by the facts are within each of them
narrowed_by-facts : (m : Algebra) (n : ℕ) (words : List ℕ) (facts : List Fact) → IsCalculus m → IsNetwork m n words → All (IsProperFact n (full_of m)) facts →
    All (IsWithinFact m n (narrowed_by m n words facts)) facts
narrowed_by-facts m n words [] calculus net p = All-nil (IsWithinFact m n words)
narrowed_by-facts m n words (f ∷ facts) calculus net p =
    let next = narrowed_at m n words f.i f.j f.rel in
    let met = narrowed_by m n next facts in
    let proper : IsProperFact n (full_of m) f = All-head (IsProperFact n (full_of m)) f facts p in
    let here : IsWithin (relation_between m n next f.i f.j) f.rel =
    rw (relation_between-narrowed_at m n words f.i f.j f.rel calculus net proper.pair proper.within) (IsWithin-meet_r (relation_between m n words f.i f.j) f.rel) in
    All-cons (IsWithinFact m n met) f facts
    (IsWithin-trans _ _ _ (relation_between-mono m n met next f.i f.j (narrowed_by-within m n next facts)) here)
    (narrowed_by-facts m n next facts calculus (IsNetwork-narrowed_at m n words f.i f.j f.rel net) (All-tail (IsProperFact n (full_of m)) f facts p))

-- ---- the closure

-- it is the closure of the words narrowed by the facts
pub IsClosure-within : (m : Algebra) (n : ℕ) (words closure : List ℕ) (facts : List Fact) → IsCalculus m → IsNetwork m n words → All (IsProperFact n (full_of m)) facts →
    IsClosureWithin m n words facts closure → IsClosure m n (narrowed_by m n words facts) closure
IsClosure-within m n words closure facts calculus net proper h =
    let met = narrowed_by m n words facts in
    let size = length-narrowed_by m n words facts in
    record {
      length_is = h.network.length_is ∙ sym (size ∙ net.length_is);
      closed = h.closed;
      within = narrowed_by-keeps m n closure words facts calculus h.network h.within h.within_facts;
      greatest = λ other l closed w.
          let inside = Refines-trans other met words w (narrowed_by-within m n words facts) in
          h.greatest other (IsNetwork-refines m n other words net (l ∙ size) inside) closed inside
          (facts-mono m n other met facts w (narrowed_by-facts m n words facts calculus net proper));
    }
