-- Facts that are proper, with one more and with some fewer.
use Rattle.std.proofs.Common.{ℕ, Bool, List, [], ◌∷◌, ◌++◌, filter}
use Rattle.std.proofs.lemmas.List.Elements.{All-push, All-filter}
use Rattle.calculus_table.specs.Rel.{IsWithin}
use Rattle.calculus_table.specs.Algebra.{Algebra}
use Rattle.calculus_table.specs.Composition.{full_of}
use Rattle.network_words.specs.Edge.{IsProperPair}
use Rattle.session_versions.specs.HeldFacts.{HeldFact}
use Rattle.session_versions.specs.Versions.{AreProper}

pub AreProper-push : (m : Algebra) (n : ℕ) (helds : List HeldFact) (held : HeldFact) → AreProper m n helds → IsProperPair n held.fact.i held.fact.j → IsWithin held.fact.rel (full_of m) →
    AreProper m n (helds ++ held ∷ [])
AreProper-push m n helds held p pair set = record {
  pairs = All-push (λ h. IsProperPair n h.fact.i h.fact.j) helds held p.pairs pair;
  sets = All-push (λ h. IsWithin h.fact.rel (full_of m)) helds held p.sets set;
}

pub AreProper-filter : (m : Algebra) (n : ℕ) (test : HeldFact → Bool) (helds : List HeldFact) → AreProper m n helds → AreProper m n (filter test helds)
AreProper-filter m n test helds p = record {
  pairs = All-filter test (λ h. IsProperPair n h.fact.i h.fact.j) helds p.pairs;
  sets = All-filter test (λ h. IsWithin h.fact.rel (full_of m)) helds p.sets;
}
