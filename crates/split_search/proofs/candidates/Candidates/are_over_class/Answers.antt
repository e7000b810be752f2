use Rattle.std.proofs.Common.{◌≡◌, ◌↔◌, ℕ, Bool, true, false, not, List, Option, Some, None, refl}
use Rattle.std.specs.Prelude.{All, Contains, IsTrue, MatchOption, is_some}
use Rattle.split_search.specs.Bits.{HasBit, IsFirstBit}
use Rattle.split_search.specs.Candidates.{AreCandidates}
use Rattle.split_search.specs.declared.candidates.Candidates.{Candidates}
use Rattle.split_search.proofs.CandidateEdges.{all-inside, not-inside}
use Rattle.split_search.proofs.candidates.Candidates.are_over_class.Goals as goal

inside-of : (class words : List ℕ) (c : Candidates) (first : Option ℕ) (none : Bool) → AreCandidates class words c →
    MatchOption first ((e : ℕ) → ¬ HasBit c.outside e) (IsFirstBit c.outside) → is_some first ≡ not none →
    IsTrue none ↔ All (Contains class) words
inside-of class words c None true are none is = ((λ e. all-inside class words c are none), (λ members. refl))
inside-of class words c (Some e) false are first is =
    ((λ f. absurd (cc)), (λ members. absurd (not-inside class words c are e first members)))
inside-of class words c None false are none is = absurd (cc)
inside-of class words c (Some e) true are first is = absurd (cc)

pub returns : goal.returns
returns c class words are =
    inside-of class words c.args.self.now c.first.result c.is_none.result are c.first.ensures c.is_none.ensures
