-- Sets of pairs that became their parts within words, pair by pair and row by row.
use Rattle.std.proofs.Common.{◌≡◌, ◌≢◌, ℕ, ◌+◌, ◌<◌, List, refl, sym, ◌∙◌, subst, arith, ◌⊎◌, inl, inr}
use Rattle.std.specs.Prelude.{slice_index, bit_and}
use Rattle.std.proofs.lemmas.Bool.{cases_eq}
use Rattle.calculus_table.specs.Algebra.{Algebra}
use Rattle.calculus_table.specs.Calculus.{IsCalculus}
use Rattle.calculus_table.specs.Rel.{IsWithin}
use Rattle.network_words.specs.Edge.{edge_at, IsProperPair, IsSamePair}
use Rattle.edge_propagation.specs.Worklist.{Worklist, IsSized, set_of}
use Rattle.edge_propagation.specs.Propagation.{AreConverses, IsPairMet, IsRowMet, AreRowsMet}
use Rattle.edge_propagation.proofs.Steps.{refined, refined-first, refined-other}

pub IsPairMet-same : (work : Worklist) (i j rel : ℕ) → bit_and (set_of work i j) rel ≡ set_of work i j → IsPairMet work work i j rel
IsPairMet-same work i j rel e = record { set = sym e; others = λ a b p ne. refl }

pub IsPairMet-refined : (m : Algebra) (work : Worklist) (i j x rel : ℕ) → IsCalculus m → AreConverses m work → IsSized work → IsProperPair work.nodes i j → IsWithin x (set_of work i j) →
    x ≡ bit_and (set_of work i j) rel → IsPairMet work (refined m work i j x) i j rel
IsPairMet-refined m work i j x rel c s z p w e = record {
  set = refined-first m work i j x c s z p w ∙ e;
  others = refined-other m work i j x c s z p w;
}

-- two nodes, the lesser one first
forward-pair : (n a b : ℕ) → a < b → b < n → IsProperPair n a b
forward-pair n a b o l = record { first_below = omega arith; second_below = l; differ = λ e. absurd (omega arith) }

-- ---- a row, one pair after another

pub IsRowMet-none : (words : List ℕ) (work : Worklist) (i : ℕ) → IsRowMet words work work i (i + 1)
IsRowMet-none words work i = record { each = λ j a b. absurd (omega arith); others = λ a b o l d. refl }

pub IsRowMet-more : (words : List ℕ) (old mid new : Worklist) (i k : ℕ) → mid.nodes ≡ old.nodes → i < k → k < old.nodes → IsRowMet words old mid i k →
    IsPairMet mid new i k (slice_index words (edge_at old.nodes i k)) → IsRowMet words old new i (k + 1)
IsRowMet-more words old mid new i k nodes order below h p =
    let stays : (a b : ℕ) → a < b → b < old.nodes → (a ≢ i) ⊎ (b ≢ k) → set_of new a b ≡ set_of mid a b =
    λ a b o l d. p.others a b (subst (λ n. IsProperPair n a b) (sym nodes) (forward-pair old.nodes a b o l)) (apart a b o d) in
    record {
      each = λ j a b. elim (cases_eq j k) [
        | inl e ↦ subst (λ x. set_of new i x ≡ bit_and (set_of old i x) (slice_index words (edge_at old.nodes i x))) (sym e)
            (p.set ∙ subst (λ s. bit_and (set_of mid i k) (slice_index words (edge_at old.nodes i k)) ≡ bit_and s (slice_index words (edge_at old.nodes i k)))
            (h.others i k order below (inr (omega arith))) refl)
        | inr ne ↦ stays i j a (omega arith) (inr ne) ∙ h.each j a (omega arith)
      ];
      others = λ a b o l d. stays a b o l (elim d [
        | inl ne ↦ inl ne
        | inr le ↦ inr (λ e. absurd (omega arith))
      ]) ∙ h.others a b o l (elim d [
        | inl ne ↦ inl ne
        | inr le ↦ inr (omega arith)
      ]);
    }
  where
    apart : (a b : ℕ) → a < b → (a ≢ i) ⊎ (b ≢ k) → ¬ IsSamePair a b i k
    apart a b o (inl ne) (inl s) = ne s.0
    apart a b o (inr ne) (inl s) = ne s.1
    apart a b o d (inr s) = let e = s.0 in let f = s.1 in absurd (omega arith)

-- ---- the rows, one after another

pub AreRowsMet-none : (words : List ℕ) (work : Worklist) → AreRowsMet words work work 0
AreRowsMet-none words work = record { each = λ i j a o l. absurd (omega arith); others = λ i j a o l. refl }

pub AreRowsMet-more : (words : List ℕ) (old mid new : Worklist) (k : ℕ) → mid.nodes ≡ old.nodes → AreRowsMet words old mid k → IsRowMet words mid new k mid.nodes →
    AreRowsMet words old new (k + 1)
AreRowsMet-more words old mid new k nodes h r' =
    let r : IsRowMet words (record mid { nodes = old.nodes }) new k old.nodes = rw nodes at r' in
    let stays : (i j : ℕ) → i < j → j < old.nodes → i ≢ k → set_of new i j ≡ set_of mid i j = λ i j o l ne. r.others i j o l (inl ne) in
    record {
      each = λ i j a o l. elim (cases_eq i k) [
        | inl e ↦ subst (λ x. set_of new x j ≡ bit_and (set_of old x j) (slice_index words (edge_at old.nodes x j))) (sym e)
            (r.each j (omega arith) l ∙ subst (λ s. bit_and (set_of mid k j) (slice_index words (edge_at old.nodes k j)) ≡ bit_and s (slice_index words (edge_at old.nodes k j)))
            (h.others k j (omega arith) (omega arith) l) refl)
        | inr ne ↦ stays i j o l ne ∙ h.each i j (omega arith) o l
      ];
      others = λ i j a o l. stays i j o l (λ e. absurd (omega arith)) ∙ h.others i j (omega arith) o l;
    }
