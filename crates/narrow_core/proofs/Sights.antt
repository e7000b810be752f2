-- What actors have seen: the set of a pair after one edge or all edges are met, and facts under smaller words.
use Rattle.std.proofs.Common.{◌≡◌, ℕ, zero, suc, ◌<◌, List, [], ◌∷◌, length, refl, ◌∙◌, ap, subst, arith, inl, inr}
use Rattle.std.specs.Prelude.{bit_and, slice_index, slice_set}
use Rattle.std.specs.List.{All}
use Rattle.std.proofs.lemmas.Bool.{cases_lt}
use Rattle.std.proofs.lemmas.List.{length-set, get_or-set_same}
use Rattle.std.proofs.lemmas.List.Elements.{All-weaker}
use Rattle.calculus_table.specs.Rel.{IsWithin}
use Rattle.calculus_table.specs.Algebra.{Algebra}
use Rattle.calculus_table.specs.Composition.{full_of}
use Rattle.calculus_table.proofs.Sets.{IsWithin-refl, IsWithin-trans, IsWithin-meet, IsWithin-meet_l, IsWithin-meet_r, IsWithin-empty}
use Rattle.calculus_table.proofs.Compositions.{converse-mono}
use Rattle.network_words.specs.declared.fact.Fact.{Fact}
use Rattle.network_words.specs.Edge.{edge_between}
use Rattle.network_words.specs.Network.{IsNetwork, Refines, relation_between}
use Rattle.network_words.proofs.Edges.{edge_between-forward, edge_between-backward}
pub use Rattle.network_words.proofs.Pairs.{edge_between-lt}
use Rattle.network_words.proofs.Networks.{set-cases, relation_between-mono, relation_between-forward, relation_between-backward}
use Rattle.narrow_core.specs.Actor.{met_words}
use Rattle.narrow_core.specs.Machine.{AreSets}
use Rattle.narrow_core.specs.Bound.{IsWithinFact}

-- ---- facts

pub facts-mono : (m : Algebra) (n : ℕ) (xs ys : List ℕ) (facts : List Fact) → Refines xs ys → All (IsWithinFact m n ys) facts → All (IsWithinFact m n xs) facts
facts-mono m n xs ys facts w = All-weaker (IsWithinFact m n ys) (IsWithinFact m n xs) (λ f h. IsWithin-trans _ _ _ (relation_between-mono m n xs ys f.i f.j w) h) facts

-- ---- the edge between two nodes

-- where the words of the edge between two nodes are within one another, so are the sets of the pair
pub relation_between-edge : (m : Algebra) (n : ℕ) (xs ys : List ℕ) (i j : ℕ) →
    IsWithin (slice_index xs (edge_between n i j)) (slice_index ys (edge_between n i j)) → IsWithin (relation_between m n xs i j) (relation_between m n ys i j)
relation_between-edge m n xs ys i j w = elim (cases_lt i j) [
  | inl o ↦ rw (relation_between-forward m n xs i j o, relation_between-forward m n ys i j o) (rw (edge_between-forward n i j o) at w)
  | inr o ↦ rw (relation_between-backward m n xs i j o, relation_between-backward m n ys i j o) (converse-mono m _ _ (rw (edge_between-backward n i j o) at w))
]

-- ---- one edge seen

pub length-seen : (seen : List ℕ) (e x : ℕ) → length (slice_set seen e (bit_and (slice_index seen e) x)) ≡ length seen
length-seen seen e x = length-set seen e (bit_and (slice_index seen e) x)

pub seen-within : (seen : List ℕ) (e x : ℕ) → Refines (slice_set seen e (bit_and (slice_index seen e) x)) seen
seen-within seen e x = record {
  each = λ d. elim (set-cases seen e (bit_and (slice_index seen e) x) d) [
    | inl same ↦ rw same (IsWithin-refl _)
    | inr here ↦ rw (here.1, here.0) (IsWithin-meet_l (slice_index seen e) x)
  ];
}

-- words within what was seen stay within, after their own edge is seen
pub seen-keeps : (words seen : List ℕ) (e : ℕ) → Refines words seen → Refines words (slice_set seen e (bit_and (slice_index seen e) (slice_index words e)))
seen-keeps words seen e w = record {
  each = λ d. elim (set-cases seen e (bit_and (slice_index seen e) (slice_index words e)) d) [
    | inl same ↦ rw same (w.each d)
    | inr here ↦ rw (here.1, here.0) (IsWithin-meet _ _ _ (w.each e) (IsWithin-refl (slice_index words e)))
  ];
}

-- the edge seen is within the set seen
pub seen-edge : (seen : List ℕ) (e x : ℕ) → e < length seen → IsWithin (slice_index (slice_set seen e (bit_and (slice_index seen e) x)) e) x
seen-edge seen e x b = rw (get_or-set_same seen e (bit_and (slice_index seen e) x) 0 b) (IsWithin-meet_r (slice_index seen e) x)

-- ---- all edges met

pub length-met : (xs ys : List ℕ) → length xs ≡ length ys → length (met_words xs ys) ≡ length xs
length-met [] ys e = refl
length-met (x ∷ xs) [] e = absurd (omega arith)
length-met (x ∷ xs) (y ∷ ys) e = ap suc (length-met xs ys (omega arith))

met-each_l : (xs ys : List ℕ) (e : ℕ) → IsWithin (slice_index (met_words xs ys) e) (slice_index xs e)
met-each_l [] ys e = IsWithin-refl 0
met-each_l (x ∷ xs) [] e = IsWithin-empty _
met-each_l (x ∷ xs) (y ∷ ys) zero = IsWithin-meet_l x y
met-each_l (x ∷ xs) (y ∷ ys) (suc e) = met-each_l xs ys e

met-each_r : (xs ys : List ℕ) (e : ℕ) → IsWithin (slice_index (met_words xs ys) e) (slice_index ys e)
met-each_r [] ys e = IsWithin-empty _
met-each_r (x ∷ xs) [] e = IsWithin-refl 0
met-each_r (x ∷ xs) (y ∷ ys) zero = IsWithin-meet_r x y
met-each_r (x ∷ xs) (y ∷ ys) (suc e) = met-each_r xs ys e

met-each : (xs ys : List ℕ) (e a : ℕ) → IsWithin a (slice_index xs e) → IsWithin a (slice_index ys e) → IsWithin a (slice_index (met_words xs ys) e)
met-each [] ys e a p q = p
met-each (x ∷ xs) [] e a p q = q
met-each (x ∷ xs) (y ∷ ys) zero a p q = IsWithin-meet a x y p q
met-each (x ∷ xs) (y ∷ ys) (suc e) a p q = met-each xs ys e a p q

pub met-within_l : (xs ys : List ℕ) → Refines (met_words xs ys) xs
met-within_l xs ys = record { each = met-each_l xs ys }

pub met-within_r : (xs ys : List ℕ) → Refines (met_words xs ys) ys
met-within_r xs ys = record { each = met-each_r xs ys }

pub met-keeps : (words xs ys : List ℕ) → Refines words xs → Refines words ys → Refines words (met_words xs ys)
met-keeps words xs ys p q = record { each = λ e. met-each xs ys e (slice_index words e) (p.each e) (q.each e) }

-- ---- sets for each edge

pub AreSets-less : (n full : ℕ) (xs ys : List ℕ) → AreSets n full xs → length ys ≡ length xs → Refines ys xs → AreSets n full ys
AreSets-less n full xs ys s l w = record { length_is = l ∙ s.length_is; within = λ e. IsWithin-trans _ _ _ (w.each e) (s.within e) }

pub AreSets-network : (m : Algebra) (n full : ℕ) (xs : List ℕ) → full ≡ full_of m → AreSets n full xs → IsNetwork m n xs
AreSets-network m n full xs e s = record { length_is = s.length_is; within = λ k. subst (IsWithin (slice_index xs k)) e (s.within k) }
