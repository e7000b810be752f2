-- The start: an edge whose set is full needn't be queued.
use Rattle.std.proofs.Common.{◌≡◌, ℕ, ◌+◌, ◌^◌, ◌<◌, Bool, true, false, List, length, get_or, set, refl, sym, ◌∙◌, ap, subst, arith, ◌⊎◌, inl, inr}
use Rattle.std.specs.Prelude.{slice_set}
use Rattle.std.proofs.lemmas.Bool.{cases_lt, cases_eq}
use Rattle.std.proofs.lemmas.List.{get_or-set_same}
use Rattle.calculus_table.specs.Rel.{IsWithin}
use Rattle.calculus_table.specs.Algebra.{Algebra}
use Rattle.calculus_table.specs.Composition.{full_of, composition, converse}
use Rattle.calculus_table.specs.Calculus.{IsCalculus}
use Rattle.calculus_table.proofs.Sets.{IsWithin-refl, IsWithin-trans, IsWithin-antisym}
use Rattle.calculus_table.proofs.Compositions.{single-member, Has-full, composition-mono, composition-identity_l, converse-mono, converse-within, converse-converse}
use Rattle.network_words.specs.Edge.{IsProperPair}
use Rattle.edge_propagation.specs.Worklist.{Worklist, IsSized, IsQueued, edge_place, set_of, IsBegun}
use Rattle.edge_propagation.specs.declared.span.Span.{Span}
use Rattle.edge_propagation.specs.Propagation.{AreConverses, IsSettled}
use Rattle.network_words.proofs.Pairs.{pair-swap, pair-first, pair-second, pair-outer}
use Rattle.edge_propagation.proofs.Places.{mark-kept, edge_place-inside, IsQueued-swap}

-- ---- the full set

converse-full : (m : Algebra) → IsCalculus m → converse m (full_of m) ≡ full_of m
converse-full m c =
    let full = full_of m in
    IsWithin-antisym _ _ (converse-within m full c.table)
    (subst (λ x. IsWithin x (converse m full)) (converse-converse m full c (IsWithin-refl full)) (converse-mono m _ _ (converse-within m full c.table)))

-- the identity alone spares the full set
full-composition : (m : Algebra) → IsCalculus m → IsWithin (full_of m) (composition m (full_of m) (full_of m))
full-composition m c =
    let full = full_of m in
    let single : IsWithin (2 ^ m.identity) full = record { each = λ r h. Has-full m r (subst (λ x. x < m.size) (sym (single-member m.identity r h)) c.table.identity_below) } in
    subst (λ x. IsWithin x (composition m full full)) (composition-identity_l m full c (IsWithin-refl full))
    (composition-mono m _ _ _ _ c.table single (IsWithin-refl full))

-- ---- edges queued one after another

-- the rows before i, and of row i the edges to nodes below j
pub record IsRowBegun (old work : Worklist) (full i j : ℕ) : Type 0 where
  pub rest : work ≡ record old { queued = work.queued }
  pub before : IsBegun work full i
  pub row : (q : ℕ) → i < q → q < j → (set_of work i q ≡ full) ⊎ IsQueued work i q

pub IsRowBegun-skip : (old work : Worklist) (full i j : ℕ) → set_of work i j ≡ full → IsRowBegun old work full i j → IsRowBegun old work full i (j + 1)
IsRowBegun-skip old work full i j e p = record {
  rest = p.rest;
  before = p.before;
  row = λ q l l'. elim (cases_eq q j) [
    | inl same ↦ inl (ap (λ x. set_of work i x) same ∙ e)
    | inr ne ↦ p.row q l (omega arith)
  ];
}

pub IsRowBegun-push : (old work : Worklist) (full i j : ℕ) → IsSized work → i < j → j < work.nodes → IsRowBegun old work full i j →
    IsRowBegun old (record work { queued = slice_set work.queued (edge_place i j) true }) full i (j + 1)
IsRowBegun-push old work full i j z o b p =
    let n = work.nodes in
    let at = edge_place i j in
    let pair : IsProperPair n i j = record { first_below = omega arith; second_below = b; differ = λ e. absurd (omega arith) } in
    let inside : at < length work.queued = omega (arith, z.queued_length, edge_place-inside n i j z.bounded pair) in
    let kept = λ (x y : ℕ) (h : (set_of work x y ≡ full) ⊎ IsQueued work x y).
    still work.queued at (edge_place x y) (set_of work x y ≡ full) h in
    record {
      rest = ap (λ (y : Worklist). let pushed : Worklist = record y { queued = slice_set work.queued at true } in pushed) p.rest;
      before = λ x y l l' l''. kept x y (p.before x y l l' l'');
      row = λ q l l'. elim (cases_eq q j) [
        | inl same ↦ inr (subst (λ x. get_or (set work.queued at true) (edge_place i x) false ≡ true) (sym same) (get_or-set_same work.queued at true false inside))
        | inr ne ↦ kept i q (p.row q l (omega arith))
      ];
    }
  where
    still : (queued : List Bool) (at place : ℕ) (P : Type 0) → P ⊎ (get_or queued place false ≡ true) → P ⊎ (get_or (set queued at true) place false ≡ true)
    still queued at place P (inl e) = inl e
    still queued at place P (inr w) = inr (mark-kept queued at place true w (inr refl))

pub IsBegun-row : (old work : Worklist) (full i : ℕ) → IsRowBegun old work full i work.nodes → IsBegun work full (i + 1)
IsBegun-row old work full i p = λ x y l o b. elim (cases_eq x i) [
  | inl same ↦ rw same (p.row y (rw same at o) b)
  | inr ne ↦ p.before x y (omega arith) o b
]

-- ---- the start

-- where each edge is queued whose set isn't full, each triple is settled
pub IsSettled-begun : (m : Algebra) (rows : Span) (work : Worklist) → IsCalculus m → AreConverses m work → IsBegun work (full_of m) work.nodes → IsSettled m rows work
IsSettled-begun m rows work c s begun =
    let n = work.nodes in
    let ordered = λ (a b : ℕ) (p : IsProperPair n a b) (o : a < b) (quiet : ¬ IsQueued work a b).
    elim (begun a b p.first_below o p.second_below) as (λ _. set_of work a b ≡ full_of m) [
      | inl e ↦ e
      | inr w ↦ absurd (quiet w)
    ] in
    let all = λ (a b : ℕ) (p : IsProperPair n a b) (quiet : ¬ IsQueued work a b).
    elim (cases_lt a b) as (λ _. set_of work a b ≡ full_of m) [
      | inl o ↦ ordered a b p o quiet
      | inr g ↦ s.converse b a (pair-swap n a b p)
          ∙ ap (converse m) (ordered b a (pair-swap n a b p) (omega (arith, p.differ)) (λ w. quiet (IsQueued-swap work b a (λ e. p.differ (sym e)) w)))
          ∙ converse-full m c
    ] in
    λ i j k t _ p q. rw (all i j (pair-first n i j k t) p, all j k (pair-second n i j k t) q)
    (IsWithin-trans _ _ _ (s.within i k (pair-outer n i j k t)) (full-composition m c))
