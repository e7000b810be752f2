-- Levels with an empty set, which are only counted.
use Rattle.std.proofs.Common.{◌≡◌, ℕ, zero, suc, ◌<◌, List, [], ◌∷◌, ◌++◌, length, get_or, replicate, refl, sym, ◌∙◌, ap, subst, arith, inl, inr, append_assoc}
use Rattle.std.specs.Prelude.{slice_index, slice_set, All, Contains, ◌⊎◌}
use Rattle.std.proofs.lemmas.List.{length-replicate, length-set, get_or-replicate}
use Rattle.std.proofs.lemmas.List.Elements.{All-append}
use Rattle.calculus_table.specs.Rel.{IsWithin}
use Rattle.calculus_table.specs.Algebra.{Algebra}
use Rattle.calculus_table.specs.Composition.{full_of}
use Rattle.calculus_table.specs.Calculus.{IsCalculus}
use Rattle.calculus_table.proofs.Sets.{IsWithin-empty, empty-within}
use Rattle.network_words.specs.Edge.{edge_count}
use Rattle.network_words.specs.Network.{IsNetwork}
use Rattle.network_words.specs.Closure.{IsClosure}
use Rattle.network_words.proofs.Networks.{set-cases}
use Rattle.network_words.proofs.Refinements.{IsNetwork-refines}
use Rattle.network_words.proofs.Scenarios.{closed-empty}
use Rattle.edge_propagation.specs.Worklist.{Worklist, IsSized}
use Rattle.closure_seq.specs.Levels.{LevelSets}
use Rattle.closure_seq.specs.Paths.{Path, IsClosedNetwork, IsPath, IsStanding, IsEmptyClosure, counted_top, counted_below}
use Rattle.edge_propagation.proofs.Planes.{zero-at}
use Rattle.closure_seq.proofs.Trails.{All-cons}
use Rattle.closure_seq.proofs.Closures.{IsClosed-empty, IsClosure-empty}

-- ---- one more counted, and one less

replicate-snoc : (k : ℕ) (z : List ℕ) → replicate (suc k) z ≡ replicate k z ++ z ∷ []
replicate-snoc zero z = refl
replicate-snoc (suc k) z = ap (λ xs. z ∷ xs) (replicate-snoc k z)

pub counted_below-suc : (k : ℕ) (words : List ℕ) (below : List (List ℕ)) → counted_below (suc k) words below ≡ counted_below k words below ++ counted_top k words ∷ []
counted_below-suc zero words below = refl
counted_below-suc (suc k) words below =
    let z = replicate {A = ℕ} (length words) 0 in
    ap (λ xs. below ++ words ∷ xs) (replicate-snoc k z) ∙ sym (append_assoc below (words ∷ replicate k z) (z ∷ []))

pub length-counted_top : (k : ℕ) (words : List ℕ) → length (counted_top k words) ≡ length words
length-counted_top zero words = refl
length-counted_top (suc k) words = length-replicate {A = ℕ} (length words) 0

-- one more, by a number that is the successor
pub counted_below-more : (k k' : ℕ) (words : List ℕ) (below : List (List ℕ)) → k' ≡ suc k → counted_below k' words below ≡ counted_below k words below ++ counted_top k words ∷ []
counted_below-more k k' words below e = ap (λ j. counted_below j words below) e ∙ counted_below-suc k words below

pub counted_top-more : (k k' : ℕ) (words : List ℕ) → k' ≡ suc k → counted_top k' words ≡ replicate (length (counted_top k words)) 0
counted_top-more k k' words e = ap (λ j. counted_top j words) e ∙ ap (λ l. replicate {A = ℕ} l 0) (sym (length-counted_top k words))

pub counted_top-none : (k : ℕ) (words : List ℕ) → k ≡ 0 → counted_top k words ≡ words
counted_top-none zero words e = refl
counted_top-none (suc k) words e = absurd (omega (arith, e))

pub counted_below-none : (k : ℕ) (words : List ℕ) (below : List (List ℕ)) → k ≡ 0 → counted_below k words below ≡ below
counted_below-none zero words below e = refl
counted_below-none (suc k) words below e = absurd (omega (arith, e))

-- ---- empty networks

pub IsClosedNetwork-zeros : (m : Algebra) (n l : ℕ) → l ≡ edge_count n → IsClosedNetwork m n (replicate l 0)
IsClosedNetwork-zeros m n l e = record {
  network = record {
    length_is = length-replicate {A = ℕ} l 0 ∙ e;
    within = λ d. subst (λ y. IsWithin y (full_of m)) (sym (zero-at l d)) (IsWithin-empty (full_of m));
  };
  closed = IsClosed-empty m n (replicate l 0) (zero-at l);
}

pub IsClosedNetwork-top : (m : Algebra) (n k : ℕ) (words : List ℕ) → IsClosedNetwork m n words → IsClosedNetwork m n (counted_top k words)
IsClosedNetwork-top m n zero words p = p
IsClosedNetwork-top m n (suc k) words p = IsClosedNetwork-zeros m n (length words) p.network.length_is

All-replicate : (P : List ℕ → Type 0) (k : ℕ) (z : List ℕ) → P z → All P (replicate k z)
All-replicate P k z p = λ i d l. subst P (sym (get_or-replicate k i z d (omega (arith, l, length-replicate k z)))) p

pub All-below : (m : Algebra) (n k : ℕ) (words : List ℕ) (below : List (List ℕ)) → IsClosedNetwork m n words → All (IsClosedNetwork m n) below → All (IsClosedNetwork m n) (counted_below k words below)
All-below m n zero words below p q = q
All-below m n (suc k) words below p q =
    let z = replicate {A = ℕ} (length words) 0 in
    let rest : All (IsClosedNetwork m n) (replicate k z) = All-replicate (IsClosedNetwork m n) k z (IsClosedNetwork-zeros m n (length words) p.network.length_is) in
    All-append (IsClosedNetwork m n) below (words ∷ replicate k z) q (All-cons (IsClosedNetwork m n) words (replicate k z) p rest)

-- a closed network that has an empty set has no other
pub none-of_contains : (m : Algebra) (n : ℕ) (words : List ℕ) → IsCalculus m → IsClosedNetwork m n words → Contains words 0 → (d : ℕ) → slice_index words d ≡ 0
none-of_contains m n words c p h = closed-empty m n h.0 words c p.network p.closed (omega (arith, h.1, p.network.length_is)) h.2

-- where the top has no empty set none is counted
pub counted-none : (k : ℕ) (words : List ℕ) (n : ℕ) → length words ≡ edge_count n → (0 < k → 0 < edge_count n) → ¬ Contains (counted_top k words) 0 → k ≡ 0
counted-none zero words n l some none = refl
counted-none (suc k) words n l some none =
    let b : 0 < length words = omega (arith, l, some (omega arith)) in
    let at : get_or {A = ℕ} (replicate (length words) 0) 0 0 ≡ 0 = zero-at (length words) 0 in
    absurd (none (0, omega (arith, length-replicate {A = ℕ} (length words) 0), at))

-- whether the top has an empty set is told by the number of counted levels, or else by the first set
pub Contains-told : (m : Algebra) (n k : ℕ) (words : List ℕ) → IsCalculus m → IsClosedNetwork m n words → (0 < k → 0 < edge_count n) → (0 < k) ⊎ ((0 < edge_count n) × (slice_index words 0 ≡ 0)) → Contains (counted_top k words) 0
Contains-told m n zero words c p some h = elim h as (λ _. Contains words 0) [
  | inl l ↦ absurd (omega arith)
  | inr q ↦ (0, omega (arith, q.0, p.network.length_is), q.1)
]
Contains-told m n (suc k) words c p some h =
    let b : 0 < length words = omega (arith, p.network.length_is, some (omega arith)) in
    (0, omega (arith, length-replicate {A = ℕ} (length words) 0), zero-at (length words) 0)

pub told-Contains : (m : Algebra) (n k : ℕ) (words : List ℕ) → IsCalculus m → IsClosedNetwork m n words → k ≡ 0 → Contains (counted_top k words) 0 → (0 < edge_count n) × (slice_index words 0 ≡ 0)
told-Contains m n k words c p e h =
    let h' : Contains words 0 = subst (λ xs. Contains xs 0) (counted_top-none k words e) h in
    (omega (arith, h'.1, p.network.length_is), none-of_contains m n words c p h' 0)

-- ---- levels above an empty one

-- a set of an empty network can only be made what it is
pub IsClosure-counted : (m : Algebra) (n e x : ℕ) (top closure : List ℕ) → IsCalculus m → IsClosedNetwork m n top → Contains top 0 → IsWithin x (slice_index top e) → closure ≡ replicate (length top) 0 →
    IsClosure m n (slice_set top e x) closure
IsClosure-counted m n e x top closure c p h w is =
    let none = none-of_contains m n top c p h in
    let nothing : x ≡ 0 = empty-within x (subst (IsWithin x) (none e) w) in
    IsClosure-empty m n (slice_set top e x) closure
    (λ d. elim (set-cases top e x d) [
      | inl same ↦ same ∙ none d
      | inr here ↦ here.1 ∙ nothing
    ])
    (ap length is ∙ length-replicate {A = ℕ} (length top) 0 ∙ sym (length-set top e x))
    (λ d. ap (λ xs. get_or xs d 0) is ∙ zero-at (length top) d)

-- ---- what callers know of a path

pub IsPath-standing : (m : Algebra) (work : Worklist) (levels : LevelSets) (bases : List ℕ) (k : ℕ) → IsStanding m work levels bases → IsSized work →
    IsPath (record { algebra = m; nodes = levels.nodes; top = counted_top k levels.top; below = counted_below k levels.top levels.below })
IsPath-standing m work levels bases k s z = record {
  calculus = s.calculus;
  some = omega (arith, z.some, s.in_step.nodes);
  bounded = omega (arith, z.bounded, s.in_step.nodes);
  top = IsClosedNetwork-top m levels.nodes k levels.top s.top;
  below = All-below m levels.nodes k levels.top levels.below s.top s.below;
}

-- the closure of a network is a closed network
pub IsClosedNetwork-closure : (m : Algebra) (n : ℕ) (words closure : List ℕ) → IsNetwork m n words → IsClosure m n words closure → IsClosedNetwork m n closure
IsClosedNetwork-closure m n words closure net c = record { network = IsNetwork-refines m n closure words net c.length_is c.within; closed = c.closed }

-- ---- what a path's parts are seen as

-- the path of these levels, with so many counted above them
abbrev pub path_of : Algebra → LevelSets → ℕ → Path
path_of m levels k = record { algebra = m; nodes = levels.nodes; top = counted_top k levels.top; below = counted_below k levels.top levels.below }

pub level-made : (m : Algebra) (levels levels' : LevelSets) (k : ℕ) → k ≡ 0 → levels'.nodes ≡ levels.nodes → levels'.below ≡ levels.below ++ levels.top ∷ [] →
    path_of m levels' k ≡ record (path_of m levels k) { top = counted_top k levels'.top; below = counted_below k levels.top levels.below ++ counted_top k levels.top ∷ [] }
level-made m levels levels' k none nodes below =
    let all : counted_below k levels'.top levels'.below ≡ counted_below k levels.top levels.below ++ counted_top k levels.top ∷ [] =
    counted_below-none k levels'.top levels'.below none ∙ below
    ∙ ap (λ xs. xs ++ levels.top ∷ []) (sym (counted_below-none k levels.top levels.below none))
    ∙ ap (λ xs. counted_below k levels.top levels.below ++ xs ∷ []) (sym (counted_top-none k levels.top none)) in
    λ i. let z : Path = record { algebra = m; nodes = nodes i; top = counted_top k levels'.top; below = all i } in z

pub level-kept : (m : Algebra) (levels levels' : LevelSets) (k : ℕ) → levels' ≡ record levels { changes = levels'.changes } → path_of m levels' k ≡ path_of m levels k
level-kept m levels levels' k e = ap (λ (y : LevelSets). path_of m y k) e

pub level-taken : (m : Algebra) (levels levels' : LevelSets) (k : ℕ) → k ≡ 0 → levels'.nodes ≡ levels.nodes → levels.below ≡ levels'.below ++ levels'.top ∷ [] →
    path_of m levels k ≡ record (path_of m levels' k) { top = counted_top k levels.top; below = counted_below k levels'.top levels'.below ++ counted_top k levels'.top ∷ [] }
level-taken m levels levels' k none nodes below = level-made m levels' levels k none (sym nodes) below

-- one less counted
pub level-uncounted : (m : Algebra) (levels : LevelSets) (k k' : ℕ) → k ≡ suc k' →
    path_of m levels k ≡ record (path_of m levels k') { top = counted_top k levels.top; below = counted_below k' levels.top levels.below ++ counted_top k' levels.top ∷ [] }
level-uncounted m levels k k' e =
    let all = counted_below-more k' k levels.top levels.below e in
    λ i. let z : Path = record { algebra = m; nodes = levels.nodes; top = counted_top k levels.top; below = all i } in z

pub closure-made : (m : Algebra) (levels levels' : LevelSets) (k edge at x : ℕ) → k ≡ 0 → at ≡ edge → IsClosure m levels.nodes (slice_set levels.top at x) levels'.top →
    IsClosure m levels.nodes (slice_set (counted_top k levels.top) edge x) (counted_top k levels'.top)
closure-made m levels levels' k edge at x none same c = rw (counted_top-none k levels.top none, counted_top-none k levels'.top none, ← same) c

pub closure-emptied : (m : Algebra) (levels : LevelSets) (k edge at x : ℕ) (closure : List ℕ) → k ≡ 0 → at ≡ edge → IsEmptyClosure m levels.nodes (slice_set levels.top at x) →
    closure ≡ replicate (length (counted_top k levels.top)) 0 → IsClosure m levels.nodes (slice_set (counted_top k levels.top) edge x) closure
closure-emptied m levels k edge at x closure none same h e =
    let l : closure ≡ replicate (length levels.top) 0 = e ∙ ap (λ n. replicate {A = ℕ} n 0) (length-counted_top k levels.top) in
    rw (counted_top-none k levels.top none, ← same)
    (h closure (ap length l ∙ length-replicate {A = ℕ} (length levels.top) 0 ∙ sym (length-set levels.top at x)) (λ d. ap (λ xs. get_or xs d 0) l ∙ zero-at (length levels.top) d))

pub within-made : (levels : LevelSets) (k edge at x : ℕ) → k ≡ 0 → at ≡ edge → IsWithin x (slice_index (counted_top k levels.top) edge) → IsWithin x (slice_index levels.top at)
within-made levels k edge at x none same w = rw (← counted_top-none k levels.top none, same) w
