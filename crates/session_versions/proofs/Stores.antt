-- What a store keeps: as it is made, and with one version more.
use Rattle.std.proofs.Common.{◌≡◌, ◌≢◌, ℕ, ◌+◌, ◌-◌, ◌<◌, ◌≤◌, [], ◌∷◌, length, get_or, drop, replicate, Some, refl, sym, ◌∙◌, ap, subst, arith}
use Rattle.std.proofs.lemmas.List.{length_push, length-drop, get_or_append_left, get_or_push}
use Rattle.std.proofs.lemmas.List.Elements.{All-push, All-drop, All-get_or}
use Rattle.network_words.specs.Network.{Network, IsShaped}
use Rattle.calculus_table.specs.Algebra.{Algebra}
use Rattle.calculus_table.specs.Composition.{full_of}
use Rattle.calculus_table.specs.Calculus.{IsCalculus}
use Rattle.network_words.specs.Edge.{edge_count}
use Rattle.session_versions.specs.HeldFacts.{AreNumbered, facts_of}
use Rattle.session_versions.specs.Drafts.{DraftState}
use Rattle.session_versions.specs.Versions.{VersionState, AreProper, IsClosureOfFacts, IsVersion}
use Rattle.session_versions.specs.Stores.{StoreState, IsStore, kept_versions, version_with, committing}
use Rattle.session_versions.proofs.Closures.{IsClosureOfFacts-none}
use Rattle.session_versions.proofs.Numbers.{AreInRow-push, AreInRow-drop, find-number}

-- the store after a commit
pub IsStore-committing : (s : StoreState) (draft : DraftState) (net : Network) → IsStore s → AreProper s.calculus s.nodes draft.facts → net.nodes ≡ s.nodes →
    IsClosureOfFacts s.calculus s.nodes (facts_of draft.facts) net.words → AreNumbered draft.facts draft.next → IsStore (committing draft net s)
IsStore-committing s draft net k proper nodes closure numbered =
    let kept = kept_versions s in
    let long : length kept ≡ length s.older + 1 = length_push s.older s.newest in
    let count = length kept - 15 in
    let left : length (drop count kept) ≡ length kept - count = length-drop count kept in
    record {
      calculus = k.calculus;
      some = k.some;
      bounded = k.bounded;
      newest = record { nodes = nodes; proper = proper; closure = closure };
      older = All-drop (IsVersion s.calculus s.nodes) count kept (All-push (IsVersion s.calculus s.nodes) s.older s.newest k.older k.newest);
      numbers = AreInRow-drop count kept (s.newest.number + 1) (omega arith) (AreInRow-push s.older s.newest k.numbers);
      kept = omega (arith, long, left, k.kept);
      facts = numbered;
    }

-- the nodes are those of the newest network
pub IsStore-nodes : (s : StoreState) (n : ℕ) → n ≡ s.nodes → IsStore s → IsStore (record s { nodes = n })
IsStore-nodes s n e k = subst (λ i. IsStore (record s { nodes = i })) (sym e) k

-- the kept version so many before the newest one
pub version_with-back : (s : StoreState) (number back : ℕ) (v : VersionState) → IsStore s → number + back ≡ s.newest.number → back ≤ length s.older →
    version_with s number ≡ Some (get_or (kept_versions s) (length s.older - back) v)
version_with-back s number back v k e b =
    let long : length (kept_versions s) ≡ length s.older + 1 = length_push s.older s.newest in
    find-number (kept_versions s) (s.newest.number + 1) number (length s.older - back) v (AreInRow-push s.older s.newest k.numbers) (omega arith) (omega (arith, e, long))

-- the store without facts
pub IsStore-first : (m : Algebra) (n : ℕ) (net : Network) → IsCalculus m → IsShaped net → net.nodes ≡ n → net.words ≡ replicate (edge_count n) (full_of m) →
    IsStore (record { nodes = n; calculus = m; newest = record { number = 0; facts = []; net = net }; older = []; next_fact = 1 })
IsStore-first m n net k shape nodes words = record {
  calculus = k;
  some = omega (arith, shape.some, nodes);
  bounded = omega (arith, shape.bounded, nodes);
  newest = record {
    nodes = nodes;
    proper = record { pairs = λ k d l. absurd (omega arith); sets = λ k d l. absurd (omega arith) };
    closure = subst (IsClosureOfFacts m n []) (sym words) (IsClosureOfFacts-none m n k);
  };
  older = λ k d l. absurd (omega arith);
  numbers = record { each = λ k v l. absurd (omega arith) };
  kept = refl;
  facts = record { rising = λ i j d o l. absurd (omega arith); below = λ k d l. absurd (omega arith) };
}

-- what is said of the version so many before the newest one
pub record IsBack (s : StoreState) (back : ℕ) (v : VersionState) : Type 0 where
  pub value : (number : ℕ) → number + back ≡ s.newest.number → version_with s number ≡ Some v
  pub version : IsVersion s.calculus s.nodes v

pub IsBack-newest : (s : StoreState) (back : ℕ) → IsStore s → back ≡ 0 → IsBack s back s.newest
IsBack-newest s back k z = record {
  value = λ number e.
      version_with-back s number back s.newest k e (omega arith) ∙ ap Some (get_or_push s.older s.newest s.newest (length s.older - back) (omega arith));
  version = k.newest;
}

pub IsBack-older : (s : StoreState) (back at : ℕ) (v : VersionState) → IsStore s → back ≢ 0 → back ≤ length s.older → at ≡ length s.older - back → v ≡ get_or s.older at v → IsBack s back v
IsBack-older s back at v k some b e read =
    let l : at < length s.older = omega arith in
    let there : v ≡ get_or (kept_versions s) at v = read ∙ sym (get_or_append_left s.older (s.newest ∷ []) v at l) in
    record {
      value = λ number f.
          version_with-back s number back v k f b ∙ ap (λ i. Some (get_or (kept_versions s) i v)) (sym e) ∙ ap Some (sym there);
      version = subst (IsVersion s.calculus s.nodes) (sym read) (All-get_or (IsVersion s.calculus s.nodes) s.older at v l k.older);
    }
